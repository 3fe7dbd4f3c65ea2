use Rattle.std.proofs.Common.{decimal}
use Rattle.aim_messages.proofs.Words.{words_on, one_on, number_room}
use Rattle.aim_messages.proofs.writing.lines.put_numbers.Goals as goal

pub loop-n-preserved : goal.loop-n-preserved
loop-n-preserved c = record {
  rest = words_on decimal c.loop-n.out c.number.new.self _ c.args.numbers.now c.loop-n.n-index c.loop-n-test.true c.number.ensures.added c.loop-n.invariant.rest;
  len = one_on c.args.out.now c.loop-n.out c.number.new.self 11 c.loop-n.n-index c.loop-n.invariant.len (number_room _ _ 10 c.number.ensures.len);
}
