use Rattle.std.proofs.Common.{map, ap, ◌∙◌, arith}
use Rattle.std.proofs.lemmas.List.{take_all}
use Rattle.aim_shards_command.specs.declared.lines.ShardLine.TheVariants as line
use Rattle.aim_shards_command.specs.Calling.{mark_in}
use Rattle.aim_shards_command.proofs.Marks.{marks_more}
use Rattle.aim_shards_command.proofs.callers.marks_of.Goals as goal

pub loop-line-preserved : goal.loop-line-preserved
loop-line-preserved c =
    let i = c.loop-line.invariant in
    let p = c.push_reserved.ensures in
    record {
      are = marks_more c.args.lines.now c.loop-line.line-index (line.Shards 0 0 0) c.loop-line.marks.items c.push_reserved.new.self.items c.mark_in.result c.loop-line-test.true i.are p.items c.mark_in.ensures;
      count = omega (arith, i.count, p.len);
      room = omega (arith, i.room, p.capacity);
    }

pub returns : goal.returns
returns c = c.loop-line.invariant.are ∙ ap (map mark_in) (take_all c.loop-line.line-index c.args.lines.now (omega (arith, c.loop-line-test.false)))
