use Rattle.std.proofs.Common.{arith}
use Rattle.std.proofs.lemmas.Iterator.Adapters.{YieldsList-from_vec}
use Rattle.std.proofs.lemmas.Iterator.Consumers.{YieldsList-turn}
use Rattle.std.proofs.lemmas.List.{length_push}
use Rattle.aim_shards_command.proofs.Seating.{done_more}
use Rattle.aim_shards_command.proofs.running.passes_of.Goals as goal

pub loop-caller-preserved : goal.loop-caller-preserved
loop-caller-preserved c =
    let i = c.loop-caller.invariant in
    let gives = c.into_iter-caller-iterator.ensures.into_iter_gives in
    let t = YieldsList-turn (YieldsList-from_vec {s = c.into_iter-caller-iterator.result} c.args.callers.items gives.0 (omega (arith, gives.1))) c.loop-caller.yielded c.loop-caller.caller-iterator c.loop-caller.yielded_by c.next.result c.next.new.self c.in-Some.caller c.in-Some.is c.next.ensures.steps in
    let p = c.push_reserved.ensures in record {
      count = omega (arith, p.len, i.count, length_push c.loop-caller.yielded c.in-Some.caller);
      room = omega (arith, p.capacity, i.room);
      done = λ s lines all. done_more s lines c.args.callers.items _ c.in-Some.caller c.loop-caller.passes.items c.push_reserved.new.self.items all t.0 t.1 (i.done s lines all) p.items;
    }
