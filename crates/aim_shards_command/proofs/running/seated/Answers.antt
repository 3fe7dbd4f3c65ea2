use Rattle.std.proofs.Common.{arith}
use Rattle.std.proofs.lemmas.Iterator.Adapters.{YieldsList-from_vec}
use Rattle.std.proofs.lemmas.Iterator.Consumers.{YieldsList-turn}
use Rattle.std.proofs.lemmas.List.{length_push}
use Rattle.aim_shards_command.proofs.Seating.{ready_more}
use Rattle.aim_shards_command.proofs.running.seated.Goals as goal

pub loop-pass-preserved : goal.loop-pass-preserved
loop-pass-preserved c =
    let i = c.loop-pass.invariant in
    let gives = c.into_iter-pass-iterator.ensures.into_iter_gives in
    let t = YieldsList-turn (YieldsList-from_vec {s = c.into_iter-pass-iterator.result} c.args.passes.items gives.0 (omega (arith, gives.1))) c.loop-pass.yielded c.loop-pass.pass-iterator c.loop-pass.yielded_by c.next.result c.next.new.self c.in-Some.pass c.in-Some.is c.next.ensures.steps in
    let p = c.push_reserved.ensures in
    let n = c.in_ok-new.ensures in record {
      count = omega (arith, p.len, i.count, length_push c.loop-pass.yielded c.in-Some.pass);
      room = omega (arith, p.capacity, i.room);
      ready = λ s all. ready_more s c.args.passes.items _ c.in-Some.pass c.loop-pass.callers.items c.push_reserved.new.self.items c.in_ok-new.field-0 all t.0 t.1 (i.ready s all) p.items n.pass n.tickets.0 n.tickets.1;
    }
