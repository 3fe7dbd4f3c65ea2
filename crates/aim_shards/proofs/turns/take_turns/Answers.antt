use Rattle.std.proofs.Common.{refl, ◌∙◌, arith}
use Rattle.aim_shards.proofs.Walks.{works_from, found_from, works_own, works_back, works_next, found_next, of_own}
use Rattle.aim_shards.proofs.turns.take_turns.Goals as goal

pub loop-quadrant-init : goal.loop-quadrant-init
loop-quadrant-init g c = record { table = refl; id = refl; works = works_from c.args.set.now c.requires.rests; of = c.requires.of; four = λ le. absurd (omega (arith, le)); found = found_from c.args.set.now c.requires.rests _ refl refl }

pub take_turn-found-requires-clause-works : goal.take_turn-found-requires-clause-works
take_turn-found-requires-clause-works g c = works_own c.loop-quadrant.invariant.works

pub take_turn-found-requires-clause-of : goal.take_turn-found-requires-clause-of
take_turn-found-requires-clause-of g c = of_own c.loop-quadrant.invariant.works c.loop-quadrant.invariant.of

pub loop-quadrant-preserved : goal.loop-quadrant-preserved
loop-quadrant-preserved g c =
    let i = c.loop-quadrant.invariant in
    let t = c.take_turn-found.ensures in
    record {
      table = t.seat.0 ∙ i.table;
      id = t.seat.1 ∙ i.id;
      works = works_next c.args.set.now c.loop-quadrant.quadrant (works_back i.works t.works);
      of = i.of;
      four = λ _. t.four;
      found = found_next c.args.set.now c.loop-quadrant.quadrant t.found;
    }
