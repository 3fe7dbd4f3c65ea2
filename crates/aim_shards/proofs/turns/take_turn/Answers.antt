use Rattle.std.proofs.Common.{refl, sym, ◌∙◌}
use Rattle.aim_shards.proofs.Walks.{few_turns, works_more, works_at, and_true, found_more, found_off, in_hand_came, tiles_at, clear_at}
use Rattle.aim_shards.proofs.turns.take_turn.Goals as goal

pub enter-requires-clause-works : goal.enter-requires-clause-works
enter-requires-clause-works g c = ((c.args.number, c.requires.works.is), few_turns c.args.set.now c.args.quadrant c.requires.quadrant c.requires.works)

pub is_free-free-requires-clause-held : goal.is_free-free-requires-clause-held
is_free-free-requires-clause-held g c = in_hand_came c.enter.ensures.came

pub is_free-free-requires-clause-tiles : goal.is_free-free-requires-clause-tiles
is_free-free-requires-clause-tiles g c h = tiles_at c.part.ensures.spans c.requires.of c.enter.ensures.came h

pub returns-then-found-clause-works : goal.returns-then-found-clause-works
returns-then-found-clause-works g c = works_at c.is_free-free.ensures.seat.2 (works_more c.args.set.now c.args.quadrant (sym c.touches.ensures.touches ∙ c.if-not-touches.false) c.requires.works c.enter.ensures.came)

pub returns-then-found-clause-found : goal.returns-then-found-clause-found
returns-then-found-clause-found g c =
    found_more c.args.set.now c.args.quadrant c.is_free-free.result (sym c.touches.ensures.touches ∙ c.if-not-touches.false) c.requires.found c.enter.ensures.came c.is_free-free.ensures.seat.2 (λ h. clear_at c.is_free-free.result c.args.set.now c.part.ensures.spans h (λ k. c.is_free-free.ensures.free k))
    (and_true _ _ c.if-found.true) refl

pub returns-else-found-clause-works : goal.returns-else-found-clause-works
returns-else-found-clause-works g c = works_more c.args.set.now c.args.quadrant (sym c.touches.ensures.touches ∙ c.if-not-touches.false) c.requires.works c.enter.ensures.came

pub returns-else-found-clause-found : goal.returns-else-found-clause-found
returns-else-found-clause-found g c = found_off c.args.set.now c.args.quadrant (sym c.touches.ensures.touches ∙ c.if-not-touches.false) c.requires.found c.enter.ensures.came refl c.if-found.false c.if-found.false refl
