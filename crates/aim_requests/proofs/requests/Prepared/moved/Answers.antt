use Rattle.std.proofs.Common.{◌≡◌, ℕ, List, [], ap, ◌∙◌, refl, map}
use Rattle.aim_sheets.specs.Sheets.{Spans}
use Rattle.aim_sheets.specs.Moves.{moved}
use Rattle.aim_requests.specs.Requests.{Request}
use Rattle.aim_requests.proofs.ShapeLemmas.{is_move, first_may, second_may, moved_request}
use Rattle.aim_requests.proofs.requests.Prepared.moved.Goals as goal

-- a sheet that was empty, with the spans that have moved
filled : (xs : List _) (from to room : ℕ) (was is : Spans) → was ≡ record { spans = []; room = room } → is ≡ record was { spans = map (moved from to) xs } →
    is ≡ record { spans = map (moved from to) xs; room = room }
filled xs from to room was is empty copied = copied ∙ ap (λ (s : Spans). record { spans = map (moved from to) xs; room = s.room }) empty

pub copy_moved-requires-clause-reach : goal.copy_moved-requires-clause-reach
copy_moved-requires-clause-reach c =
    let t = c.times-edge.ensures.times ∙ c.ground.ensures.times in
    let m = is_move _ _ _ _ _ _ t c.times-edge.ensures.valid c.requires.prepared c.requires.asks c.requires.from c.requires.to c.requires.last in
    rw c.spans-fast.ensures.spans (first_may _ _ _ _ _ _ m c.self.inside.first.spans (ap (λ (r : Request). r.first.spans) c.self.view_is) (rw c.spans-fast.ensures.spans at c.spans-fast.ensures.marked))

pub copy_moved-requires-2-clause-reach : goal.copy_moved-requires-2-clause-reach
copy_moved-requires-2-clause-reach c =
    let t = c.times-edge.ensures.times ∙ c.ground.ensures.times in
    let m = is_move _ _ _ _ _ _ t c.times-edge.ensures.valid c.requires.prepared c.requires.asks c.requires.from c.requires.to c.requires.last in
    rw c.spans-steady.ensures.spans (second_may _ _ _ _ _ _ m c.self.inside.second.spans (ap (λ (r : Request). r.second.spans) c.self.view_is) (rw c.spans-steady.ensures.spans at c.spans-steady.ensures.marked))

pub returns-clause-prepared : goal.returns-clause-prepared
returns-clause-prepared c =
    let t = c.times-edge.ensures.times ∙ c.ground.ensures.times in
    let m = is_move _ _ _ _ _ _ t c.times-edge.ensures.valid c.requires.prepared c.requires.asks c.requires.from c.requires.to c.requires.last in
    moved_request _ _ _ _ _ _ m c.args.message.now c.self.inside.steps c.copy_moved.new.self c.copy_moved-2.new.self c.self.inside.first.spans c.self.inside.second.spans
    refl (ap (λ (r : Request). r.steps) c.self.view_is) (ap (λ (r : Request). r.first.spans) c.self.view_is) (ap (λ (r : Request). r.second.spans) c.self.view_is)
    (rw c.spans-fast.ensures.spans at c.spans-fast.ensures.marked) (rw c.spans-steady.ensures.spans at c.spans-steady.ensures.marked)
    (filled _ _ _ _ _ _ c.requires.first (rw c.spans-fast.ensures.spans at c.copy_moved.ensures))
    (filled _ _ _ _ _ _ c.requires.second (rw c.spans-steady.ensures.spans at c.copy_moved-2.ensures))

pub invariant_of-result : goal.invariant_of-result
invariant_of-result c =
    let t = c.times-edge.ensures.times ∙ c.ground.ensures.times in
    let m = is_move _ _ _ _ _ _ t c.times-edge.ensures.valid c.requires.prepared c.requires.asks c.requires.from c.requires.to c.requires.last in (
      c.args.layout.now,
      moved_request _ _ _ _ _ _ m c.args.message.now c.self.inside.steps c.copy_moved.new.self c.copy_moved-2.new.self c.self.inside.first.spans c.self.inside.second.spans
          refl (ap (λ (r : Request). r.steps) c.self.view_is) (ap (λ (r : Request). r.first.spans) c.self.view_is) (ap (λ (r : Request). r.second.spans) c.self.view_is)
          (rw c.spans-fast.ensures.spans at c.spans-fast.ensures.marked) (rw c.spans-steady.ensures.spans at c.spans-steady.ensures.marked)
          (filled _ _ _ _ _ _ c.requires.first (rw c.spans-fast.ensures.spans at c.copy_moved.ensures))
          (filled _ _ _ _ _ _ c.requires.second (rw c.spans-steady.ensures.spans at c.copy_moved-2.ensures)),
    )
