use Rattle.std.proofs.Common.{◌≡◌, ◌&&◌, true, arith, refl, sym, ◌∙◌}
use Rattle.aim_geometry.proofs.BoundedLemmas.{some_below_at, some_below_none}
use Rattle.aim_layout.specs.Policies.{has_lane}
use Rattle.aim_layout.specs.Building.{share_tile}
use Rattle.aim_layout.proofs.builders.Builder.meets_earlier.Goals as goal

pub returns-then-share_tile : goal.returns-then-share_tile
returns-then-share_tile c =
    let i = c.args.self.now in
    let lit : has_lane c.args.lanes c.loop-other.other ≡ true = sym c.has_lane.ensures ∙ c.if-has_lane.true in
    let shared : share_tile i c.args.lane c.loop-other.other ≡ true = sym c.share_tile.ensures ∙ c.if-share_tile.true in
    sym (some_below_at c.args.lane (λ b. has_lane c.args.lanes b && share_tile i c.args.lane b) c.loop-other.other (omega arith) (rw (lit, shared) refl))

pub returns : goal.returns
returns c =
    sym (some_below_none c.args.lane (λ b. has_lane c.args.lanes b && share_tile c.args.self.now c.args.lane b) (λ k l. c.loop-other.invariant k (omega arith)))
