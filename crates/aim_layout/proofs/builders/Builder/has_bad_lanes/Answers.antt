use Rattle.std.proofs.Common.{◌≡◌, ◌^◌, ◌&&◌, true, false, length, arith, ap, refl, sym, ◌∙◌}
use Rattle.std.specs.Prelude.{nat_le}
use Rattle.std.proofs.Math.Bool.{or-true}
use Rattle.aim_geometry.specs.Bounded.{some_below}
use Rattle.aim_geometry.proofs.BoundedLemmas.{some_below_at, some_below_none}
use Rattle.aim_layout.specs.Policies.{has_lane}
use Rattle.aim_layout.specs.Building.{share_tile}
use Rattle.aim_layout.proofs.builders.Builder.has_bad_lanes.Goals as goal

pub returns : goal.returns
returns c =
    let i = c.args.self.now in
    let count : c.len-count.result ≡ length i.lanes = omega (arith, ap (λ i. length i.lanes) c.self.view_is) in
    let first : nat_le (2 ^ length i.lanes) c.args.lanes ≡ false = rw count at (sym c.has_further.ensures ∙ c.if-has_further.false) in
    rw first
    (sym (some_below_none (length i.lanes) (λ a. has_lane c.args.lanes a && some_below a (λ b. has_lane c.args.lanes b && share_tile i a b)) (λ k l. c.loop-lane.invariant k (omega arith))))

pub returns-then-meets_earlier : goal.returns-then-meets_earlier
returns-then-meets_earlier c =
    let i = c.args.self.now in
    let count : c.len-count.result ≡ length i.lanes = omega (arith, ap (λ i. length i.lanes) c.self.view_is) in
    let lit : has_lane c.args.lanes c.loop-lane.lane ≡ true = sym c.has_lane.ensures ∙ c.if-has_lane.true in
    let meets : some_below c.loop-lane.lane (λ b. has_lane c.args.lanes b && share_tile i c.loop-lane.lane b) ≡ true = sym c.meets_earlier.ensures ∙ c.if-meets_earlier.true in
    let some : some_below (length i.lanes) (λ a. has_lane c.args.lanes a && some_below a (λ b. has_lane c.args.lanes b && share_tile i a b)) ≡ true =
    some_below_at (length i.lanes) (λ a. has_lane c.args.lanes a && some_below a (λ b. has_lane c.args.lanes b && share_tile i a b)) c.loop-lane.lane (omega arith) (rw (lit, meets) refl) in
    rw some (sym (or-true (nat_le (2 ^ length i.lanes) c.args.lanes)))
