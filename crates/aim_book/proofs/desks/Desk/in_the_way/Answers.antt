use Rattle.std.proofs.Common.{◌≡◌, sym, refl, true, false}
use Rattle.aim_layout.specs.Policies.{has_lane}
use Rattle.aim_book.proofs.EarlyLemmas.{way_found}
use Rattle.aim_book.proofs.desks.Desk.in_the_way.Goals as goal

pub returns-then-has_lane : goal.returns-then-has_lane
returns-then-has_lane g c = λ k v place tells calling.
    let way = way_found c.args.layout.now v place k c.args.params.now c.args.self.now c.policy_at-policy.result.0 c.policy_at-policy.result.1 c.lanes-lanes.result c.now.result c.times-horizon.result.horizon c.kind.result tells calling
    c.policy_at-policy.ensures.policy c.kind.ensures (sym c.if-not-gives_way.ensures) c.now.ensures.now (rw (c.times-horizon.ensures.times, c.ground.ensures.times) refl) c.lanes-lanes.ensures in
    let here : has_lane c.lanes-lanes.result c.args.params.now.lane ≡ true = sym c.if-has_lane.ensures in
    rw (way, here) refl

pub returns-in-Some : goal.returns-in-Some
returns-in-Some g c = λ k v place tells calling.
    let way = way_found c.args.layout.now v place k c.args.params.now c.args.self.now c.policy_at-policy.result.0 c.policy_at-policy.result.1 c.lanes-lanes.result c.now.result c.times-horizon.result.horizon c.kind.result tells calling
    c.policy_at-policy.ensures.policy c.kind.ensures (sym c.if-not-gives_way.ensures) c.now.ensures.now (rw (c.times-horizon.ensures.times, c.ground.ensures.times) refl) c.lanes-lanes.ensures in
    let here : has_lane c.lanes-lanes.result c.args.params.now.lane ≡ false = sym c.if-has_lane.ensures in
    rw (way, here, ← c.least_lane.ensures, c.in-Some.is) refl

pub returns-in-None : goal.returns-in-None
returns-in-None g c = λ k v place tells calling.
    let way = way_found c.args.layout.now v place k c.args.params.now c.args.self.now c.policy_at-policy.result.0 c.policy_at-policy.result.1 c.lanes-lanes.result c.now.result c.times-horizon.result.horizon c.kind.result tells calling
    c.policy_at-policy.ensures.policy c.kind.ensures (sym c.if-not-gives_way.ensures) c.now.ensures.now (rw (c.times-horizon.ensures.times, c.ground.ensures.times) refl) c.lanes-lanes.ensures in
    let here : has_lane c.lanes-lanes.result c.args.params.now.lane ≡ false = sym c.if-has_lane.ensures in
    rw (way, here, ← c.least_lane.ensures, c.in-None.is) refl
