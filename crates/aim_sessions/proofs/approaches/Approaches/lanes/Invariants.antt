use Rattle.std.proofs.Common.{◌≡◌, ℕ, None, get_or, take}
use Rattle.std.specs.List.{list_any}
use Rattle.aim_layout.specs.Policies.{has_lane}
use Rattle.aim_sessions.specs.Calls.{is_call_in}
use Rattle.aim_sessions.proofs.approaches.Approaches.lanes.Given as goal

abbrev pub invariant-loop-vehicle : goal.invariant-loop-vehicle
invariant-loop-vehicle l =
    (lane : ℕ) → has_lane l.lanes lane ≡ list_any (λ w. is_call_in l.now l.horizon lane (get_or l.self-inside.calls.items w None)) (take l.vehicle-index l.self-inside.callers.list.items)
