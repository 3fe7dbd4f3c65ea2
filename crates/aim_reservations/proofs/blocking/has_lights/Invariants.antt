use Rattle.std.proofs.Common.{◌≡◌, false, take}
use Rattle.std.specs.List.{list_any}
use Rattle.aim_layout.specs.Policies.{has_lights}
use Rattle.aim_reservations.proofs.blocking.has_lights.Given as goal

abbrev pub invariant-loop-policy : goal.invariant-loop-policy
invariant-loop-policy l = list_any (λ p. has_lights p.kind) (take l.policy l.layout.policies) ≡ false
