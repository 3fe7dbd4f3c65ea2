-- Policies with lights, and sets of lanes as numbers.
use Rattle.std.specs.Prelude.{ℕ, ◌/◌, ◌%◌, ◌^◌, Bool, true, false, ◌==◌}
use Rattle.aim_layout.specs.declared.policies.PolicyKind.{PolicyKind}
use Rattle.aim_layout.specs.declared.policies.PolicyKind.TheVariants as kind

-- whether a policy of this kind has phases, in which lanes are green
abbrev pub has_lights : PolicyKind → Bool
has_lights kind.Light = true
has_lights kind.LightEmerg = true
has_lights kind.Fcfs = false
has_lights kind.Emerg = false

-- a set of lanes is a number, and the lane l is in it where bit l is set
abbrev pub has_lane : ℕ → ℕ → Bool
has_lane lanes lane = lanes / 2 ^ lane % 2 == 1
