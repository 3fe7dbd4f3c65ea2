use Rattle.std.proofs.Common.{◌≡◌, ◌≤◌, ◌*◌, take, slice_get, length}
use Rattle.aim_rules.specs.Lights.{round}
use Rattle.aim_policies.specs.Plans.{phases_of}
use Rattle.aim_policies.proofs.plans.gather.Given as goal

abbrev pub invariant-loop-number : goal.invariant-loop-number
invariant-loop-number l = record {
  long : length l.phases ≡ 16;
  taken : take l.number l.phases ≡ take l.number (phases_of (slice_get l.layout.policies l.policy));
  steps : l.round ≡ round (take l.number (phases_of (slice_get l.layout.policies l.policy)));
  most : l.round ≤ 131072 * l.number;
}
