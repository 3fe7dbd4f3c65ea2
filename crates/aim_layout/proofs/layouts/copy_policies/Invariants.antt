use Rattle.std.proofs.Common.{◌≡◌, ◌≤◌, length, take, vec_capacity, vec_len}
use Rattle.aim_layout.proofs.layouts.copy_policies.Given as goal

abbrev pub invariant-loop-policy : goal.invariant-loop-policy
invariant-loop-policy l = record {
  count : vec_len l.copies ≡ l.policy-index;
  room : length l.policies ≤ vec_capacity l.copies;
  same : l.copies.items ≡ take l.policy-index l.policies;
}
