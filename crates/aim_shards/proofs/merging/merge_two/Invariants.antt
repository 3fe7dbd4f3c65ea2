use Rattle.std.proofs.Common.{◌+◌, ◌-◌, ◌≤◌, ◌++◌, length, drop}
use Rattle.std.specs.Prelude.{vec_len, vec_capacity}
use Rattle.aim_shards.specs.Left.{IsLeft}
use Rattle.aim_shards.proofs.merging.merge_two.Given as goal

abbrev pub invariant-loop-i : goal.invariant-loop-i
invariant-loop-i l = record { within : l.i ≤ length l.left; within_too : l.j ≤ length l.right; left : IsLeft (l.left ++ l.right) l.merged.items (drop l.i l.left) (drop l.j l.right); room : vec_len l.merged + (length l.left - l.i) + (length l.right - l.j) ≤ vec_capacity l.merged }

abbrev pub decreases-loop-i : goal.decreases-loop-i
decreases-loop-i l = (length l.left - l.i) + (length l.right - l.j)
