use Rattle.std.proofs.Common.{ℕ, ◌<◌, ◌≤◌, ◌-◌, length}
use Rattle.aim_tiles.specs.Words.{AreApart}
use Rattle.aim_tiles.proofs.lanes.meeting_from.Given as goal

abbrev pub invariant-loop-next : goal.invariant-loop-next
invariant-loop-next l = record { from : l.at ≤ l.next; within : l.next ≤ length l.left; apart : (k : ℕ) → l.at ≤ k → k < l.next → AreApart l.left l.right k }

abbrev pub decreases-loop-next : goal.decreases-loop-next
decreases-loop-next l = length l.left - l.next
