use Rattle.std.proofs.Common.{ℕ, ◌<◌, ◌≤◌}
use Rattle.aim_tiles.specs.Words.{AreApart}
use Rattle.aim_tiles.proofs.lanes.plain_meeting.Given as goal

abbrev pub invariant-loop-i : goal.invariant-loop-i
invariant-loop-i l = (k : ℕ) → l.fn.at ≤ k → k < l.i → AreApart l.left l.right k
