use Rattle.std.proofs.Common.{◌≡◌, ℕ, ◌<◌, ◌+◌, get_or}
use Rattle.aim_footprint.proofs.visits.last_row.Given as goal

abbrev pub invariant-loop-past : goal.invariant-loop-past
invariant-loop-past l = (row : ℕ) → 63 < row + l.past → row < 64 → get_or l.masks row 0 ≡ 0
