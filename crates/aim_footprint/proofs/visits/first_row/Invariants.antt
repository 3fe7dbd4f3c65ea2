use Rattle.std.proofs.Common.{◌≡◌, ℕ, ◌<◌, get_or}
use Rattle.aim_footprint.proofs.visits.first_row.Given as goal

abbrev pub invariant-loop-row : goal.invariant-loop-row
invariant-loop-row l = (row : ℕ) → row < l.row → get_or l.masks row 0 ≡ 0
