use Rattle.std.proofs.Common.{◌≡◌, ◌<◌, ℕ, [], false, get_or, length}
use Rattle.aim_geometry.specs.Rects.{has_bit}
use Rattle.aim_safety.proofs.traces.gather_row.Given as goal

abbrev pub invariant-loop-k : goal.invariant-loop-k
invariant-loop-k l = record {
  never : (col j : ℕ) → j < l.k → has_bit l.shown col ≡ false → has_bit (get_or (get_or l.steps j []) l.row 0) col ≡ false;
  gathered : (j : ℕ) → j < l.k → get_or l.masks j 0 ≡ get_or (get_or l.steps j []) l.row 0;
  size : length l.masks ≡ 2048;
}
