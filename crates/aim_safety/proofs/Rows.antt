-- Worked rows: where drivers are, which logs fit a history, what was granted to whom, and that the premises of the law of safety can be met.
use Rattle.std.proofs.Common.{ℕ, List, [], ◌∷◌, map}
use Rattle.std.specs.List.{range_with_len}
use Rattle.aim_geometry.specs.Cells.{Cell}
pub mod Drives
pub mod Whole
pub mod Reserved

-- a tile from one step to another
abbrev pub on : ℕ → ℕ → ℕ → ℕ → List Cell
on row col first count = map (λ s. record { row = row; col = col; step = s }) (range_with_len first count)
