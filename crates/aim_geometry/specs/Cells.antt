-- A tile in a step.
use Rattle.std.specs.Prelude.{ℕ}

pub record Cell : Type 0 where
  pub row : ℕ
  pub col : ℕ
  pub step : ℕ

abbrev pub cell_at : ℕ → ℕ → ℕ → Cell
cell_at step row col = record { row = row; col = col; step = step }
