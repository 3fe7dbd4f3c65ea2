-- What a row of masks says of a row of a chart.
use Rattle.std.specs.Prelude.{◌≡◌, ◌<◌, ℕ, ◌&&◌, not, nat_lt, List}
use Rattle.aim_messages.specs.declared.entries.Entry.{Entry}
use Rattle.aim_geometry.specs.Cells.{cell_at}
use Rattle.aim_geometry.specs.Rects.{has_bit}
use Rattle.aim_layout.specs.Intersection.{Intersection}
use Rattle.aim_rules.specs.History.{now_of}
use Rattle.aim_book.specs.Charted.{is_claimed_by_some, is_held}

-- the masks have the bits of the columns that a vehicle holds and that a lane claims, of a step that isn't past
pub record Marks (i : Intersection) (h : List Entry) (row step held claimed : ℕ) : Type 0 where
  pub held_columns : (col : ℕ) → has_bit held col ≡ (not (nat_lt step (now_of h 0)) && is_held i h (cell_at step row col))
  pub claimed_columns : (col : ℕ) → col < 64 → has_bit claimed col ≡ (not (nat_lt step (now_of h 0)) && is_claimed_by_some i h (cell_at step row col))
