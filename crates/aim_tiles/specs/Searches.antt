-- The first of some cells.
use Rattle.std.specs.Prelude.{◌≡◌, ℕ, ◌+◌, ◌<◌, Bool, true, false, not, ◌&&◌, List, [], length, slice_index, slice_index_or, Option, None, Some}
use Rattle.std.specs.Ordering.{is_le}
use Rattle.aim_sheets.specs.declared.spans.Span.{Span}
use Rattle.aim_sheets.specs.Sheets.{Spans}
use Rattle.aim_geometry.specs.Cells.{Cell, cell_at}
use Rattle.aim_sheets.specs.Spans.{in_span, in_spans}
use Rattle.aim_tiles.specs.Cells.{TakenCells, cell_cmp, has_cell}
use Rattle.aim_tiles.specs.Pages.{is_marked}

-- the spans of the sheet, if there is one
abbrev pub spans_of : Option Spans → List Span
spans_of None = []
spans_of (Some sheet) = sheet.spans

-- whether the cell is one of the spans', is taken, and is none of the own ones
abbrev pub is_taken : TakenCells → List Span → List Span → Cell → Bool
is_taken table spans own cell = in_spans spans cell && (has_cell table cell && not (in_spans own cell))

-- the cell passes the test, and none that passes comes before it by step, row and column
pub record IsFirst (test : Cell → Bool) (cell : Cell) : Type 0 where
  pub passes : test cell ≡ true
  pub least : (other : Cell) → test other ≡ true → is_le (cell_cmp cell other) ≡ true

-- whether the cell is one of the span's, is marked, and is none of the own ones
abbrev pub is_hit : List ℕ → ℕ → ℕ → ℕ → List Span → Span → Cell → Bool
is_hit words size horizon now own span cell = in_span span cell && (is_marked words size horizon now cell && not (in_spans own cell))

-- no cell of the span passes
abbrev pub IsClear : (Span → Cell → Bool) → Span → Type 0
IsClear test span = (cell : Cell) → test span cell ≡ false

-- the cell passes at one of the spans, at none of those before it, and in no lower column
pub record IsFirstHit (test : Span → Cell → Bool) (spans : List Span) (cell : Cell) : Type 0 where
  pub place : ℕ
  pub within : place < length spans
  pub hit : (d : Span) → test (slice_index_or spans place d) cell ≡ true
  pub before : (k : ℕ) (d : Span) → k < place → IsClear test (slice_index_or spans k d)
  pub lowest : (d : Span) (column : ℕ) → column < cell.col → test (slice_index_or spans place d) (cell_at cell.step cell.row column) ≡ false

-- the spans from the first on are of its step and of neighbouring rows, as far as there are masks, which are theirs
pub record IsRun (spans : List Span) (masks : List ℕ) (count : ℕ) : Type 0 where
  pub step : (k : ℕ) (d : Span) → k < count → (slice_index_or spans k d).step ≡ (slice_index_or spans 0 d).step
  pub row : (k : ℕ) (d : Span) → k < count → (slice_index_or spans k d).row ≡ (slice_index_or spans 0 d).row + k
  pub mask : (k : ℕ) (d : Span) → k < count → slice_index masks k ≡ (slice_index_or spans k d).mask
