-- The cells of spans.
use Rattle.std.specs.Prelude.{◌≡◌, ℕ, Bool, true, ◌&&◌, ◌||◌, ◌==◌, nat_lt, List, AllPairs, All, ◌≢◌}
use Rattle.std.specs.List.{list_any}
use Rattle.aim_geometry.specs.Cells.{Cell}
use Rattle.aim_geometry.specs.Rects.{has_bit}
use Rattle.aim_sheets.specs.declared.spans.Span.{Span}

-- whether the span is of this step and row
abbrev pub is_at : Span → ℕ → ℕ → Bool
is_at span step row = span.step == step && span.row == row

-- whether the span is of an earlier step, or of a lower row of the same step
abbrev pub precedes : Span → ℕ → ℕ → Bool
precedes span step row = nat_lt span.step step || span.step == step && nat_lt span.row row

-- whether the cell is one of the span's
abbrev pub in_span : Span → Cell → Bool
in_span span cell = is_at span cell.step cell.row && has_bit span.mask cell.col

-- whether the cell is one of the spans'
abbrev pub in_spans : List Span → Cell → Bool
in_spans spans cell = list_any (λ span. in_span span cell) spans

-- whether one of the spans is of this step and row
abbrev pub has_place : List Span → ℕ → ℕ → Bool
has_place spans step row = list_any (λ span. is_at span step row) spans

-- each span comes before those after it, by step and then by row: so there is one at most of a step and row
abbrev pub AreRising : List Span → Type 0
AreRising spans = AllPairs (λ a b. precedes a b.step b.row ≡ true) spans

-- no span is without a cell
abbrev pub AreMarked : List Span → Type 0
AreMarked spans = All (λ span. span.mask ≢ 0) spans
