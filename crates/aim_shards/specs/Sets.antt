-- Sets of cells, cut along the borders of the four quadrants.
use Rattle.std.specs.Prelude.{ℕ, zero, suc, ◌==◌, if◌then◌else◌, Bool, true, false, ◌&&◌, ◌||◌, not, List, [], ◌∷◌, get_or, bit_and, Option, Some, None, ◌≡◌}
use Rattle.std.specs.List.{list_any}
use Rattle.aim_sheets.specs.declared.spans.Span.{Span}
use Rattle.aim_geometry.specs.Cells.{Cell}
use Rattle.aim_sheets.specs.Spans.{is_at, in_spans}

-- the spans of a set in the quadrants 0 to 3
abbrev pub Quarters : Type 0
Quarters = List (List Span)

-- those in the quadrant q
abbrev pub part : Quarters → ℕ → List Span
part set q = get_or set q []

-- whether the set has a cell in the quadrant
abbrev pub is_some : List Span → Bool
is_some [] = false
is_some (s ∷ spans) = true

abbrev pub has_cells : Quarters → ℕ → Bool
has_cells set q = is_some (part set q)

abbrev pub is_empty : Quarters → Bool
is_empty set = not (has_cells set 0 || has_cells set 1 || has_cells set 2 || has_cells set 3)

-- whether a claim of the set touches the quadrant
abbrev pub lies_in : Quarters → ℕ → Bool
lies_in set q = has_cells set q || (is_empty set && (q == 0))

-- whether it touches each of the four
abbrev pub touches_of : Quarters → List Bool
touches_of set = lies_in set 0 ∷ lies_in set 1 ∷ lies_in set 2 ∷ lies_in set 3 ∷ []

-- whether the two spans have a cell in common
abbrev pub span_meets : Span → Span → Bool
span_meets s t = is_at s t.step t.row && not (bit_and s.mask t.mask == 0)

abbrev pub spans_meet : List Span → List Span → Bool
spans_meet a b = list_any (λ s. list_any (λ t. span_meets s t) b) a

-- whether the two sets have a cell in common in the quadrant
abbrev pub meets_in : Quarters → ℕ → Quarters → Bool
meets_in a q b = spans_meet (part a q) (part b q)

abbrev pub meets : Quarters → Quarters → Bool
meets a b = meets_in a 0 b || (meets_in a 1 b || (meets_in a 2 b || meets_in a 3 b))

-- the set of this number, or none at all
abbrev pub set_at : List Quarters → ℕ → Quarters
set_at sets k = get_or sets k []

-- whether the cell is one of the set's
abbrev pub in_set : Quarters → Cell → Bool
in_set set cell = list_any (λ spans. in_spans spans cell) set

-- the quadrants below n that a claim of the set touches, in falling order
abbrev pub touched : Quarters → ℕ → List ℕ
touched set zero = []
touched set (suc q) = if lies_in set q then q ∷ touched set q else touched set q

-- the set of this number, where one is named
abbrev pub chosen : List Quarters → Option ℕ → Quarters
chosen sets None = []
chosen sets (Some k) = set_at sets k

-- in each quadrant the two sets have one part
abbrev pub SameParts : Quarters → Quarters → Type 0
SameParts a b = (q : ℕ) → part a q ≡ part b q

-- the set is one of the sets, or none at all
pub record IsOf (sets : List Quarters) (set : Quarters) : Type 0 where
  pub number : ℕ
  pub same : SameParts set (set_at sets number)
