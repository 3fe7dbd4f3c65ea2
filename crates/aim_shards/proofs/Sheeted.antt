-- Sets of rectangles lie on the grid.
use Rattle.std.proofs.Common.{◌≡◌, ℕ, zero, suc, ◌+◌, ◌<◌, ◌≤◌, true, ◌&&◌, List, [], ◌∷◌, ◌++◌, length, length-append, take, get_or, refl, sym, ap, ◌∙◌, subst, arith}
use Rattle.std.specs.Prelude.{All, nat_le}
use Rattle.std.proofs.lemmas.Bool.{and_parts}
use Rattle.std.proofs.lemmas.Bool.Decides.{nat_tests}
use Rattle.std.proofs.lemmas.List.Elements.{All-append, All-nil, All-cons}
use mathlib.Core.Logic.{dite}
use native.Mathlib.Decide.{ℕ_discrete}
use Rattle.aim_geometry.specs.Cells.{Cell}
use Rattle.aim_sheets.specs.Spans.{in_spans}
use Rattle.aim_sheets.specs.Sheets.{Spans}
use Rattle.aim_tiles.specs.Cells.{in_range}
use Rattle.aim_tiles.specs.Sheets.{AreTiles, AreAhead}
use Rattle.aim_shards.specs.declared.rectangles.Rectangle.{Rectangle}
use Rattle.aim_shards.specs.Cuts.{spans_at}
use Rattle.aim_shards.specs.Rectangles.{is_between, in_rectangle, FitsGrid}
use Rattle.aim_shards.specs.Fitting.{AreSheets}
use Rattle.aim_shards.proofs.Cutting.{taken_more}

upto : (low high k : ℕ) → is_between low high k ≡ true → (low ≤ k) × (k ≤ high)
upto low high k h = (let p = and_parts (nat_le low k) (nat_le k high) h in (low_of p.0, high_of p.1))
  where
    low_of : nat_le low k ≡ true → low ≤ k
    low_of e = grind (arith, nat_tests)

    high_of : nat_le k high ≡ true → k ≤ high
    high_of e = grind (arith, nat_tests)

-- the cells of one set lie on the grid
on_grid : (n horizon : ℕ) (r : Rectangle) (s : Spans) → FitsGrid n horizon r → ((cell : Cell) → in_spans s.spans cell ≡ in_rectangle r cell) → AreTiles n s.spans × AreAhead 0 horizon s.spans
on_grid n horizon r s f is' = (λ cell h. let p = parts cell h in (omega (arith, f.last_row, (upto r.row0 r.row1 cell.row p.1).1), omega (arith, f.last_column, (upto r.col0 r.col1 cell.col p.2).1)), λ cell h. let p = parts cell h in ahead cell.step (omega (arith, f.last_step, (upto r.from r.to cell.step p.0).1)))
  where
    parts : (cell : Cell) → in_spans s.spans cell ≡ true → (is_between r.from r.to cell.step ≡ true) × (is_between r.row0 r.row1 cell.row ≡ true) × (is_between r.col0 r.col1 cell.col ≡ true)
    parts cell h =
        let a = and_parts (is_between r.from r.to cell.step) (is_between r.row0 r.row1 cell.row && is_between r.col0 r.col1 cell.col) (sym (is' cell) ∙ h) in
        let b = and_parts (is_between r.row0 r.row1 cell.row) (is_between r.col0 r.col1 cell.col) a.1 in (a.0, b.0, b.1)

    ahead : (k : ℕ) → k < horizon → in_range 0 horizon k ≡ true
    ahead k lt = grind (arith, nat_tests)

at_front : (xs : List Spans) (s : Spans) (k : ℕ) → k < length xs → spans_at (xs ++ s ∷ []) k ≡ spans_at xs k
at_front [] s k lt = absurd (omega arith)
at_front (x ∷ xs) s zero lt = refl
at_front (x ∷ xs) s (suc k) lt = at_front xs s k (omega arith)

at_last : (xs : List Spans) (s : Spans) (k : ℕ) → k ≡ length xs → spans_at (xs ++ s ∷ []) k ≡ s.spans
at_last [] s zero e = refl
at_last [] s (suc k) e = absurd (omega (arith, e))
at_last (x ∷ xs) s zero e = absurd (omega (arith, e))
at_last (x ∷ xs) s (suc k) e = at_last xs s k (omega (arith, e))

front : {A : Type 0} (xs : List A) (x : A) (k : ℕ) (d : A) → k < length xs → get_or (xs ++ x ∷ []) k d ≡ get_or xs k d
front [] x k d lt = absurd (omega arith)
front (y ∷ ys) x zero d lt = refl
front (y ∷ ys) x (suc k) d lt = front ys x k d (omega arith)

last : {A : Type 0} (xs : List A) (x : A) (k : ℕ) (d : A) → k ≡ length xs → get_or (xs ++ x ∷ []) k d ≡ x
last [] x zero d e = refl
last [] x (suc k) d e = absurd (omega (arith, e))
last (y ∷ ys) x zero d e = absurd (omega (arith, e))
last (y ∷ ys) x (suc k) d e = last ys x k d (omega (arith, e))

more : (n horizon : ℕ) (rs : List Rectangle) (sheets : List Spans) (r : Rectangle) (s : Spans) → AreSheets n horizon rs sheets → FitsGrid n horizon r → ((cell : Cell) → in_spans s.spans cell ≡ in_rectangle r cell) → AreSheets n horizon (rs ++ r ∷ []) (sheets ++ s ∷ [])
more n horizon rs sheets r s old f is' = record {
  count = omega (arith, length-append sheets (s ∷ []), length-append rs (r ∷ []), old.count);
  cells = λ k d cell lt. dite (ℕ_discrete k (length rs))
      (λ e. ap (λ l. in_spans l cell) (at_last sheets s k (omega (arith, e, old.count))) ∙ (is' cell ∙ ap (λ x. in_rectangle x cell) (sym (last rs r k d e))))
      (λ ne. let b : k < length rs = omega (arith, lt, ne, length-append rs (r ∷ [])) in ap (λ l. in_spans l cell) (at_front sheets s k (omega (arith, b, old.count))) ∙ (old.cells k d cell b ∙ ap (λ x. in_rectangle x cell) (sym (front rs r k d b))));
  grid = All-append (λ (x : Spans). AreTiles n x.spans × AreAhead 0 horizon x.spans) sheets (s ∷ []) old.grid (All-cons (λ (x : Spans). AreTiles n x.spans × AreAhead 0 horizon x.spans) s [] (on_grid n horizon r s f is') (All-nil (λ (x : Spans). AreTiles n x.spans × AreAhead 0 horizon x.spans)));
}

pub sheets_more : (n horizon : ℕ) (rs : List Rectangle) (sheets sheets' : List Spans) (i : ℕ) (d : Rectangle) (s : Spans) → i < length rs → All (FitsGrid n horizon) rs → AreSheets n horizon (take i rs) sheets → sheets' ≡ sheets ++ s ∷ [] → ((cell : Cell) → in_spans s.spans cell ≡ in_rectangle (get_or rs i d) cell) → AreSheets n horizon (take (i + 1) rs) sheets'
sheets_more n horizon rs sheets sheets' i d s lt fit old e is' =
    subst (λ (p : List Rectangle × List Spans). AreSheets n horizon p.0 p.1) (λ j. (sym (taken_more rs i d lt) j, sym e j)) (more n horizon (take i rs) sheets (get_or rs i d) s old (fit i d lt) is')

pub sheets_none : (n horizon : ℕ) → AreSheets n horizon [] []
sheets_none n horizon = record { count = refl; cells = λ k d cell lt. absurd (omega (arith, lt)); grid = All-nil (λ (x : Spans). AreTiles n x.spans × AreAhead 0 horizon x.spans) }

pub fits_at : (n horizon : ℕ) (rs : List Rectangle) (i : ℕ) (r : Rectangle) → i < length rs → r ≡ get_or rs i r → All (FitsGrid n horizon) rs → FitsGrid n horizon r
fits_at n horizon rs i r lt e fit = subst (FitsGrid n horizon) (sym e) (fit i r lt)

-- what the rectangle at a place has
pub columns_fit : {n horizon i : ℕ} (rs : List Rectangle) (d : Rectangle) → n ≤ 64 → All (FitsGrid n horizon) rs → i < length rs → ((get_or rs i d).col0 ≤ (get_or rs i d).col1) × ((get_or rs i d).col1 < 64)
columns_fit {i = i} rs d le fit lt = (let f = fit i d lt in (f.columns, omega (arith, f.last_column, le)))

pub rows_fit : {n horizon i : ℕ} (rs : List Rectangle) (d : Rectangle) → n ≤ 64 → All (FitsGrid n horizon) rs → i < length rs → ((get_or rs i d).row0 ≤ (get_or rs i d).row1) × ((get_or rs i d).row1 < 64)
rows_fit {i = i} rs d le fit lt = (let f = fit i d lt in (f.rows, omega (arith, f.last_row, le)))

pub steps_fit : {n horizon i : ℕ} (rs : List Rectangle) (d : Rectangle) → horizon ≤ 8192 → All (FitsGrid n horizon) rs → i < length rs → ((get_or rs i d).from ≤ (get_or rs i d).to) × ((get_or rs i d).to < 8192)
steps_fit {i = i} rs d le fit lt = (let f = fit i d lt in (f.steps, omega (arith, f.last_step, le)))
