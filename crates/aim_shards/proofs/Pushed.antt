-- Spans that are added behind all others.
use Rattle.std.proofs.Common.{◌≡◌, ℕ, ◌+◌, ◌<◌, Bool, true, false, ◌||◌, List, [], ◌∷◌, ◌++◌, get_or, length, length-append, refl, sym, ap, ◌∙◌, subst, arith}
use Rattle.std.specs.Prelude.{All}
use Rattle.std.proofs.lemmas.List.Folds.{list_any-append}
use Rattle.std.proofs.lemmas.List.Elements.{All-append, All-nil, All-cons}
use Rattle.aim_geometry.specs.Cells.{Cell}
use Rattle.aim_sheets.specs.declared.spans.Span.{Span}
use Rattle.std.proofs.lemmas.List.{get_or_default}
use Rattle.aim_sheets.specs.Spans.{in_span, in_spans, precedes, AreRising}
use Rattle.aim_sheets.proofs.Order.{Precedes, precedes_parts, precedes_from}

-- all spans come before the step and row
abbrev pub AreBefore : ℕ → ℕ → List Span → Type 0
AreBefore step row spans = All (λ held. precedes held step row ≡ true) spans

pub none_held : (step row : ℕ) → AreBefore step row []
none_held step row = All-nil (λ (held : Span). precedes held step row ≡ true)

pub pushed_cells : (old new : List Span) (span : Span) (cell : Cell) → new ≡ old ++ span ∷ [] → in_spans new cell ≡ (in_spans old cell || in_span span cell)
pushed_cells old new span cell e = ap (λ l. in_spans l cell) e ∙ (list_any-append (λ s. in_span s cell) old (span ∷ []) ∙ ap (λ b. in_spans old cell || b) (or_false (in_span span cell)))
  where
    or_false : (b : Bool) → (b || false) ≡ b
    or_false true = refl
    or_false false = refl

pub pushed_count : (old new : List Span) (span : Span) → new ≡ old ++ span ∷ [] → length new ≡ length old + 1
pushed_count old new span e = ap length e ∙ length-append old (span ∷ [])

-- what comes behind the new one, too, comes behind all
pub pushed_before : (step row : ℕ) (old new : List Span) (span : Span) → new ≡ old ++ span ∷ [] → AreBefore step row old → precedes span step row ≡ true → AreBefore step row new
pushed_before step row old new span e held is =
    subst (AreBefore step row) (sym e) (All-append (λ (h : Span). precedes h step row ≡ true) old (span ∷ []) held (All-cons (λ (h : Span). precedes h step row ≡ true) span [] is (none_held step row)))

row_after : (a : Span) (step row : ℕ) → precedes a step row ≡ true → precedes a step (row + 1) ≡ true
row_after a step row is = let p : Precedes a step row = precedes_parts a step row is in precedes_from a step (row + 1) (record { no_later = p.no_later; lower = λ e. (let x : a.row < row = p.lower e in omega arith) })

step_after : (a : Span) (step row row' : ℕ) → precedes a step row ≡ true → precedes a (step + 1) row' ≡ true
step_after a step row row' is = let p : Precedes a step row = precedes_parts a step row is in precedes_from a (step + 1) row' (record { no_later = omega (arith, p.no_later); lower = λ e. absurd (omega (arith, p.no_later, e)) })

-- the next row of a step, behind the span of this one
pub next_row : (step row : ℕ) (old new : List Span) (span : Span) → span.step ≡ step → span.row ≡ row → new ≡ old ++ span ∷ [] → AreBefore step row old → AreBefore step (row + 1) new
next_row step row old new span e f is held =
    pushed_before step (row + 1) old new span is (λ k d lt. row_after (get_or old k d) step row (held k d lt))
    (precedes_from span step (row + 1) (record { no_later = omega (arith, e); lower = λ _. omega (arith, f) }))

-- the next step
pub next_step : (step row row' : ℕ) (spans : List Span) → AreBefore step row spans → AreBefore (step + 1) row' spans
next_step step row row' spans held k d lt = step_after (get_or spans k d) step row row' (held k d lt)

-- an earlier one comes before a later one
pub rises : (spans : List Span) (i k : ℕ) (d e : Span) → AreRising spans → i < k → k < length spans → precedes (get_or spans i e) (get_or spans k d).step (get_or spans k d).row ≡ true
rises spans i k d e rising lt end = subst (λ (s : Span). precedes s (get_or spans k d).step (get_or spans k d).row ≡ true) (get_or_default spans i d e (omega arith)) (rising i k d lt end)
