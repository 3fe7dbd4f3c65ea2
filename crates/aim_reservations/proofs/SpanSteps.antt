-- The steps of spans in order, and of the cells that they have.
use Rattle.std.proofs.Common.{◌≡◌, ℕ, ◌-◌, ◌≤◌, ◌<◌, true, false, nat_le, List, [], ◌∷◌, length, get_or, arith, refl, sym, ◌∙◌, Some, None, le-leb}
use Rattle.std.specs.Prelude.{slice_get, ◌↔◌, IsTrue}
use Rattle.std.proofs.lemmas.Bool.{leb-true, eq-eqb, and_from, and_parts, eqb-true}
use Rattle.std.proofs.lemmas.List.Folds.{list_any_at, Any-from_list_any}
use Rattle.std.proofs.lemmas.List.{get_or_default}
use Rattle.std.proofs.lemmas.Option.{get_or_from_slice_get, slice_get-get_or}
use Rattle.std.proofs.Math.Decide.{dec_lt}
use Rattle.aim_geometry.specs.Cells.{Cell, cell_at}
use Rattle.aim_sheets.specs.declared.spans.Span.{Span}
use Rattle.aim_sheets.specs.Spans.{AreMarked, AreRising, in_span, in_spans}
use Rattle.aim_sheets.proofs.Order.{precedes_parts}
use Rattle.aim_tiles.proofs.Writes.{some_column}
use Rattle.aim_reservations.specs.SpanSteps.{Reaches, IsFirstStep}

abbrev pub nowhere : Span
nowhere = record { step = 0; row = 0; mask = 0 }

-- spans that are in order have their steps in order
pub steps_rise : (spans : List Span) (j k : ℕ) (d : Span) → AreRising spans → j ≤ k → k < length spans → (get_or spans j d).step ≤ (get_or spans k d).step
steps_rise spans j k d rising l in_range = elim (dec_lt j k) [
  | yes b ↦ (precedes_parts (get_or spans j d) (get_or spans k d).step (get_or spans k d).row (rising j k d b in_range)).no_later
  | no b ↦ (let e : j ≡ k = omega arith in rw e (omega arith))
]

-- a span that is marked has a cell
pub cell_of : (spans : List Span) (k : ℕ) (d : Span) → AreMarked spans → k < length spans → (c : Cell) × (in_spans spans c ≡ true) × (c.step ≡ (get_or spans k d).step)
cell_of spans k d marked l =
    let s = get_or spans k d in
    let col = some_column s.mask (marked k d l) in (
      cell_at s.step s.row col.0,
      list_any_at (λ span. in_span span (cell_at s.step s.row col.0)) spans k d l (and_from _ _ (and_from _ _ (eq-eqb s.step s.step refl) (eq-eqb s.row s.row refl)) col.1),
      refl,
    )

-- a cell is of one of the spans, and of its step
pub span_of : (spans : List Span) (c : Cell) (d : Span) → in_spans spans c ≡ true → (k : ℕ) × (k < length spans) × (c.step ≡ (get_or spans k d).step)
span_of spans c d t =
    let a = Any-from_list_any (λ span. in_span span c) spans t in
    let here : get_or spans a.0 d ≡ a.1 = get_or_default spans a.0 d a.1 a.2 ∙ a.3 in
    let p = and_parts _ _ a.4 in
    let q = and_parts _ _ p.0 in
    (a.0, a.2, rw here (sym (eqb-true _ _ q.0)))

pub reaches_last : (spans : List Span) (step : ℕ) (x : Span) → AreRising spans → AreMarked spans → Some x ≡ slice_get spans (length spans - 1) → IsTrue (nat_le step x.step) ↔ Reaches spans step
reaches_last [] step x rising marked at = absurd (cc)
reaches_last (s ∷ ss) step x rising marked at = (
  λ t. (let c = cell_of (s ∷ ss) (length (s ∷ ss) - 1) nowhere marked (omega arith) in
      let l : step ≤ x.step = leb-true step x.step t in
      (c.0, c.1, (let e : c.0.step ≡ x.step = rw here at c.2 in omega arith))),
  λ r. (let k = span_of (s ∷ ss) r.0 nowhere r.1 in
      let e = k.2 in
      let u = steps_rise (s ∷ ss) k.0 (length (s ∷ ss) - 1) nowhere rising (let l = k.1 in omega arith) (omega arith) in
      let u' : (get_or (s ∷ ss) k.0 nowhere).step ≤ x.step = rw here at u in
      let l : step ≤ r.0.step = r.2 in
      le-leb step x.step (omega arith)),
)
  where
    here : get_or (s ∷ ss) (length (s ∷ ss) - 1) nowhere ≡ x
    here = get_or_from_slice_get (s ∷ ss) (length (s ∷ ss) - 1) x nowhere (sym at)

pub reaches_none : (spans : List Span) (step : ℕ) → None ≡ slice_get spans (length spans - 1) → IsTrue false ↔ Reaches spans step
reaches_none [] step at = (λ t. absurd (cc), λ r. absurd (let n = r.1 in cc))
reaches_none (s ∷ ss) step at = absurd (let e = slice_get-get_or (s ∷ ss) (length (s ∷ ss) - 1) nowhere (omega arith) in let e' : None ≡ Some (get_or (s ∷ ss) (length (s ∷ ss) - 1) nowhere) = at ∙ e in cc)

pub first_is : (spans : List Span) (x : Span) → AreRising spans → AreMarked spans → Some x ≡ slice_get spans 0 → IsFirstStep spans x.step
first_is [] x rising marked at = absurd (cc)
first_is (s ∷ ss) x rising marked at = record {
  least = λ c t. (let k = span_of (s ∷ ss) c nowhere t in
      let u = steps_rise (s ∷ ss) 0 k.0 nowhere rising (omega arith) k.1 in
      let e : x ≡ s = cc in
      rw (k.2, e) u);
  reached = λ c t. (let d = cell_of (s ∷ ss) 0 nowhere marked (omega arith) in let e : x ≡ s = cc in (d.0, d.1, rw e d.2));
  none = λ f. absurd (let d = cell_of (s ∷ ss) 0 nowhere marked (omega arith) in let n = f d.0 in let y = d.1 in cc);
}

pub first_none : (spans : List Span) → None ≡ slice_get spans 0 → IsFirstStep spans 0
first_none [] at = record { least = λ c t. absurd (cc); reached = λ c t. absurd (cc); none = λ f. refl }
first_none (s ∷ ss) at = absurd (cc)
