-- The order of spans by step and row.
use Rattle.std.proofs.Common.{◌≡◌, ◌≢◌, ℕ, ◌+◌, ◌<◌, ◌≤◌, true, false, ◌&&◌, nat_lt, List, length, slice_index_or, sym, subst, inl, inr, arith, ◌⊎◌}
use Rattle.std.specs.Prelude.{◌==◌}
use Rattle.std.specs.List.Sorted.{IsPartitionPoint, IsPartitionedBy}
use Rattle.std.proofs.lemmas.Bool.{and_parts, and_from, and_cases, or_cases, or_parts, or_left, or_right, ltb-true, ltb-false, eqb-true, eqb-false, eq-eqb, lt-ltb, false_from_ne_true, cases_eq, both_ways, cases_order}
use Rattle.std.proofs.lemmas.List.Folds.{list_any_none}
use Rattle.std.proofs.lemmas.List.{get_or_default}
use Rattle.aim_sheets.specs.declared.spans.Span.{Span}
use Rattle.aim_sheets.specs.Spans.{is_at, precedes, has_place, AreRising}

-- a span that comes before a step and row, as a fact on numbers
pub record Precedes (span : Span) (step row : ℕ) : Type 0 where
  pub no_later : span.step ≤ step
  pub lower : span.step ≡ step → span.row < row

pub precedes_parts : (a : Span) (step row : ℕ) → precedes a step row ≡ true → Precedes a step row
precedes_parts a step row is = elim (or_cases (nat_lt a.step step) (a.step == step && nat_lt a.row row) is) [
  | inl early ↦ (let l : a.step < step = ltb-true a.step step early in record { no_later = omega arith; lower = λ e. absurd (omega arith) })
  | inr same ↦ (let p = and_parts (a.step == step) (nat_lt a.row row) same in
      let s : a.step ≡ step = eqb-true a.step step p.0 in
      let r : a.row < row = ltb-true a.row row p.1 in
      record { no_later = omega arith; lower = λ e. r })
]

pub precedes_from : (a : Span) (step row : ℕ) → Precedes a step row → precedes a step row ≡ true
precedes_from a step row is = elim (cases_eq a.step step) [
  | inl e ↦ or_right (nat_lt a.step step) _ (and_from _ _ (eq-eqb _ _ e) (lt-ltb _ _ (is.lower e)))
  | inr n ↦ (let le = is.no_later in or_left _ _ (lt-ltb a.step step (omega arith)))
]

pub is_at_parts : (a : Span) (step row : ℕ) → is_at a step row ≡ true → (a.step ≡ step) × (a.row ≡ row)
is_at_parts a step row is = let p = and_parts _ _ is in (eqb-true _ _ p.0, eqb-true _ _ p.1)

-- neither before a place nor at it: after it
pub beyond : (a : Span) (step row : ℕ) → precedes a step row ≡ false → is_at a step row ≡ false → (step ≤ a.step) × (a.step ≡ step → row < a.row)
beyond a step row before at =
    let o = or_parts _ _ before in
    let later : step ≤ a.step = ltb-false _ _ o.0 in (
      later,
      λ e. elim (and_cases _ _ o.1) [
        | inl n ↦ absurd (eqb-false _ _ n e)
        | inr n ↦ (let ge : row ≤ a.row = ltb-false _ _ n in
            elim (and_cases _ _ at) [
              | inl m ↦ absurd (eqb-false _ _ m e)
              | inr m ↦ (let ne : a.row ≢ row = eqb-false _ _ m in omega arith)
            ])
      ],
    )

pub precedes_trans : (a b : Span) (step row : ℕ) → precedes a b.step b.row ≡ true → precedes b step row ≡ true → precedes a step row ≡ true
precedes_trans a b step row first second =
    let f : Precedes a b.step b.row = precedes_parts a b.step b.row first in
    let s : Precedes b step row = precedes_parts b step row second in
    precedes_from a step row (record {
      no_later = omega (arith, f.no_later, s.no_later);
      lower = λ e. (let x : a.row < b.row = f.lower (omega (arith, f.no_later, s.no_later)) in
          let y : b.row < row = s.lower (omega (arith, f.no_later, s.no_later)) in
          omega arith);
    })

pub precedes_at : (a b : Span) (step row : ℕ) → precedes a b.step b.row ≡ true → is_at b step row ≡ true → precedes a step row ≡ true
precedes_at a b step row first at =
    let p = is_at_parts b step row at in
    subst (λ s. precedes a s row ≡ true) p.0 (subst (λ r. precedes a b.step r ≡ true) p.1 first)

pub not_before_at : (a : Span) (step row : ℕ) → is_at a step row ≡ true → precedes a step row ≡ false
not_before_at a step row at =
    let p = is_at_parts a step row at in
    false_from_ne_true _ (λ is. (let q : Precedes a step row = precedes_parts a step row is in absurd (omega (arith, q.lower p.0, p.1))))

module _ (spans : List Span) (rising : AreRising spans) (step row : ℕ) where
  pub partitioned : IsPartitionedBy (λ span. precedes span step row) spans
  partitioned i j d le lt is = elim (cases_eq i j) [
    | inl e ↦ subst (λ k. precedes (slice_index_or spans k d) step row ≡ true) (sym e) is
    | inr n ↦ precedes_trans (slice_index_or spans i d) (slice_index_or spans j d) step row (rising i j d (omega arith) lt) is
  ]

  module _ (e : Span) (n : ℕ) (is_length : length spans ≡ n + 1) where
    pub place_at_end : precedes (slice_index_or spans n e) step row ≡ true → IsPartitionPoint (λ span. precedes span step row ≡ true) (λ span. precedes span step row ≡ false) spans (length spans)
    place_at_end before = (
      λ k d _ lt. partitioned k n d (omega arith) (omega arith) (subst (λ (s : Span). precedes s step row ≡ true) (get_or_default spans n e d (omega arith)) before),
      λ k d le lt. absurd (omega arith),
    )

    pub place_of_last : is_at (slice_index_or spans n e) step row ≡ true → IsPartitionPoint (λ span. precedes span step row ≡ true) (λ span. precedes span step row ≡ false) spans n
    place_of_last at = (
      λ k d _ lt. precedes_at (slice_index_or spans k d) (slice_index_or spans n e) step row (subst (λ (s : Span). precedes (slice_index_or spans k d) s.step s.row ≡ true) (get_or_default spans n d e (omega arith)) (rising k n d lt (omega arith))) at,
      λ k d le lt. (let same : n ≡ k = omega arith in subst (λ m. precedes (slice_index_or spans m d) step row ≡ false) same (subst (λ (s : Span). precedes s step row ≡ false) (get_or_default spans n e d (omega arith)) (not_before_at (slice_index_or spans n e) step row at))),
    )

  -- neither before place i nor at it
  pub has_place-none : (i : ℕ) (e : Span) → IsPartitionPoint (λ span. precedes span step row ≡ true) (λ span. precedes span step row ≡ false) spans i → (i < length spans → is_at (slice_index_or spans i e) step row ≡ false) → has_place spans step row ≡ false
  has_place-none i e place at = list_any_none (λ span. is_at span step row) spans (λ k d lt. false_from_ne_true _ (λ is. clash k d lt is))
    where
      here : (k : ℕ) (d : Span) → k < length spans → is_at (slice_index_or spans k d) step row ≡ true → (k ≡ i) ⊎ ((k < i) ⊎ (i < k)) → ⊥
      here k d lt is (inl same) = both_ways _ (at (omega arith)) (subst (λ (s : Span). is_at s step row ≡ true) (get_or_default spans i d e (omega arith)) (subst (λ m. is_at (slice_index_or spans m d) step row ≡ true) same is))
      here k d lt is (inr (inl before)) = both_ways _ (not_before_at (slice_index_or spans k d) step row is) (place.0 k d (omega arith) before)
      here k d lt is (inr (inr past)) = both_ways _ (place.1 i d (omega arith) (omega arith)) (precedes_at (slice_index_or spans i d) (slice_index_or spans k d) step row (rising i k d past lt) is)

      clash : (k : ℕ) (d : Span) → k < length spans → is_at (slice_index_or spans k d) step row ≡ true → ⊥
      clash k d lt is = here k d lt is (cases_order k i)
