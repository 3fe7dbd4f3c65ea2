-- A list of spans after a write, and after an insertion.
use Rattle.std.proofs.Common.{◌≡◌, ◌≢◌, ℕ, zero, suc, ◌+◌, ◌-◌, ◌<◌, ◌≤◌, Bool, true, false, ◌&&◌, ◌||◌, List, [], ◌∷◌, length, get_or, set, refl, sym, ap, subst, ◌∙◌, inl, inr, arith}
use Rattle.std.specs.Prelude.{bit_or, insert}
use Rattle.std.specs.List.{list_any}
use Rattle.std.specs.List.Sorted.{IsPartitionPoint}
use Rattle.std.proofs.lemmas.Bool.{cases_eq, cases_order, both_ways, false_from_ne_true}
use Rattle.std.proofs.lemmas.List.{get_or-set_same, get_or-set_other, get_or_default, length-set}
use Rattle.std.proofs.lemmas.List.Elements.{All-set}
use Rattle.std.proofs.lemmas.Nat.{le_or_l}
use Rattle.std.proofs.lemmas.List.Edits.{length-insert, get_or-insert_below, get_or-insert_at, get_or-insert_above}
use Rattle.std.proofs.lemmas.List.Folds.{list_any_at}
use Rattle.aim_sheets.specs.declared.spans.Span.{Span}
use Rattle.aim_geometry.specs.Cells.{Cell}
use Rattle.aim_geometry.specs.Rects.{has_bit}
use Rattle.aim_sheets.specs.Spans.{is_at, precedes, in_span, in_spans, has_place, AreRising, AreMarked}
use Rattle.aim_sheets.specs.Sheets.{IsInOrder, Spans}
use Rattle.aim_geometry.proofs.Bits.{has_bit_or}
use Rattle.aim_sheets.proofs.Order.{beyond, Precedes, precedes_parts, precedes_from, is_at_parts}

or_last : (a b r : Bool) → ((a || r) || b) ≡ ((a || b) || r)
or_last true b r = refl
or_last false true true = refl
or_last false true false = refl
or_last false false true = refl
or_last false false false = refl

or_within : (a b r : Bool) → (a || (b || r)) ≡ ((a || b) || r)
or_within true b r = refl
or_within false b r = refl

or_turn : (a b : Bool) → (a || b) ≡ (b || a)
or_turn true true = refl
or_turn true false = refl
or_turn false true = refl
or_turn false false = refl

-- one element passes where it did, or where r says so
pub list_any-set_or : {X : Type 0} (p : X → Bool) (xs : List X) (i : ℕ) (y d : X) (r : Bool) → i < length xs → p y ≡ (p (get_or xs i d) || r) → list_any p (set xs i y) ≡ (list_any p xs || r)
list_any-set_or p [] i y d r lt is = absurd (omega arith)
list_any-set_or p (x ∷ xs) zero y d r lt is = ap (λ b. b || list_any p xs) is ∙ or_last (p x) (list_any p xs) r
list_any-set_or p (x ∷ xs) (suc i) y d r lt is = ap (λ b. p x || b) (list_any-set_or p xs i y d r (omega arith) is) ∙ or_within (p x) (list_any p xs) r

pub list_any-insert : {X : Type 0} (p : X → Bool) (xs : List X) (i : ℕ) (y : X) → list_any p (insert xs i y) ≡ (list_any p xs || p y)
list_any-insert p [] zero y = or_turn (p y) false
list_any-insert p [] (suc i) y = or_turn (p y) false
list_any-insert p (x ∷ xs) zero y = or_turn (p y) (p x || list_any p xs)
list_any-insert p (x ∷ xs) (suc i) y = ap (λ b. p x || b) (list_any-insert p xs i y) ∙ or_within (p x) (list_any p xs) (p y)

and_or : (a b c : Bool) → (a && (b || c)) ≡ ((a && b) || (a && c))
and_or true b c = refl
and_or false b c = refl

-- a span at another's place with the bits of both
joined : (a b : Span) (cell : Cell) → is_at a b.step b.row ≡ true → in_span (record { step = a.step; row = a.row; mask = bit_or a.mask b.mask }) cell ≡ (in_span a cell || in_span b cell)
joined a b cell at =
    let p = is_at_parts a b.step b.row at in
    let same : is_at b cell.step cell.row ≡ is_at a cell.step cell.row = rw (p.0, p.1) refl in
    rw (has_bit_or a.mask b.mask cell.col, same) (and_or (is_at a cell.step cell.row) (has_bit a.mask cell.col) (has_bit b.mask cell.col))

module _ (spans : List Span) (i : ℕ) (lt : i < length spans) (e : Span) where
  -- with the bits of another span at place i
  abbrev with_bits : Span → Span
  with_bits span = record { step = (get_or spans i e).step; row = (get_or spans i e).row; mask = bit_or (get_or spans i e).mask span.mask }

  pub cells_joined : (span : Span) → is_at (get_or spans i e) span.step span.row ≡ true → (cell : Cell) → in_spans (set spans i (with_bits span)) cell ≡ (in_spans spans cell || in_span span cell)
  cells_joined span at cell = list_any-set_or (λ s. in_span s cell) spans i (with_bits span) e (in_span span cell) lt (joined (get_or spans i e) span cell at)

  places_joined : (span : Span) (k : ℕ) (d : Span) → k < length spans → ((get_or (set spans i (with_bits span)) k d).step ≡ (get_or spans k d).step) × ((get_or (set spans i (with_bits span)) k d).row ≡ (get_or spans k d).row)
  places_joined span k d le = elim (cases_eq k i) [
    | inl same ↦ (let w : get_or (set spans i (with_bits span)) k d ≡ with_bits span = rw same (get_or-set_same spans i (with_bits span) d lt) in
        let o : get_or spans k d ≡ get_or spans i e = rw same (get_or_default spans i d e lt) in
        (ap (λ (s : Span). s.step) w ∙ sym (ap (λ (s : Span). s.step) o), ap (λ (s : Span). s.row) w ∙ sym (ap (λ (s : Span). s.row) o)))
    | inr n ↦ (let w : get_or (set spans i (with_bits span)) k d ≡ get_or spans k d = get_or-set_other spans i k (with_bits span) d n in
        (ap (λ (s : Span). s.step) w, ap (λ (s : Span). s.row) w))
  ]

  pub rising_joined : (span : Span) → AreRising spans → AreRising (set spans i (with_bits span))
  rising_joined span rising j k d below le =
      let n : length (set spans i (with_bits span)) ≡ length spans = length-set spans i (with_bits span) in
      let a = places_joined span j d (omega arith) in
      let b = places_joined span k d (omega arith) in
      let was : Precedes (get_or spans j d) (get_or spans k d).step (get_or spans k d).row = precedes_parts _ _ _ (rising j k d below (omega arith)) in
      precedes_from (get_or (set spans i (with_bits span)) j d) (get_or (set spans i (with_bits span)) k d).step (get_or (set spans i (with_bits span)) k d).row (record {
        no_later = rw (a.0, b.0) was.no_later;
        lower = rw (a.0, a.1, b.0, b.1) was.lower;
      })

  pub marked_joined : (span : Span) → AreMarked spans → AreMarked (set spans i (with_bits span))
  marked_joined span marked = All-set (λ s. s.mask ≢ 0) spans i (with_bits span)
      (λ zero. (let some : (get_or spans i e).mask ≢ 0 = marked i e lt in some (let le : (get_or spans i e).mask ≤ bit_or (get_or spans i e).mask span.mask = le_or_l (get_or spans i e).mask span.mask in omega arith)))
      marked

-- a span at its place with another one's bits: the list as it is stored and as it is seen
module _ (stored now : Spans) (i : ℕ) (row span : Span) (same : stored ≡ now) (read : row ≡ get_or stored.spans i row) (lt : i < length now.spans) where
  within : i < length stored.spans
  within = subst (λ (s : Spans). i < length s.spans) (sym same) lt

  written : set stored.spans i (record { step = row.step; row = row.row; mask = bit_or row.mask span.mask }) ≡ set stored.spans i (with_bits stored.spans i within row span)
  written = ap (λ (s : Span). set stored.spans i (record { step = s.step; row = s.row; mask = bit_or s.mask span.mask })) read

  pub joined_in_order : IsInOrder stored → IsInOrder (record { spans = set stored.spans i (record { step = row.step; row = row.row; mask = bit_or row.mask span.mask }); room = stored.room })
  joined_in_order order = subst (λ xs. IsInOrder (record { spans = xs; room = stored.room })) (sym written) (record {
    rising = rising_joined stored.spans i within row span order.rising;
    marked = marked_joined stored.spans i within row span order.marked;
    fits = (let n : length (set stored.spans i (with_bits stored.spans i within row span)) ≡ length stored.spans = length-set stored.spans i (with_bits stored.spans i within row span) in omega (arith, order.fits));
  })

  pub joined_cells : is_at (get_or now.spans i row) span.step span.row ≡ true → (cell : Cell) → in_spans (set stored.spans i (record { step = row.step; row = row.row; mask = bit_or row.mask span.mask })) cell ≡ (in_spans now.spans cell || in_span span cell)
  joined_cells at cell =
      ap (λ xs. in_spans xs cell) written
      ∙ cells_joined stored.spans i within row span (subst (λ (s : Spans). is_at (get_or s.spans i row) span.step span.row ≡ true) (sym same) at) cell
      ∙ ap (λ (s : Spans). in_spans s.spans cell || in_span span cell) same

module _ (spans : List Span) (i : ℕ) (span : Span) (le : i ≤ length spans)
    (place : IsPartitionPoint (λ held. precedes held span.step span.row ≡ true) (λ held. precedes held span.step span.row ≡ false) spans i)
    (free : has_place spans span.step span.row ≡ false) where
  not_there : (k : ℕ) (d : Span) → k < length spans → is_at (get_or spans k d) span.step span.row ≡ false
  not_there k d lt = false_from_ne_true _ (λ is. both_ways _ free (list_any_at (λ s. is_at s span.step span.row) spans k d lt is))

  after : (k : ℕ) (d : Span) → i ≤ k → k < length spans → precedes span (get_or spans k d).step (get_or spans k d).row ≡ true
  after k d from lt =
      let b = beyond (get_or spans k d) span.step span.row (place.1 k d from lt) (not_there k d lt) in
      precedes_from span (get_or spans k d).step (get_or spans k d).row (record { no_later = b.0; lower = λ e. b.1 (sym e) })

  -- the parts of the new list
  below_is : (k : ℕ) (d : Span) → k < i → get_or (insert spans i span) k d ≡ get_or spans k d
  below_is k d lt = get_or-insert_below spans i span d k lt le

  at_is : (d : Span) → get_or (insert spans i span) i d ≡ span
  at_is d = get_or-insert_at spans i span d le

  above_is : (k : ℕ) (d : Span) → i < k → get_or (insert spans i span) k d ≡ get_or spans (k - 1) d
  above_is k d lt =
      let e : k ≡ (k - 1) + 1 = omega arith in
      ap (λ n. get_or (insert spans i span) n d) e ∙ get_or-insert_above spans i span d (k - 1) (omega arith) le

  pub rising_inserted : AreRising spans → AreRising (insert spans i span)
  rising_inserted rising j k d below lt =
      let n : length (insert spans i span) ≡ length spans + 1 = length-insert spans i span le in
      let P : Span → Span → Type 0 = λ a b. precedes a b.step b.row ≡ true in
      elim (cases_order k i) [
        | inl e ↦ subst (λ s. P (get_or (insert spans i span) j d) s) (sym (ap (λ m. get_or (insert spans i span) m d) e ∙ at_is d))
            (subst (λ s. P s span) (sym (below_is j d (omega arith))) (place.0 j d (omega arith) (omega arith)))
        | inr (inl before) ↦ subst (λ s. P (get_or (insert spans i span) j d) s) (sym (below_is k d before))
            (subst (λ s. P s (get_or spans k d)) (sym (below_is j d (omega arith))) (rising j k d below (omega arith)))
        | inr (inr beyond) ↦ subst (λ s. P (get_or (insert spans i span) j d) s) (sym (above_is k d beyond))
            (elim (cases_order j i) [
              | inl e ↦ subst (λ s. P s (get_or spans (k - 1) d)) (sym (ap (λ m. get_or (insert spans i span) m d) e ∙ at_is d)) (after (k - 1) d (omega arith) (omega arith))
              | inr (inl before) ↦ subst (λ s. P s (get_or spans (k - 1) d)) (sym (below_is j d before)) (rising j (k - 1) d (omega arith) (omega arith))
              | inr (inr past) ↦ subst (λ s. P s (get_or spans (k - 1) d)) (sym (above_is j d past)) (rising (j - 1) (k - 1) d (omega arith) (omega arith))
            ])
      ]

  pub marked_inserted : span.mask ≢ 0 → AreMarked spans → AreMarked (insert spans i span)
  marked_inserted marked all k d lt =
      let n : length (insert spans i span) ≡ length spans + 1 = length-insert spans i span le in
      let P : Span → Type 0 = λ s. s.mask ≢ 0 in
      elim (cases_order k i) [
        | inl e ↦ subst P (sym (ap (λ m. get_or (insert spans i span) m d) e ∙ at_is d)) marked
        | inr (inl before) ↦ subst P (sym (below_is k d before)) (all k d (omega arith))
        | inr (inr past) ↦ subst P (sym (above_is k d past)) (all (k - 1) d (omega arith))
      ]

-- a span in its place, in a sheet that has room: the list as it is stored and as it is seen
pub inserted : (stored now : Spans) (new : List Span) (i : ℕ) (span : Span) → stored ≡ now → new ≡ insert stored.spans i span → IsInOrder stored → span.mask ≢ 0 → has_place now.spans span.step span.row ≡ false
    → length now.spans ≢ now.room → i ≤ length now.spans → IsPartitionPoint (λ held. precedes held span.step span.row ≡ true) (λ held. precedes held span.step span.row ≡ false) now.spans i → IsInOrder (record { spans = new; room = stored.room })
inserted stored now new i span same is order marked free some le place = subst (λ xs. IsInOrder (record { spans = xs; room = stored.room })) (sym is) (record {
  rising = rising_inserted stored.spans i span le' place' free' order.rising;
  marked = marked_inserted stored.spans i span le' place' free' marked order.marked;
  fits = (let n : length (insert stored.spans i span) ≡ length stored.spans + 1 = length-insert stored.spans i span le' in
      let room : length stored.spans ≢ stored.room = subst (λ (s : Spans). length s.spans ≢ s.room) (sym same) some in
      omega (arith, order.fits));
})
  where
    le' : i ≤ length stored.spans
    le' = subst (λ (s : Spans). i ≤ length s.spans) (sym same) le

    free' : has_place stored.spans span.step span.row ≡ false
    free' = subst (λ (s : Spans). has_place s.spans span.step span.row ≡ false) (sym same) free

    place' : IsPartitionPoint (λ held. precedes held span.step span.row ≡ true) (λ held. precedes held span.step span.row ≡ false) stored.spans i
    place' = subst (λ (s : Spans). IsPartitionPoint (λ held. precedes held span.step span.row ≡ true) (λ held. precedes held span.step span.row ≡ false) s.spans i) (sym same) place
