-- The tiles that a visitor saw are those on which the crossing is.
use Rattle.std.proofs.Common.{◌≡◌, ℕ, zero, suc, ◌+◌, ◌-◌, ◌<◌, ◌≤◌, Bool, true, false, ◌&&◌, not, cond, List, [], ◌∷◌, ◌++◌, length, get_or, filter, Some, None, arith, refl, sym, ap, ◌∙◌, length-append, add-one}
use Rattle.std.specs.Prelude.{◌==◌, flat_map, if◌then◌else◌, Result, Ok, Err, OnOk}
use Rattle.std.specs.Result.{result_err}
use Rattle.std.specs.List.{range_with_len}
use Rattle.std.proofs.Math.Decide.{dec_lt}
use Rattle.std.proofs.Math.Seq.{get_or-append_seam}
use Rattle.std.proofs.lemmas.Bool.{eqb-true, eq-eqb}
use Rattle.std.proofs.lemmas.List.{get_or_append_left}
use Rattle.std.proofs.lemmas.List.FromFn.{filter_of_map_range_with_len_more}
use Rattle.aim_messages.specs.declared.messages.Params.{Params}
use Rattle.aim_messages.specs.declared.replies.Field.TheVariants as field
use Rattle.aim_geometry.specs.Bounded.{some_below}
use Rattle.aim_geometry.specs.Rects.{tile_at}
use Rattle.aim_geometry.proofs.BoundedLemmas.{some_below_at, some_below_none}
use Rattle.aim_layout.specs.Intersection.{Intersection}
use Rattle.aim_rules.specs.Footprint.{crossing_steps, in_footprint}
use Rattle.aim_rules.specs.Bad.{bad, needs_too_many_spans}
use Rattle.aim_geometry.specs.Cells as rules
use Rattle.aim_rules.proofs.FreeLemmas.{first_none}
use Rattle.aim_rules.proofs.TestLemmas.{both}
use Rattle.aim_footprint.specs.declared.visits.RowRange.{RowRange}
use Rattle.aim_footprint.specs.Fields.{bad_crossing, IsTried}
use Rattle.aim_rules.specs.Trials.{is_fast_made}
use Rattle.aim_footprint.specs.Visits.{IsFootprint, Visited}
use Rattle.aim_footprint.proofs.FieldLemmas.{fields}
use Rattle.aim_footprint.proofs.GoodLemmas.{good_crossing}
use Rattle.aim_safety.specs.declared.traces.Trace.{Trace}
use Rattle.aim_safety.specs.Occupied.{is_on, is_tried}
use Rattle.aim_safety.specs.Tiles.{of_tile, of_row, of_rows}
use Rattle.aim_safety.specs.Traces.{IsTraced, AreFootprints, is_traced}
use Rattle.aim_safety.proofs.TraceLemmas.{parts_more}

-- good params are those of a crossing with no wrong field, so it has few steps
pub good_fields : (i : Intersection) (p : Params) → bad i p ≡ None → bad_crossing i p ≡ None
good_fields i p h = (first_none (bad_crossing i p) (if needs_too_many_spans i p then Some field.Spans else None) (sym (fields i p) ∙ h)).0

-- a trial that may be made with the params is one of them
pub trial_tried : (i : Intersection) (p : Params) (fast : Bool) → is_tried i p fast ≡ true → IsTried i p fast
trial_tried i p fast tried = λ windows. go fast (is_fast_made p) (rw windows at tried)
  where
    go : (b m : Bool) → (if b then m else not m) ≡ true → b ≡ m
    go true m h = sym h
    go false true h = absurd (cc)
    go false false h = refl

pub few_steps : (i : Intersection) (p : Params) (fast : Bool) → bad i p ≡ None → is_tried i p fast ≡ true → crossing_steps i p fast ≤ 2048
few_steps i p fast h tried = (good_crossing i p (good_fields i p h)).steps fast (trial_tried i p fast tried)

-- one more step
traced_more : (i : Intersection) (p : Params) (fast : Bool) (n : ℕ) (xs : List (List ℕ)) (rows : RowRange) (masks : List ℕ) → AreFootprints i p fast n xs → IsFootprint i p fast 0 n rows masks → AreFootprints i p fast (suc n) (xs ++ masks ∷ [])
traced_more i p fast n xs rows masks a f = record {
  all = let e = a.all in omega (arith, length-append xs (masks ∷ []));
  tiles = λ k row col l r c. elim (dec_lt k n) [
    | yes b ↦ (
        let e = a.all in
        let within : k < length xs = omega arith in
        ap (λ m. tile_at m row col) (get_or_append_left xs (masks ∷ []) [] k within) ∙ a.tiles k row col b r c)
    | no b ↦ (
        let e = a.all in
        let at : k ≡ length xs = omega arith in
        let here : k ≡ n = omega arith in
        ap (λ j. tile_at (get_or (xs ++ masks ∷ []) j []) row col) at ∙ ap (λ m. tile_at m row col) (get_or-append_seam xs masks [] []) ∙ f.tiles row col r c ∙ ap (λ j. in_footprint i p fast 0 j row col) (sym here))
  ];
}

-- what a visitor that was not cut has seen
pub traced : (i : Intersection) (p : Params) (fast : Bool) (n : ℕ) (old new : Trace) → old.steps.items ≡ [] → new.is_cut ≡ false → Visited (λ old k rows masks new. IsTraced old masks new) (IsFootprint i p fast 0) n old new → AreFootprints i p fast n new.steps.items
unfolding Visited
traced i p fast zero old new none whole v = let e : new.steps.items ≡ [] = ap (λ t. t.steps.items) v ∙ none in rw e (record { all = refl; tiles = λ k row col l r c. absurd (omega arith) })
traced i p fast (suc n) old new none whole v =
    let step = v.5 in
    let before = traced i p fast n old v.0 none (step.whole whole) v.3 in
    rw (step.more whole) (traced_more i p fast n v.0.steps.items v.1 v.2 before v.4)

-- a question of all steps that only one of them can answer
one_below : (n first s : ℕ) (g : ℕ → Bool) → first ≤ s → s < first + n → some_below n (λ k. s == first + k && g k) ≡ g (s - first)
one_below n first s g l m = go (g (s - first)) refl
  where
    none : (k : ℕ) → g (s - first) ≡ false → (b : Bool) → (s == first + k) ≡ b → (b && g k) ≡ false
    none k e false p = refl
    none k e true p = let q = eqb-true s (first + k) p in let j : s - first ≡ k = omega arith in rw j at e

    go : (b : Bool) → g (s - first) ≡ b → some_below n (λ k. s == first + k && g k) ≡ b
    go true e = some_below_at n (λ k. s == first + k && g k) (s - first) (omega arith) (both (s == first + (s - first)) (g (s - first)) (eq-eqb s (first + (s - first)) (omega arith)) e)
    go false e = some_below_none n (λ k. s == first + k && g k) (λ k b. none k e (s == first + k) refl)

shown_is_on : (i : Intersection) (p : Params) (fast : Bool) (steps : List (List ℕ)) (first : ℕ) (c : rules.Cell) → AreFootprints i p fast (crossing_steps i p fast) steps → c.row < 64 → c.col < 64 → first ≤ c.step → c.step < first + crossing_steps i p fast →
    is_traced steps first c ≡ is_on i (record { step = first; grant = record { params = p; fast = fast } }) c
shown_is_on i p fast steps first c a r l m n =
    a.tiles (c.step - first) c.row c.col (omega arith) r l ∙ sym (one_below (crossing_steps i p fast) first c.step (λ k. in_footprint i p fast 0 k c.row c.col) m n)

-- tests that agree on each cell

same_tile : (p q : rules.Cell → Bool) (first row col n : ℕ) → ((k : ℕ) → k < n → p (record { row = row; col = col; step = first + k }) ≡ q (record { row = row; col = col; step = first + k })) → filter p (of_tile first n row col) ≡ filter q (of_tile first n row col)
same_tile p q first row col zero same = refl
same_tile p q first row col (suc n) same =
    let f : ℕ → rules.Cell = λ s. record { row = row; col = col; step = s } in
    let one : rules.Cell = record { row = row; col = col; step = first + n } in
    ap (λ k. filter p (of_tile first k row col)) (sym (add-one n))
    ∙ filter_of_map_range_with_len_more p f first n (first + n) refl
    ∙ ap (λ xs. xs ++ cond (p one) (one ∷ []) []) (same_tile p q first row col n (λ k l. same k (omega arith)))
    ∙ ap (λ b. filter q (of_tile first n row col) ++ cond b (one ∷ []) []) (same n (omega arith))
    ∙ sym (filter_of_map_range_with_len_more q f first n (first + n) refl)
    ∙ ap (λ k. filter q (of_tile first k row col)) (add-one n)

same_parts : (f : ℕ → List rules.Cell) (p q : rules.Cell → Bool) (n : ℕ) → ((k : ℕ) → k < n → filter p (f k) ≡ filter q (f k)) → filter p (flat_map f (range_with_len 0 n)) ≡ filter q (flat_map f (range_with_len 0 n))
same_parts f p q zero same = refl
same_parts f p q (suc n) same =
    ap (λ k. filter p (flat_map f (range_with_len 0 k))) (sym (add-one n))
    ∙ parts_more f p n
    ∙ ap (λ xs. xs ++ filter p (f n)) (same_parts f p q n (λ k l. same k (omega arith)))
    ∙ ap (λ xs. filter q (flat_map f (range_with_len 0 n)) ++ xs) (same n (omega arith))
    ∙ sym (parts_more f q n)
    ∙ ap (λ k. filter q (flat_map f (range_with_len 0 k))) (add-one n)

-- the cells that the masks show are those on which the crossing is
pub shown_cells : (i : Intersection) (p : Params) (fast : Bool) (steps : List (List ℕ)) (first : ℕ) → AreFootprints i p fast (crossing_steps i p fast) steps → i.grid.n ≤ 64 →
    filter (is_traced steps first) (of_rows first (length steps) i.grid.n i.grid.n)
    ≡ filter (is_on i (record { step = first; grant = record { params = p; fast = fast } })) (of_rows first (crossing_steps i p fast) i.grid.n i.grid.n)
shown_cells i p fast steps first a few =
    let count = crossing_steps i p fast in
    let q = is_on i (record { step = first; grant = record { params = p; fast = fast } }) in
    ap (λ n. filter (is_traced steps first) (of_rows first n i.grid.n i.grid.n)) a.all
    ∙ same_parts (of_row first count i.grid.n) (is_traced steps first) q i.grid.n (λ row r. same_parts (of_tile first count row) (is_traced steps first) q i.grid.n (λ col l.
    same_tile (is_traced steps first) q first row col count (λ k m. shown_is_on i p fast steps first (record { row = row; col = col; step = first + k }) a (omega arith) (omega arith) (omega arith) (omega arith))))

-- the cells that a loop appends to an empty list, where it reads the masks, are those on which the crossing is
pub passage_shown : (i : Intersection) (p : Params) (fast : Bool) (first n : ℕ) (seen steps : List (List ℕ)) → seen ≡ steps → n ≡ i.grid.n → i.grid.n ≤ 64 → AreFootprints i p fast (crossing_steps i p fast) steps →
    filter (is_traced seen first) (of_rows first (length seen) n n) ≡ filter (is_on i (record { step = first; grant = record { params = p; fast = fast } })) (of_rows first (crossing_steps i p fast) i.grid.n i.grid.n)
passage_shown i p fast first n seen steps same wide few a =
    ap (λ ms. filter (is_traced ms first) (of_rows first (length ms) n n)) same
    ∙ ap (λ k. filter (is_traced steps first) (of_rows first (length steps) k k)) wide
    ∙ shown_cells i p fast steps first a few

-- what an answer without an error says
pub on_ok : {T E : Type 0} (r : Result T E) (P : Type 0) → result_err r ≡ None → OnOk r P → P
on_ok (Ok x) P h p = p
on_ok (Err e) P h p = absurd (cc)
