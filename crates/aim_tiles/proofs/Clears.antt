-- The marks of cells after a page is cleared, and after now goes on.
use Rattle.std.proofs.Common.{◌≡◌, ◌≢◌, ℕ, ◌+◌, ◌-◌, ◌*◌, ◌%◌, ◌<◌, ◌≤◌, Bool, true, false, ◌&&◌, List, get_or, refl, sym, ap, ◌∙◌, inl, inr, arith}
use Rattle.std.specs.Prelude.{nat_le}
use Rattle.std.proofs.lemmas.Bool.{cases_eq, cases_lt, le-leb, lt-leb, leb-true}
use Rattle.std.specs.Cmp.{both_ways as same_tests}
use Rattle.std.proofs.lemmas.Nat.{same_from_place}
use Rattle.aim_geometry.specs.Cells.{Cell}
use Rattle.aim_geometry.specs.Rects.{has_bit}
use Rattle.aim_sheets.proofs.Masks.{no_bit}
use Rattle.aim_tiles.specs.Cells.{in_box}
use Rattle.aim_tiles.specs.Pages.{place_of, has_mark}
use Rattle.aim_tiles.proofs.Sets.{InBox, box_parts}
use Rattle.aim_tiles.proofs.Writes.{one_step}

and-false : (a : Bool) → false ≡ (a && false)
and-false true = refl
and-false false = refl

-- the page of one step more is cleared
module _ (size horizon now gone : ℕ) (old words new : List ℕ) (ahead : 0 < horizon) (few : gone < horizon)
    (cleared : (k : ℕ) → (now + gone) % horizon * size ≤ k → k < (now + gone) % horizon * size + size → get_or new k 0 ≡ 0)
    (below : (k : ℕ) → k < (now + gone) % horizon * size → get_or new k 0 ≡ get_or words k 0)
    (above : (k : ℕ) → (now + gone) % horizon * size + size ≤ k → get_or new k 0 ≡ get_or words k 0)
    (before : (cell : Cell) → in_box size horizon now cell ≡ true → has_mark words size horizon cell ≡ (has_mark old size horizon cell && nat_le (now + gone) cell.step))
  where
    leaves : (cell : Cell) → InBox size horizon now cell → cell.step ≡ now + gone → has_mark new size horizon cell ≡ (has_mark old size horizon cell && nat_le (now + (gone + 1)) cell.step)
    leaves cell box is =
        let e : cell.step % horizon * size ≡ (now + gone) % horizon * size = ap (λ s. s % horizon * size) is in
        let row : cell.row < size = box.row in
        let none : get_or new (place_of size horizon cell.step cell.row) 0 ≡ 0 = cleared (place_of size horizon cell.step cell.row) (omega arith) (omega arith) in
        let no : nat_le (now + (gone + 1)) cell.step ≡ false = lt-leb (now + (gone + 1)) cell.step (omega arith) in
        ap (λ w. has_bit w cell.col) none ∙ no_bit cell.col ∙ and-false (has_mark old size horizon cell) ∙ ap (λ b. has_mark old size horizon cell && b) (sym no)

    same_word : (cell : Cell) → InBox size horizon now cell → cell.step ≢ now + gone → get_or new (place_of size horizon cell.step cell.row) 0 ≡ get_or words (place_of size horizon cell.step cell.row) 0
    same_word cell box other = elim (cases_lt (place_of size horizon cell.step cell.row) ((now + gone) % horizon * size)) [
      | inl lower ↦ below (place_of size horizon cell.step cell.row) lower
      | inr from ↦ elim (cases_lt (place_of size horizon cell.step cell.row) ((now + gone) % horizon * size + size)) [
        | inl inside ↦ absurd (clash from inside)
        | inr beyond ↦ above (place_of size horizon cell.step cell.row) beyond
      ]
    ]
      where
        clash : (now + gone) % horizon * size ≤ place_of size horizon cell.step cell.row → place_of size horizon cell.step cell.row < (now + gone) % horizon * size + size → ⊥
        clash from inside =
            let r : ℕ = place_of size horizon cell.step cell.row - (now + gone) % horizon * size in
            let at : place_of size horizon cell.step cell.row ≡ (now + gone) % horizon * size + (place_of size horizon cell.step cell.row - (now + gone) % horizon * size) = omega arith in
            let same = same_from_place (cell.step % horizon) cell.row ((now + gone) % horizon) (place_of size horizon cell.step cell.row - (now + gone) % horizon * size) size box.row (omega arith) at in
            other (one_step horizon now cell.step (now + gone) ahead same.0 box.from box.below (omega arith) (omega arith))

    stays : (cell : Cell) → in_box size horizon now cell ≡ true → InBox size horizon now cell → cell.step ≢ now + gone → has_mark new size horizon cell ≡ (has_mark old size horizon cell && nat_le (now + (gone + 1)) cell.step)
    stays cell is box other =
        let later : nat_le (now + gone) cell.step ≡ nat_le (now + (gone + 1)) cell.step = same_tests (nat_le (now + gone) cell.step) (nat_le (now + (gone + 1)) cell.step)
        (λ h. (let l : now + gone ≤ cell.step = leb-true (now + gone) cell.step h in le-leb (now + (gone + 1)) cell.step (omega arith)))
        (λ h. (let l : now + (gone + 1) ≤ cell.step = leb-true (now + (gone + 1)) cell.step h in le-leb (now + gone) cell.step (omega arith))) in
        ap (λ w. has_bit w cell.col) (same_word cell box other) ∙ before cell is ∙ ap (λ b. has_mark old size horizon cell && b) later

    pub one_cleared : (cell : Cell) → in_box size horizon now cell ≡ true → has_mark new size horizon cell ≡ (has_mark old size horizon cell && nat_le (now + (gone + 1)) cell.step)
    one_cleared cell is =
        let box : InBox size horizon now cell = box_parts size horizon now cell is in
        elim (cases_eq cell.step (now + gone)) [
          | inl e ↦ leaves cell box e
          | inr n ↦ stays cell is box n
        ]

-- what is marked once one page more is cleared, where the page's place, size and horizon are given by equations
pub cleared_more : (size horizon now gone size' horizon' page : ℕ) (old words new : List ℕ) → 0 < horizon → gone < horizon → size' ≡ size → horizon' ≡ horizon → page ≡ (now + gone) % horizon' * size'
    → ((k : ℕ) → page ≤ k → k < page + size' → get_or new k 0 ≡ 0) → ((k : ℕ) → k < page → get_or new k 0 ≡ get_or words k 0) → ((k : ℕ) → page + size' ≤ k → get_or new k 0 ≡ get_or words k 0)
    → ((cell : Cell) → in_box size horizon now cell ≡ true → has_mark words size horizon cell ≡ (has_mark old size horizon cell && nat_le (now + gone) cell.step))
    → (cell : Cell) → in_box size horizon now cell ≡ true → has_mark new size horizon cell ≡ (has_mark old size horizon cell && nat_le (now + (gone + 1)) cell.step)
cleared_more size horizon now gone size' horizon' page old words new ahead few same_size same_horizon place cleared below above before =
    let at : page ≡ (now + gone) % horizon * size = place ∙ (λ i. (now + gone) % same_horizon i * same_size i) in
    one_cleared size horizon now gone old words new ahead few
    (λ k from to. cleared k (omega arith) (omega arith))
    (λ k to. below k (omega arith))
    (λ k from. above k (omega arith))
    before
