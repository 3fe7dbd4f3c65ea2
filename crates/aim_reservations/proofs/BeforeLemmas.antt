-- The order of cells by step, row and column.
use Rattle.std.proofs.Common.{◌≡◌, ℕ, Bool, true, false, ◌||◌, ◌⊎◌, inl, inr, arith, refl, sym, ◌∙◌, Option, Some, None}
use Rattle.std.specs.Ordering.{is_le}
use Rattle.std.proofs.lemmas.Bool.{false_from_ne_true, cases_order, le-ltb, eq-eqb, ne_eqb, both_ways}
use Rattle.aim_geometry.specs.Cells.{Cell}
use Rattle.aim_tiles.specs.Cells.{cell_cmp}
use Rattle.aim_tiles.specs.Searches.{IsFirst}
use Rattle.aim_reservations.specs.Blocking.{Before, IsLeastCell, IsLeastOf}

pub before_trans : (a b c : Cell) → Before a b → Before b c → Before a c
before_trans a b c (inl s) (inl t) = inl (omega arith)
before_trans a b c (inl s) (inr (t, u)) = inl (omega arith)
before_trans a b c (inr (s, u)) (inl t) = inl (omega arith)
before_trans a b c (inr (s, inl u)) (inr (t, inl v)) = inr (omega arith, inl (omega arith))
before_trans a b c (inr (s, inl u)) (inr (t, inr (v, w))) = inr (omega arith, inl (omega arith))
before_trans a b c (inr (s, inr (u, x))) (inr (t, inl v)) = inr (omega arith, inl (omega arith))
before_trans a b c (inr (s, inr (u, x))) (inr (t, inr (v, w))) = inr (omega arith, inr (omega arith, omega arith))

pub cell_same : (c d : Cell) → c.step ≡ d.step → c.row ≡ d.row → c.col ≡ d.col → c ≡ d
cell_same c d s r k = λ j. record { row = r j; col = k j; step = s j }

pub before_or : (c d : Cell) → Before c d ⊎ ((c ≡ d) ⊎ Before d c)
before_or c d = elim (cases_order c.step d.step) [
  | inr (inl l) ↦ inl (inl l)
  | inr (inr l) ↦ inr (inr (inl l))
  | inl s ↦ elim (cases_order c.row d.row) [
    | inr (inl l) ↦ inl (inr (s, inl l))
    | inr (inr l) ↦ inr (inr (inr (sym s, inl l)))
    | inl r ↦ elim (cases_order c.col d.col) [
      | inr (inl l) ↦ inl (inr (s, inr (r, l)))
      | inr (inr l) ↦ inr (inr (inr (sym s, inr (sym r, l))))
      | inl k ↦ inr (inl (cell_same c d s r k))
    ]
  ]
]

-- a cell is not at most one that is before it
after_not : (c d : Cell) → Before d c → is_le (cell_cmp c d) ≡ false
after_not c d (inl s) = rw (le-ltb c.step d.step (omega arith), ne_eqb c.step d.step (λ e. absurd (omega arith))) refl
after_not c d (inr (s, inl r)) = rw (le-ltb c.step d.step (omega arith), eq-eqb c.step d.step (sym s), le-ltb c.row d.row (omega arith), ne_eqb c.row d.row (λ e. absurd (omega arith))) refl
after_not c d (inr (s, inr (r, k))) = rw (le-ltb c.step d.step (omega arith), eq-eqb c.step d.step (sym s), le-ltb c.row d.row (omega arith), eq-eqb c.row d.row (sym r), le-ltb c.col d.col (omega arith), ne_eqb c.col d.col (λ e. absurd (omega arith))) refl

pub first_least : (test : Cell → Bool) (c : Cell) → IsFirst test c → IsLeastCell test c
first_least test c first = record {
  passes = first.passes;
  none_before = λ d b. false_from_ne_true (test d) (λ t. both_ways (is_le (cell_cmp c d)) (after_not c d b) (first.least d t));
}

pub least_same : (p q : Cell → Bool) (o : Option (ℕ × ℕ × ℕ)) → ((c : Cell) → p c ≡ q c) → IsLeastOf p o → IsLeastOf q o
least_same p q None same least = λ c. sym (same c) ∙ least c
least_same p q (Some r) same least = record { passes = sym (same _) ∙ least.passes; none_before = λ d b. sym (same d) ∙ least.none_before d b }

-- of two cells the one that isn't after the other
pub first_of_two : (p q : Cell → Bool) (c d : Cell) → IsLeastCell p c → IsLeastCell q d → (Before d c → ⊥) → IsLeastCell (λ e. p e || q e) c
first_of_two p q c d a b order = record {
  passes = rw (a.passes) refl;
  none_before = λ e l. rw (a.none_before e l) (false_from_ne_true (q e) (λ t. elim (before_or e d) [
    | inl x ↦ both_ways (q e) (b.none_before e x) t
    | inr (inl x) ↦ order (rw (← x) l)
    | inr (inr x) ↦ order (before_trans d e c x l)
  ]));
}

pub second_of_two : (p q : Cell → Bool) (c d : Cell) → IsLeastCell p c → IsLeastCell q d → Before d c → IsLeastCell (λ e. p e || q e) d
second_of_two p q c d a b order = record {
  passes = go (p d) (q d) b.passes;
  none_before = λ e l. rw (a.none_before e (before_trans e d c l order)) (b.none_before e l);
}
  where
    go : (x y : Bool) → y ≡ true → (x || y) ≡ true
    go true y t = refl
    go false y t = t

pub none_of_first : (p q : Cell → Bool) (o : Option (ℕ × ℕ × ℕ)) → ((c : Cell) → p c ≡ false) → IsLeastOf q o → IsLeastOf (λ e. p e || q e) o
none_of_first p q o none least = least_same q (λ e. p e || q e) o (λ c. rw (none c) refl) least

pub none_of_second : (p q : Cell → Bool) (o : Option (ℕ × ℕ × ℕ)) → ((c : Cell) → q c ≡ false) → IsLeastOf p o → IsLeastOf (λ e. p e || q e) o
none_of_second p q o none least = least_same p (λ e. p e || q e) o (λ c. sym (rw (none c) (or_none (p c)))) least
  where
    or_none : (x : Bool) → (x || false) ≡ x
    or_none true = refl
    or_none false = refl
