-- The sheets that are kept for the vehicles below a number.
use Rattle.std.proofs.Common.{◌≡◌, inl, inr, ℕ, zero, suc, ◌+◌, ◌==◌, ◌<◌, ◌≤◌, false, Option, Some, None, List, [], ◌∷◌, ◌++◌, refl, ap, ◌∙◌, arith, rules}
use Rattle.std.proofs.lemmas.Bool.{cases_Bool, eqb-true, eqb-false}
use Rattle.aim_messages.specs.declared.entries.Entry.{Entry}
use Rattle.aim_layout.specs.Intersection.{Intersection}
use Rattle.aim_rules.specs.History.{Fresh, fresh, is_fresh}
use Rattle.aim_rules.specs.Kept.{kept}
use Rattle.aim_rules.proofs.HistoryLaws.{fresh-one, fresh-none}
use Rattle.aim_rules.proofs.HistoryLemmas.{served}
use Rattle.aim_rules.proofs.VehicleLaws.{kept-snoc}
use Rattle.aim_book.specs.Keeping.{row_count}
use Rattle.aim_book.specs.Reservation.{Reservation}
use Rattle.aim_book.specs.Reserved.{IsRowOf}
use Rattle.aim_line_session.specs.Servers.{kept_below, sheet_of}

-- a row is there exactly where a Confirm is kept
pub count_is : (i : Intersection) (o : Option Fresh) (row : Option Reservation) → IsRowOf i o row → row_count row ≡ sheet_of o
count_is i None None of = refl
count_is i (Some x) (Some r) of = refl
count_is i None (Some r) of = absurd of
count_is i (Some x) None of = absurd of

-- an entry of another caller leaves what a vehicle keeps
kept_other : (v : ℕ) (h : List Entry) (e : Entry) → (e.caller == v) ≡ false → sheet_of (kept (fresh (h ++ e ∷ [])) v) ≡ sheet_of (kept (fresh h) v)
kept_other v h e other = elim (cases_Bool (is_fresh h e)) [
  | inl new ↦ ap (λ xs. sheet_of (kept xs v)) (fresh-one h e new) ∙ ap sheet_of (kept-snoc (fresh h) (served h e) v ∙ rw other refl)
  | inr old ↦ ap (λ xs. sheet_of (kept xs v)) (fresh-none h e old)
]

kept_most : (o : Option Fresh) → sheet_of o ≤ 1
kept_most None = omega arith
kept_most (Some x) = omega arith

-- none is kept at first
pub none_kept : (n : ℕ) → kept_below n [] ≡ 0
unfolding kept_below
none_kept zero = refl
none_kept (suc n) = omega (arith, none_kept n, let none : sheet_of (kept (fresh []) n) ≡ 0 = refl in none)

-- at most one is kept for each vehicle
pub few_kept : (n : ℕ) (h : List Entry) → kept_below n h ≤ n
unfolding kept_below
few_kept zero h = omega arith
few_kept (suc n) h = omega (arith, few_kept n h, kept_most (kept (fresh h) n))

-- an entry of another caller leaves the sheets of the vehicles below
pub kept_by_others : (n : ℕ) (h : List Entry) (e : Entry) → n ≤ e.caller → kept_below n (h ++ e ∷ []) ≡ kept_below n h
unfolding kept_below
kept_by_others zero h e above = refl
kept_by_others (suc n) h e above = omega (arith, kept_by_others n h e (omega arith), kept_other n h e (apart e.caller n (omega arith)))
  where
    apart : (a b : ℕ) → b < a → (a == b) ≡ false
    apart a b h = search (rules)

-- an entry of a vehicle changes the sheets of that vehicle alone
pub kept_by_one : (n : ℕ) (h : List Entry) (e : Entry) → e.caller < n → kept_below n (h ++ e ∷ []) + sheet_of (kept (fresh h) e.caller) ≡ kept_below n h + sheet_of (kept (fresh (h ++ e ∷ [])) e.caller)
unfolding kept_below
kept_by_one zero h e below = absurd (omega arith)
kept_by_one (suc n) h e below = elim (cases_Bool (e.caller == n)) [
  | inl same ↦ let is : e.caller ≡ n = eqb-true e.caller n same in omega (arith, kept_by_others n h e (omega arith), ap (λ v. sheet_of (kept (fresh h) v)) is, ap (λ v. sheet_of (kept (fresh (h ++ e ∷ [])) v)) is)
  | inr other ↦ omega (arith, kept_by_one n h e (let apart = eqb-false e.caller n other in omega (arith, apart)), kept_other n h e other)
]
