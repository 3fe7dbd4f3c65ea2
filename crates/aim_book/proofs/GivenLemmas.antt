-- What a reservation that is given up or taken changes of the sheets and of the cost.
use Rattle.std.proofs.Common.{◌≡◌, ℕ, ◌+◌, ◌-◌, ◌<◌, ◌≤◌, List, length, Option, None, ◌∙◌, ap, arith}
use Rattle.std.specs.Prelude.{slice_set, if◌then◌else◌}
use Rattle.std.proofs.lemmas.List.{get_or-set_same}
use Rattle.aim_reservations.specs.Keeping.{is_named, row_count}
use Rattle.aim_reservations.specs.Rows.{row_of, spans_in}
use Rattle.aim_reservations.specs.declared.reservations.Reservation.{Reservation}
use Rattle.aim_book.specs.Reserved.{rows_exchanged}
use Rattle.aim_book.proofs.AtOnceLemmas.{given_count, given_fits}

-- the vehicle's row is given up, as it is named
module _ (rows old new : List (Option Reservation)) (v : ℕ) (id : Option ℕ) (now before : ℕ) (there : v < length old) (same : rows ≡ old)
    (set : new ≡ slice_set rows v (if is_named id (row_of rows v) then None else row_of rows v)) where
  row_is : row_of new v ≡ (if is_named id (row_of rows v) then None else row_of rows v)
  row_is = ap (λ ss. row_of ss v) set ∙ get_or-set_same rows v (if is_named id (row_of rows v) then None else row_of rows v) None (rw same there)

  pub given_sheets : now ≡ before + (if is_named id (row_of rows v) then 1 else 0) → now + row_count (row_of new v) ≡ before + row_count (row_of old v)
  given_sheets given =
      let e = given_count id (row_of rows v) in
      rw (row_is, ← same) (omega (arith, given, e))

  pub given_cost : now ≤ before + (if is_named id (row_of rows v) then length (spans_in (row_of rows v)) else 0) → now ≤ before + rows_exchanged (row_of old v) (row_of new v)
  given_cost given =
      let e = given_fits id (row_of rows v) in
      rw (row_is, ← same) (omega (arith, given, e))

-- two sheets that are taken, and come back or are kept
pub sheets_taken : (after kept prepared row tried before old : ℕ) → after + kept ≡ prepared + row + 2 → prepared ≡ tried - 2 → tried ≡ before → row ≡ old → 2 ≤ before → after + kept ≡ before + old
sheets_taken after kept prepared row tried before old a b c d two = omega arith

pub taken_few : (prepared tried before : ℕ) → prepared ≡ tried - 2 → tried ≡ before → before ≤ 1000000 → prepared ≤ 1000000
taken_few prepared tried before a b few = omega arith

pub sheets_back : (rows old : List (Option Reservation)) (v now before : ℕ) → rows ≡ old → now ≡ before + 2 → now + row_count (row_of rows v) ≡ before + row_count (row_of old v) + 2
sheets_back rows old v now before same is = rw same (omega arith)

pub few_more : (n : ℕ) → n ≤ 1000000 → n ≤ 1000002
few_more n few = omega arith

pub no_less : (n a : ℕ) → n ≤ n + a
no_less n a = omega arith

pub cost_less : (n m a b : ℕ) → n ≤ m + b → n ≤ m + a + b
cost_less n m a b l = omega arith

pub cost_time : (n m a b t : ℕ) → n ≡ m + t → n ≤ m + a + b + t
cost_time n m a b t e = omega arith

-- the vehicle's row is what comes next
pub kept_sheets : (rows old new : List (Option Reservation)) (v now before : ℕ) (next : Option Reservation) → v < length old → rows ≡ old → new ≡ slice_set rows v next →
    now + row_count next ≡ before + row_count (row_of rows v) + 2 → now + row_count (row_of new v) ≡ before + row_count (row_of old v) + 2
kept_sheets rows old new v now before next there same set told =
    let is : row_of new v ≡ next = ap (λ ss. row_of ss v) set ∙ get_or-set_same rows v next None (rw same there) in
    rw (is, ← same) told

-- what is looked at, and what is moved
pub moved_cost : (now looked start a moved most : ℕ) → now ≤ looked + moved → moved ≤ most → looked ≤ start + a → now ≤ start + a + most
moved_cost now looked start a moved most p q r = omega arith
