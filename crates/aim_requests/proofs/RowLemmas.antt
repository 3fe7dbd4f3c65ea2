-- One row more of a step.
use Rattle.std.proofs.Common.{◌≡◌, ℕ, zero, suc, ◌+◌, ◌^◌, ◌<◌, ◌≤◌, Bool, true, false, ◌||◌, ◌&&◌, List, arith, refl, sym, ◌∙◌, nat_le, nat_lt, lt-ltb, le-ltb, eqb, eq-eqb, inl, inr, if◌then◌else◌}
use Rattle.std.specs.Prelude.{◌==◌, ◌≢◌}
use Rattle.std.proofs.Math.Decide.{dec_lt}
use Rattle.std.proofs.lemmas.Bool.{cases_eq, ne_eqb, le-leb, lt-leb}
use Rattle.std.proofs.lemmas.Nat.Bits.{bit_at-zero, bit_at-lt, bit_at_above, same_from_bits_below}
use Rattle.std.specs.Int.{bit_at}
use Rattle.aim_geometry.specs.Bounded.{some_below}
use Rattle.aim_geometry.specs.Rects.{has_bit}
use Rattle.aim_geometry.proofs.BoundedLemmas.{some_below_found, some_below_false}
use Rattle.std.specs.declared.result.Result.{Result}
use Rattle.std.specs.declared.result.Result.TheVariants.{Ok, Err}
use Rattle.std.specs.Result.{OnErr}
use Rattle.aim_requests.specs.Counts.{count_below}
use Rattle.aim_requests.proofs.CountLemmas.{count_none}
use Rattle.std.specs.List.{slice_index_or}
use Rattle.aim_sheets.specs.declared.spans.Span.{Span}
use Rattle.aim_sheets.proofs.Order.{precedes_parts, precedes_from}
use Rattle.aim_requests.specs.Rows.{AreBefore, is_shown, has_shown, in_rows_of}

-- a mask's bits as a test: below 64 those of the row, above none
pub bits_of : (mask c : ℕ) (shown : ℕ → Bool) → mask < 2 ^ 64 → ((c : ℕ) → c < 64 → has_bit mask c ≡ shown c) → has_bit mask c ≡ (nat_lt c 64 && shown c)
bits_of mask c shown fits bits = elim (dec_lt c 64) [
  | yes l ↦ rw (lt-ltb c 64 l) (bits c l)
  | no l ↦ rw (le-ltb c 64 (omega arith), bit_at_above mask 64 c fits (omega arith)) refl
]

no_bits : (mask : ℕ) → mask < 2 ^ 64 → ((c : ℕ) → c < 64 → has_bit mask c ≡ false) → mask ≡ 0
no_bits mask fits none = same_from_bits_below 64 mask 0 fits (omega arith) (λ c l. clear (bit_at mask c) (bit_at-lt mask c) (none c l) ∙ sym (bit_at-zero c))
  where
    clear : (b : ℕ) → b < 2 → (b == 1) ≡ false → b ≡ 0
    clear zero l e = refl
    clear (suc zero) l e = absurd (cc)
    clear (suc (suc b)) l e = absurd (omega arith)

-- a mask isn't 0 exactly where the row has a tile
pub mask_counts : (mask : ℕ) (shown : ℕ → Bool) → mask < 2 ^ 64 → ((c : ℕ) → c < 64 → has_bit mask c ≡ shown c) → ◌≡◌ {A = ℕ} (if mask == 0 then 0 else 1) (if some_below 64 shown then 1 else 0)
mask_counts mask shown fits bits = go (some_below 64 shown) refl
  where
    go : (b : Bool) → some_below 64 shown ≡ b → ◌≡◌ {A = ℕ} (if mask == 0 then 0 else 1) (if some_below 64 shown then 1 else 0)
    go true e =
        let f = some_below_found 64 shown e in
        let set : has_bit mask f.0 ≡ true = bits f.0 f.1 ∙ f.2 in
        let some : mask ≡ 0 → ⊥ = λ z. absurd (let none : has_bit mask f.0 ≡ false = rw (z, bit_at-zero f.0) refl in cc) in
        rw (ne_eqb mask 0 some, e) refl
    go false e = rw (no_bits mask fits (λ c l. bits c l ∙ some_below_false 64 shown c e l), e) refl

pub row_counts : (n first row mask : ℕ) (inner outer : List ℕ) → first ≤ row → mask < 2 ^ 64 → ((c : ℕ) → c < 64 → has_bit mask c ≡ is_shown n inner outer row c) →
    ◌≡◌ {A = ℕ} (if mask == 0 then 0 else 1) (if has_shown n inner outer first row then 1 else 0)
row_counts n first row mask inner outer low fits bits = rw (le-leb first row low) (mask_counts mask (is_shown n inner outer row) fits bits)

pub mask_marks : (n first row mask : ℕ) (inner outer : List ℕ) → first ≤ row → mask < 2 ^ 64 → mask ≢ 0 → ((c : ℕ) → c < 64 → has_bit mask c ≡ is_shown n inner outer row c) →
    has_shown n inner outer first row ≡ true
mask_marks n first row mask inner outer low fits some bits = go (has_shown n inner outer first row) refl
  where
    go : (b : Bool) → has_shown n inner outer first row ≡ b → has_shown n inner outer first row ≡ true
    go true e = e
    go false e = absurd (let h = row_counts n first row mask inner outer low fits bits in let z = ne_eqb mask 0 some in let o : ◌≡◌ {A = ℕ} 1 0 = rw (z, e) at h in omega arith)

-- before the first row there is none
pub rows_none : (n step first s r c : ℕ) (inner outer : List ℕ) → in_rows_of n inner outer step first first s r c ≡ false
rows_none n step first s r c inner outer = elim (dec_lt r first) [
  | yes l ↦ (let a : nat_le first r ≡ false = lt-leb first r l in rw a (none (step == s)))
  | no l ↦ (let a : nat_lt r first ≡ false = le-ltb r first (omega arith) in rw a (no_range (step == s) (nat_le first r) (nat_lt c 64 && is_shown n inner outer r c)))
]
  where
    none : (a : Bool) → (a && false) ≡ false
    none true = refl
    none false = refl

    no_range : (a b x : Bool) → (a && ((b && false) && x)) ≡ false
    no_range true true x = refl
    no_range true false x = refl
    no_range false b x = refl

-- a row more
pub rows_more : (n step first row s r c mask : ℕ) (inner outer : List ℕ) (old new before : Bool) → first ≤ row → mask < 2 ^ 64 → ((c : ℕ) → c < 64 → has_bit mask c ≡ is_shown n inner outer row c) →
    new ≡ (old || (step == s && row == r && has_bit mask c)) → old ≡ (before || in_rows_of n inner outer step first row s r c) →
    new ≡ (before || in_rows_of n inner outer step first (row + 1) s r c)
rows_more n step first row s r c mask inner outer old new before low fits bits a b = elim (cases_eq r row) [
  | inl e ↦ (
      let x : has_bit mask c ≡ (nat_lt c 64 && is_shown n inner outer r c) = rw e (bits_of mask c (is_shown n inner outer row) fits bits) in
      let same : eqb row r ≡ true = eq-eqb row r (sym e) in
      let from : nat_le first r ≡ true = le-leb first r (omega arith) in
      let not_yet : nat_lt r row ≡ false = le-ltb r row (omega arith) in
      let now : nat_lt r (row + 1) ≡ true = lt-ltb r (row + 1) (omega arith) in
      a ∙ rw (b, x, same, from, not_yet, now) (here (step == s) (nat_lt c 64 && is_shown n inner outer r c) before))
  | inr m ↦ (
      let other : eqb row r ≡ false = ne_eqb row r (λ e. m (sym e)) in
      let stays : nat_lt r (row + 1) ≡ nat_lt r row = lt_more r row m in
      a ∙ rw (b, other, stays) (there (step == s) (before || in_rows_of n inner outer step first row s r c) (has_bit mask c)))
]
  where
    here : (t x before : Bool) → ((before || (t && ((true && false) && x))) || ((t && true) && x)) ≡ (before || (t && ((true && true) && x)))
    here t x true = refl
    here true x false = refl
    here false x false = refl

    there : (t y z : Bool) → (y || ((t && false) && z)) ≡ y
    there true true z = refl
    there true false z = refl
    there false true z = refl
    there false false z = refl

    lt_more : (r k : ℕ) → (r ≡ k → ⊥) → nat_lt r (k + 1) ≡ nat_lt r k
    lt_more r k n = elim (dec_lt r k) [
      | yes l ↦ rw (lt-ltb r (k + 1) (omega arith), lt-ltb r k l) refl
      | no l ↦ rw (le-ltb r (k + 1) (omega arith), le-ltb r k (omega arith)) refl
    ]

-- and no row is counted
pub shown_none : (n first : ℕ) (inner outer : List ℕ) → count_below first (has_shown n inner outer first) ≡ 0
shown_none n first inner outer = count_none first (has_shown n inner outer first) (λ k l. let a : nat_le first k ≡ false = lt-leb first k l in rw a refl)

pub or_none : (x y : Bool) → y ≡ false → x ≡ (x || y)
or_none true y e = refl
or_none false y e = sym e

pub on_err : {T E : Type 0} (r : Result T E) (P : Type 0) → P → OnErr r P
on_err (Ok x) P p = tt
on_err (Err e) P p = p

-- what comes before a row of a step comes before later rows, and before the next step
pub before_row : (spans : List Span) (step row later : ℕ) → row ≤ later → AreBefore spans step row → AreBefore spans step later
before_row spans step row later h b = λ k d l.
    let held = slice_index_or spans k d in
    let p = precedes_parts held step row (b k d l) in
    precedes_from held step later (record { no_later = p.no_later; lower = λ e. let r = p.lower e in omega arith })

pub before_step : (spans : List Span) (step row next : ℕ) → step < next → AreBefore spans step row → AreBefore spans next 0
before_step spans step row next h b = λ k d l.
    let held = slice_index_or spans k d in
    let p = precedes_parts held step row (b k d l) in
    let n = p.no_later in
    precedes_from held next 0 (record { no_later = omega arith; lower = λ e. absurd (omega arith) })
