-- What an answer says of the numbers that a book is opened with.
use Rattle.std.proofs.Common.{◌≡◌, ℕ, ◌<◌, ◌≤◌, ◌⊎◌, inl, inr, Bool, true, false, Result, Ok, Err, ap, arith}
use Rattle.std.specs.Prelude.{◌↔◌}
use Rattle.aim_messages.specs.declared.entries.TheConstants.{MOST_ENTRIES, MOST_VEHICLES}
use Rattle.aim_book.specs.declared.book.OpenFault.{OpenFault}
use Rattle.aim_book.specs.declared.book.OpenFault.TheVariants as fault

abbrev is_vehicles : {B : Type 0} → Result B OpenFault → Bool
is_vehicles (Ok b) = false
is_vehicles (Err fault.NoMemory) = false
is_vehicles (Err fault.Vehicles) = true
is_vehicles (Err fault.Room) = false

abbrev is_room : {B : Type 0} → Result B OpenFault → Bool
is_room (Ok b) = false
is_room (Err fault.NoMemory) = false
is_room (Err fault.Vehicles) = false
is_room (Err fault.Room) = true

within : (n most : ℕ) → (n ≡ 0 → ⊥) → n ≤ most → (n ≡ 0) ⊎ (most < n) → ⊥
within n most some few bad = elim bad [
  | inl z ↦ some z
  | inr l ↦ omega arith
]

-- the numbers of vehicles and of entries are tested one after the other
module _ {B : Type 0} (r : Result B OpenFault) (v room : ℕ) where
  pub vehicles_bad : r ≡ Err fault.Vehicles → (v ≡ 0) ⊎ ((v ≡ 0 → ⊥) × (MOST_VEHICLES < v)) → (r ≡ Err fault.Vehicles) ↔ ((v ≡ 0) ⊎ (MOST_VEHICLES < v))
  vehicles_bad is either = (
    (λ e. (elim either [
      | inl z ↦ inl z
      | inr l ↦ inr l.1
    ])),
    (λ h. is),
  )

  pub vehicles_good : is_vehicles r ≡ false → (v ≡ 0 → ⊥) → v ≤ MOST_VEHICLES → (r ≡ Err fault.Vehicles) ↔ ((v ≡ 0) ⊎ (MOST_VEHICLES < v))
  vehicles_good other some few = (
    (λ e. (let q : is_vehicles r ≡ true = ap is_vehicles e in absurd (cc))),
    (λ h. absurd (within v MOST_VEHICLES some few h)),
  )

  pub room_unasked : is_room r ≡ false → (v ≡ 0) ⊎ ((v ≡ 0 → ⊥) × (MOST_VEHICLES < v)) → (r ≡ Err fault.Room) ↔ ((0 < v) × (v ≤ MOST_VEHICLES) × ((room ≡ 0) ⊎ (MOST_ENTRIES < room)))
  room_unasked other either = (
    (λ e. (let q : is_room r ≡ true = ap is_room e in absurd (cc))),
    (λ h. absurd (let a = h.0 in let b = h.1 in elim either [
      | inl z ↦ (omega arith)
      | inr l ↦ (let m = l.1 in omega arith)
    ])),
  )

  pub room_bad : r ≡ Err fault.Room → (v ≡ 0 → ⊥) → v ≤ MOST_VEHICLES → (room ≡ 0) ⊎ ((room ≡ 0 → ⊥) × (MOST_ENTRIES < room)) → (r ≡ Err fault.Room) ↔ ((0 < v) × (v ≤ MOST_VEHICLES) × ((room ≡ 0) ⊎ (MOST_ENTRIES < room)))
  room_bad is some few either = (
    (λ e. (
      (omega arith),
      few,
      (elim either [
        | inl z ↦ inl z
        | inr l ↦ inr l.1
      ]),
    )),
    (λ h. is),
  )

  pub room_good : is_room r ≡ false → (room ≡ 0 → ⊥) → room ≤ MOST_ENTRIES → (r ≡ Err fault.Room) ↔ ((0 < v) × (v ≤ MOST_VEHICLES) × ((room ≡ 0) ⊎ (MOST_ENTRIES < room)))
  room_good other some few = (
    (λ e. (let q : is_room r ≡ true = ap is_room e in absurd (cc))),
    (λ h. absurd (within room MOST_ENTRIES some few h.2)),
  )

-- no fault where there is a value, whatever it is
pub no_fault : {B C P : Type 0} (b : B) (x : C) (f : OpenFault) → (◌≡◌ {A = Result B OpenFault} (Ok b) (Err f)) ↔ P → (◌≡◌ {A = Result C OpenFault} (Ok x) (Err f)) ↔ P
no_fault b x f both = (
  (λ e. absurd (cc)),
  (λ p. (let e = both.1 p in absurd (cc))),
)

-- a fault that is handed on is the same
pub fault_on : {B C P : Type 0} (f g : OpenFault) → (◌≡◌ {A = Result B OpenFault} (Err f) (Err g)) ↔ P → (◌≡◌ {A = Result C OpenFault} (Err f) (Err g)) ↔ P
fault_on {B} {C} f g both = (
  (λ e. (let q : f ≡ g = cc in both.0 (ap {B = Result B OpenFault} (λ x. Err x) q))),
  (λ p. (let e = both.1 p in let q : f ≡ g = cc in ap {B = Result C OpenFault} (λ x. Err x) q)),
)
