-- Which faults a manager's opening has, from those of its book's.
use Rattle.std.proofs.Common.{◌≡◌, Result, Ok, Err}
use Rattle.std.specs.Prelude.{◌↔◌}
use Rattle.aim_book.specs.declared.book.OpenFault.{OpenFault}
use Rattle.aim_book.specs.declared.book.OpenFault.TheVariants as fault

-- no fault of the numbers where there are a book and a manager
pub no_fault : {B C P : Type 0} (b : B) (x : C) (f : OpenFault) → (◌≡◌ {A = Result B OpenFault} (Ok b) (Err f)) ↔ P → (◌≡◌ {A = Result C OpenFault} (Ok x) (Err f)) ↔ P
no_fault b x f both = (
  (λ e. absurd (cc)),
  (λ p. (let e = both.1 p in absurd (cc))),
)

-- nor where there is a book, and no memory for the manager
module _ {B C P : Type 0} (b : B) where
  pub not_vehicles : (◌≡◌ {A = Result B OpenFault} (Ok b) (Err fault.Vehicles)) ↔ P → (◌≡◌ {A = Result C OpenFault} (Err fault.NoMemory) (Err fault.Vehicles)) ↔ P
  not_vehicles both = (
    (λ e. absurd (cc)),
    (λ p. (let e = both.1 p in absurd (cc))),
  )

  pub not_room : (◌≡◌ {A = Result B OpenFault} (Ok b) (Err fault.Room)) ↔ P → (◌≡◌ {A = Result C OpenFault} (Err fault.NoMemory) (Err fault.Room)) ↔ P
  not_room both = (
    (λ e. absurd (cc)),
    (λ p. (let e = both.1 p in absurd (cc))),
  )
