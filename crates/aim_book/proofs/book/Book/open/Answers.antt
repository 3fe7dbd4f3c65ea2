use Rattle.std.proofs.Common.{refl}
use Rattle.aim_book.specs.declared.book.OpenFault.TheVariants as fault
use Rattle.aim_book.proofs.OpenLemmas.{fault_on, no_fault}
use Rattle.aim_book.proofs.book.Book.open.Goals as goal

pub returns-in-Ok-clause-vehicles : goal.returns-in-Ok-clause-vehicles
returns-in-Ok-clause-vehicles g c = no_fault _ _ fault.Vehicles c.in-Ok.ensures.vehicles

pub returns-in-Ok-clause-room : goal.returns-in-Ok-clause-room
returns-in-Ok-clause-room g c = no_fault _ _ fault.Room c.in-Ok.ensures.room

pub returns-in-Err-clause-vehicles : goal.returns-in-Err-clause-vehicles
returns-in-Err-clause-vehicles g c = fault_on c.in-Err.fault fault.Vehicles c.in-Err.ensures.vehicles

pub returns-in-Err-clause-room : goal.returns-in-Err-clause-room
returns-in-Err-clause-room g c = fault_on c.in-Err.fault fault.Room c.in-Err.ensures.room

pub returns-in-Ok-clause-book : goal.returns-in-Ok-clause-book
returns-in-Ok-clause-book g c = rw c.in-Ok.ensures.new.0 refl
