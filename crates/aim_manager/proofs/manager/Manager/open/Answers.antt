use Rattle.aim_book.specs.declared.book.OpenFault.TheVariants as fault
use Rattle.aim_manager.proofs.Opens.{no_fault, not_room, not_vehicles}
use Rattle.aim_manager.proofs.manager.Manager.open.Goals as goal

pub returns-in-Ok-clause-vehicles : goal.returns-in-Ok-clause-vehicles
returns-in-Ok-clause-vehicles c = no_fault c.in_ok-book.book c.in-Ok.opened fault.Vehicles c.in_ok-book.ensures.vehicles

pub returns-in-Ok-clause-room : goal.returns-in-Ok-clause-room
returns-in-Ok-clause-room c = no_fault c.in_ok-book.book c.in-Ok.opened fault.Room c.in_ok-book.ensures.room

pub returns-in-Err-clause-vehicles : goal.returns-in-Err-clause-vehicles
returns-in-Err-clause-vehicles c = not_vehicles c.in_ok-book.book c.in_ok-book.ensures.vehicles

pub returns-in-Err-clause-room : goal.returns-in-Err-clause-room
returns-in-Err-clause-room c = not_room c.in_ok-book.book c.in_ok-book.ensures.room
