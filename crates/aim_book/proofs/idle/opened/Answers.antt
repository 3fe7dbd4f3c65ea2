use Rattle.std.proofs.Common.{◌∙◌}
use Rattle.aim_book.proofs.OpenLemmas.{no_fault}
use Rattle.aim_book.specs.declared.book.OpenFault.TheVariants as fault
use Rattle.aim_book.proofs.idle.opened.Goals as goal

pub returns-in-Ok-clause-room : goal.returns-in-Ok-clause-room
returns-in-Ok-clause-room g c = no_fault c.in-Ok.book c.leave.result fault.Room c.in-Ok.ensures.room

pub returns-in-Ok-clause-vehicles : goal.returns-in-Ok-clause-vehicles
returns-in-Ok-clause-vehicles g c = no_fault c.in-Ok.book c.leave.result fault.Vehicles c.in-Ok.ensures.vehicles

pub returns-in-Ok-clause-book : goal.returns-in-Ok-clause-book
returns-in-Ok-clause-book g c = c.leave.ensures ∙ c.in-Ok.ensures.book
