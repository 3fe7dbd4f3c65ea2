-- What is kept of a history where the table belongs to no ledger.
use Rattle.aim_book.specs.declared.desks.Desk.{Desk}
use Rattle.aim_book.specs.declared.idle_desks.IdleDesk.{IdleDesk}

-- the desk of the same parts
abbrev pub joined : {L : Type 0} → IdleDesk → Desk L
joined d = record { sessions = d.sessions; reservations = record { rows = d.reservations.rows; table = d.reservations.table }; timeline = d.timeline; distances = d.distances; approaches = d.approaches; has_lights = d.has_lights; stopped = d.stopped }
