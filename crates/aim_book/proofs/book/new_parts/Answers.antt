use Rattle.std.proofs.Common.{refl}
use Rattle.aim_book.proofs.OpenLemmas.{room_bad, room_good, room_unasked, vehicles_bad, vehicles_good}
use Rattle.aim_book.proofs.book.new_parts.Goals as goal

pub returns-then-vehicles-eq0-clause-vehicles : goal.returns-then-vehicles-eq0-clause-vehicles
returns-then-vehicles-eq0-clause-vehicles g c = vehicles_bad _ c.args.vehicles c.args.room refl c.then-vehicles-eq0.either

pub returns-then-vehicles-eq0-clause-room : goal.returns-then-vehicles-eq0-clause-room
returns-then-vehicles-eq0-clause-room g c = room_unasked _ c.args.vehicles c.args.room refl c.then-vehicles-eq0.either

pub returns-then-room-eq0-clause-vehicles : goal.returns-then-room-eq0-clause-vehicles
returns-then-room-eq0-clause-vehicles g c = vehicles_good _ c.args.vehicles c.args.room refl c.if-vehicles-eq0.false c.if-vehicles-gt-MOST_VEHICLES.false

pub returns-then-room-eq0-clause-room : goal.returns-then-room-eq0-clause-room
returns-then-room-eq0-clause-room g c = room_bad _ c.args.vehicles c.args.room refl c.if-vehicles-eq0.false c.if-vehicles-gt-MOST_VEHICLES.false c.then-room-eq0.either

pub returns-in-Ok-clause-vehicles : goal.returns-in-Ok-clause-vehicles
returns-in-Ok-clause-vehicles g c = vehicles_good _ c.args.vehicles c.args.room refl c.if-vehicles-eq0.false c.if-vehicles-gt-MOST_VEHICLES.false

pub returns-in-Ok-clause-room : goal.returns-in-Ok-clause-room
returns-in-Ok-clause-room g c = room_good _ c.args.vehicles c.args.room refl c.if-room-eq0.false c.if-room-gt-MOST_ENTRIES.false

pub returns-in-Err-clause-vehicles : goal.returns-in-Err-clause-vehicles
returns-in-Err-clause-vehicles g c = vehicles_good _ c.args.vehicles c.args.room refl c.if-vehicles-eq0.false c.if-vehicles-gt-MOST_VEHICLES.false

pub returns-in-Err-clause-room : goal.returns-in-Err-clause-room
returns-in-Err-clause-room g c = room_good _ c.args.vehicles c.args.room refl c.if-room-eq0.false c.if-room-gt-MOST_ENTRIES.false
