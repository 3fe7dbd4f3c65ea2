use Rattle.aim_script.proofs.HeaderLemmas.{vehicles_fall, vehicles_line}
use Rattle.aim_script.proofs.headers.Place.vehicles.Goals as goal

pub returns-in-Moves : goal.returns-in-Moves
returns-in-Moves c before version st = vehicles_fall before _ _ _ c.in-Moves.is st

pub returns-in-Policies : goal.returns-in-Policies
returns-in-Policies c before version st = vehicles_line before _ _ _ _ _ _ c.in-Policies.is c.closed.ensures version st
