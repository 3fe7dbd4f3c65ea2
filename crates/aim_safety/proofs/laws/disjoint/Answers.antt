use Rattle.aim_safety.proofs.MeetLemmas.{no_two_drivers, no_green}
use Rattle.aim_safety.proofs.laws.disjoint.Goals as goal

pub returns-clause-drivers : goal.returns-clause-drivers
returns-clause-drivers c = no_two_drivers

pub returns-clause-green : goal.returns-clause-green
returns-clause-green c = no_green
