use Rattle.aim_script_reading.proofs.Undecided.{decided_on, nothing_is_undecided}
use Rattle.aim_script_reading.proofs.laws.decisions_stay.Goals as goal

pub returns-clause-more : goal.returns-clause-more
returns-clause-more g c r front more decided = decided_on r front more decided

pub returns-clause-none : goal.returns-clause-none
returns-clause-none g c r = nothing_is_undecided r
