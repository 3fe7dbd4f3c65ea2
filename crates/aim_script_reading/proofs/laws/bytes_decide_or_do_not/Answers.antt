use Rattle.aim_script_reading.proofs.Undecided.{never_both, one_of_both}
use Rattle.aim_script_reading.proofs.laws.bytes_decide_or_do_not.Goals as goal

pub returns-clause-one : goal.returns-clause-one
returns-clause-one g c r bytes = one_of_both r bytes

pub returns-clause-only : goal.returns-clause-only
returns-clause-only g c r bytes decided undecided = never_both r bytes decided undecided
