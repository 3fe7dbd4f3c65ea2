use Rattle.aim_sessions.proofs.DistanceLaws.{distances_none, distances_more, distances_entry, distances_same}
use Rattle.aim_sessions.proofs.laws.distances_are_those_of_the_history.Goals as goal

pub returns-clause-none : goal.returns-clause-none
returns-clause-none c = distances_none

pub returns-clause-more : goal.returns-clause-more
returns-clause-more c ds xs x long are = distances_more ds xs x long are

pub returns-clause-entry : goal.returns-clause-entry
returns-clause-entry c ds h e long new are = distances_entry ds h e long new are

pub returns-clause-same : goal.returns-clause-same
returns-clause-same c ds h e old are = distances_same ds h e old are
