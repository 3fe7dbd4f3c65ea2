use Rattle.aim_sessions.proofs.SessionLaws.{sessions_none, session_fresh, sessions_more, sessions_same}
use Rattle.aim_sessions.proofs.laws.sessions_are_those_of_the_history.Goals as goal

pub returns-clause-none : goal.returns-clause-none
returns-clause-none c vehicles = sessions_none vehicles

pub returns-clause-fresh : goal.returns-clause-fresh
returns-clause-fresh c rows h e m are l is = session_fresh rows h e m are l is

pub returns-clause-more : goal.returns-clause-more
returns-clause-more c rows h e m are l is new = sessions_more rows h e m are l is new

pub returns-clause-same : goal.returns-clause-same
returns-clause-same c rows h e old are = sessions_same rows h e old are
