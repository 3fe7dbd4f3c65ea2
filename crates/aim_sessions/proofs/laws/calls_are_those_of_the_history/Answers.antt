use Rattle.aim_sessions.proofs.CallLaws.{calls_none, calls_more, calls_same}
use Rattle.aim_sessions.proofs.laws.calls_are_those_of_the_history.Goals as goal

pub returns-clause-none : goal.returns-clause-none
returns-clause-none c i vehicles = calls_none i vehicles

pub returns-clause-more : goal.returns-clause-more
returns-clause-more c i calls h e m are l new is = calls_more i calls h e m are l new is

pub returns-clause-same : goal.returns-clause-same
returns-clause-same c i calls h e old are = calls_same i calls h e old are
