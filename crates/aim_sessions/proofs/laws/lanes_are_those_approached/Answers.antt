use Rattle.aim_sessions.proofs.CallLaws.{lanes_approached}
use Rattle.aim_sessions.proofs.laws.lanes_are_those_approached.Goals as goal

pub returns : goal.returns
returns c i calls xs v p now lane are below l = lanes_approached i calls xs v p now lane are below l
