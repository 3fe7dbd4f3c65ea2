use Rattle.aim_sessions.proofs.Lists.{listed_new}
use Rattle.aim_sessions.proofs.approaches.Approaches.new.Goals as goal

pub invariant_of-result : goal.invariant_of-result
invariant_of-result c =
    let callers = c.in-Ok.ensures in
    listed_new _ _ _ _ _ c.in_ok-calls.ensures callers.none.0 callers.none.1 callers.room
