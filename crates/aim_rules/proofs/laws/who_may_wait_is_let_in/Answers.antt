use Rattle.aim_rules.proofs.WaitLaws.{waits_let_in}
use Rattle.aim_rules.proofs.laws.who_may_wait_is_let_in.Goals as goal

pub returns : goal.returns
returns c = waits_let_in
