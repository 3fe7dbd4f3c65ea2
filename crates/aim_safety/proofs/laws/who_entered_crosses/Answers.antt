use Rattle.aim_safety.proofs.EnteredLemmas.{who_entered}
use Rattle.aim_safety.proofs.laws.who_entered_crosses.Goals as goal

pub returns : goal.returns
returns c = who_entered
