use Rattle.aim_driver.proofs.TurnLemmas.{follows_later}
use Rattle.aim_driver.proofs.laws.turns_may_begin_later.Goals as goal

pub returns : goal.returns
returns c = follows_later
