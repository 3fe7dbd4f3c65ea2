use Rattle.aim_driver.proofs.TurnLemmas.{follows_keeps}
use Rattle.aim_driver.proofs.laws.what_follows_keeps_the_rules.Goals as goal

pub returns : goal.returns
returns c = follows_keeps
