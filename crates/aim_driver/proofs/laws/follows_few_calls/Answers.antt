use Rattle.aim_driver.proofs.CountLemmas.{follows_few}
use Rattle.aim_driver.proofs.laws.follows_few_calls.Goals as goal

pub returns : goal.returns
returns c = follows_few
