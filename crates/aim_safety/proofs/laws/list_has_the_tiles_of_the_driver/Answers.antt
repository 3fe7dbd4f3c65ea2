use Rattle.aim_safety.proofs.ListLemmas.{list_has, list_rises}
use Rattle.aim_safety.proofs.laws.list_has_the_tiles_of_the_driver.Goals as goal

pub returns-clause-has : goal.returns-clause-has
returns-clause-has c = list_has

pub returns-clause-rising : goal.returns-clause-rising
returns-clause-rising c = list_rises
