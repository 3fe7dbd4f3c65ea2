use Rattle.aim_rules.proofs.RunLaws.{some_below-list}
use Rattle.aim_rules.proofs.growth.questions_of_a_list.Goals as goal

pub returns : goal.returns
returns c = some_below-list
