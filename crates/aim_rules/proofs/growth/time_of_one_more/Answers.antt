use Rattle.aim_rules.proofs.HistoryLaws.{now_of-snoc}
use Rattle.aim_rules.proofs.growth.time_of_one_more.Goals as goal

pub returns : goal.returns
returns c = now_of-snoc
