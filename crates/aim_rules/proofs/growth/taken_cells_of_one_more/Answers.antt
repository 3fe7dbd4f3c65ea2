use Rattle.aim_rules.proofs.TakenLaws.{is_owned-others, is_owned-snoc, is_owned-same}
use Rattle.aim_rules.proofs.growth.taken_cells_of_one_more.Goals as goal

pub returns-clause-others : goal.returns-clause-others
returns-clause-others c = is_owned-others

pub returns-clause-changed : goal.returns-clause-changed
returns-clause-changed c = is_owned-snoc

pub returns-clause-same : goal.returns-clause-same
returns-clause-same c = is_owned-same
