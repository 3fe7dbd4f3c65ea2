use Rattle.aim_rules.proofs.TableLaws.{owner-holder, holder-snoc}
use Rattle.aim_rules.proofs.growth.owners_of_one_more.Goals as goal

pub returns-clause-others : goal.returns-clause-others
returns-clause-others c = owner-holder

pub returns-clause-changed : goal.returns-clause-changed
returns-clause-changed c = holder-snoc
