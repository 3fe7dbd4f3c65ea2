use Rattle.aim_rules.proofs.RunLaws.{answer-tables, run-journal}
use Rattle.aim_rules.proofs.growth.runs_by_the_tables.Goals as goal

pub returns-clause-answer : goal.returns-clause-answer
returns-clause-answer c = answer-tables

pub returns-clause-journal : goal.returns-clause-journal
returns-clause-journal c = run-journal
