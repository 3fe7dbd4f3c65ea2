use Rattle.aim_rules.proofs.HistoryLaws.{last_of-snoc}
use Rattle.aim_rules.proofs.LaneLaws.{others_come-each}
use Rattle.aim_rules.proofs.growth.approaches_by_the_last_fresh_messages.Goals as goal

pub returns-clause-last : goal.returns-clause-last
returns-clause-last c = last_of-snoc

pub returns-clause-each : goal.returns-clause-each
returns-clause-each c = others_come-each
