use Rattle.aim_rules.proofs.HistoryLaws.{fresh-one, fresh-none}
use Rattle.aim_rules.proofs.TimeLaws.{is_fresh-order, is_fresh-message}
use Rattle.aim_rules.proofs.growth.fresh_messages_of_one_more.Goals as goal

pub returns-clause-fresh : goal.returns-clause-fresh
returns-clause-fresh c = fresh-one

pub returns-clause-none : goal.returns-clause-none
returns-clause-none c = fresh-none

pub returns-clause-order : goal.returns-clause-order
returns-clause-order c = is_fresh-order

pub returns-clause-message : goal.returns-clause-message
returns-clause-message c = is_fresh-message
