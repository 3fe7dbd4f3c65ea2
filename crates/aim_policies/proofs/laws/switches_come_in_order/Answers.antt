use Rattle.aim_policies.proofs.Histories.{change_from, latest_legal}
use Rattle.aim_policies.proofs.laws.switches_come_in_order.Goals as goal

pub returns-clause-from : goal.returns-clause-from
returns-clause-from c i h e f answered is = change_from i h e f answered is

pub returns-clause-order : goal.returns-clause-order
returns-clause-order c i vehicles h legal = latest_legal i vehicles h legal
