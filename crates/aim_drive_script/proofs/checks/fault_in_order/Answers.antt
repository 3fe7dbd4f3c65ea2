use Rattle.aim_drive_script.proofs.checks.fault_in_order.Goals as goal

pub returns-in-PlanFor : goal.returns-in-PlanFor
returns-in-PlanFor c = rw c.in-PlanFor.is (c.plan_fault.ensures c.in-PlanFor.params c.in-PlanFor.ahead)
