use Rattle.std.proofs.Common.{◌≡◌, ◌-◌, ◌++◌}
use Rattle.aim_drive_command.specs.Drawn.{generator}
use Rattle.aim_drive_command.proofs.Printed.{plans_text}
use Rattle.aim_drive_command.proofs.printing.put_plans.Given as goal

abbrev pub invariant-loop-vehicle : goal.invariant-loop-vehicle
invariant-loop-vehicle l =
    l.out.items ++ plans_text l.vehicle (l.fn.count - l.vehicle) l.random ≡ l.initial.out.items ++ plans_text 0 l.fn.count (generator l.fn.number)
