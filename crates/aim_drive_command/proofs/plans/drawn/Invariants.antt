use Rattle.std.proofs.Common.{◌≡◌, ◌≤◌, ◌-◌, ◌++◌, map, vec_len}
use Rattle.std.specs.Prelude.{vec_capacity}
use Rattle.aim_drive_script.specs.Scripts.{drive_told}
use Rattle.aim_drive_command.specs.Drawn.{generator}
use Rattle.aim_drive_command.proofs.Drawing.{drives_from}
use Rattle.aim_drive_command.proofs.plans.drawn.Given as goal

abbrev pub invariant-loop-vehicle : goal.invariant-loop-vehicle
invariant-loop-vehicle l = record {
  count : vec_len l.plans ≡ l.vehicle;
  room : l.fn.count ≤ vec_capacity l.plans;
  drives : map drive_told l.plans.items ++ drives_from l.vehicle (l.fn.count - l.vehicle) l.random ≡ drives_from 0 l.fn.count (generator l.fn.number);
}
