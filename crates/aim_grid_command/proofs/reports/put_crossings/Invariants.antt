use Rattle.std.proofs.Common.{◌≡◌, ◌++◌, drop, map}
use Rattle.aim_grid.specs.Runs.{journal_left, logs_left}
use Rattle.aim_grid_command.specs.Texts.{crossings_text}
use Rattle.aim_grid_command.proofs.reports.put_crossings.Given as goal

abbrev pub invariant-loop-crossing : goal.invariant-loop-crossing
invariant-loop-crossing l =
    l.out.items ++ crossings_text l.vehicles l.crossing (drop l.crossing l.layouts) (map journal_left (drop l.crossing l.left)) (map logs_left (drop l.crossing l.left))
    ≡ l.initial.out.items ++ crossings_text l.vehicles 0 l.layouts (map journal_left l.left) (map logs_left l.left)
