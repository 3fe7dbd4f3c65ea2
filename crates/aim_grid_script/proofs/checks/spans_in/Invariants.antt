use Rattle.std.proofs.Common.{◌≡◌, ◌*◌, ◌≤◌, take}
use Rattle.aim_grid_script.specs.Said.{spans_in}
use Rattle.aim_grid_script.proofs.checks.spans_in.Given as goal

abbrev pub invariant-loop-layout : goal.invariant-loop-layout
invariant-loop-layout l = record {
  spans : l.spans ≡ spans_in (take l.layout-index l.layouts);
  few : l.spans ≤ l.layout-index * 4294967295;
}
