use Rattle.std.proofs.Common.{◌≡◌, take}
use Rattle.aim_geometry.specs.Bounded.{find_map}
use Rattle.aim_drive_script.specs.Said.{until_in}
use Rattle.aim_drive_script.proofs.questions.until_of.Given as goal

abbrev pub invariant-loop-line : goal.invariant-loop-line
invariant-loop-line l = l.found ≡ find_map until_in (take l.line-index l.lines)
