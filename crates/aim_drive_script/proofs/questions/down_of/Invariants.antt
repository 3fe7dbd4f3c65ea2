use Rattle.std.proofs.Common.{◌≡◌, take}
use Rattle.aim_drive_script.specs.Said.{down_of}
use Rattle.aim_drive_script.proofs.questions.down_of.Given as goal

abbrev pub invariant-loop-line : goal.invariant-loop-line
invariant-loop-line l = l.found ≡ down_of l.vehicle (take l.line-index l.lines)
