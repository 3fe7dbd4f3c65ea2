use Rattle.std.proofs.Common.{◌≡◌, take}
use Rattle.aim_drive_script.specs.Said.{cancel_of}
use Rattle.aim_drive_script.proofs.questions.cancel_of.Given as goal

abbrev pub invariant-loop-line : goal.invariant-loop-line
invariant-loop-line l = l.found ≡ cancel_of l.vehicle (take l.line-index l.lines)
