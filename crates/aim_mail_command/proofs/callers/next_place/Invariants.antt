use Rattle.std.proofs.Common.{◌≡◌, take}
use Rattle.aim_mail_command.specs.Runs.{calls_by}
use Rattle.aim_mail_command.proofs.callers.next_place.Given as goal

abbrev pub invariant-loop-place : goal.invariant-loop-place
invariant-loop-place l = calls_by l.vehicle (take l.place l.events) ≡ calls_by l.vehicle (take l.from l.events)
