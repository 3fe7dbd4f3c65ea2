use Rattle.aim_mail_command.specs.Calling.{Went}
use Rattle.aim_mail_command.proofs.Places.{Done}
use Rattle.aim_mail_command.proofs.callers.one_round.Given as goal

abbrev pub invariant-loop-caller : goal.invariant-loop-caller
invariant-loop-caller g l = Done (Went l.layout l.events l.left) l.caller-index l.initial.callers l.callers
