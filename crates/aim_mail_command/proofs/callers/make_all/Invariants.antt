use Rattle.aim_mail_command.specs.Calling.{AllByPlace, Reached}
use Rattle.aim_mail_command.proofs.callers.make_all.Given as goal

abbrev pub invariant-loop-round : goal.invariant-loop-round
invariant-loop-round g l = AllByPlace (Reached l.layout l.events l.round) l.initial.callers l.callers
