use Rattle.aim_driver.proofs.TurnLemmas.{course_then}
use Rattle.aim_driver.proofs.laws.turns_go_on.Goals as goal

pub returns : goal.returns
returns c = course_then
