use Rattle.aim_session_command.proofs.LineLemmas.{has_end}
use Rattle.aim_session_command.proofs.ahead.ends_line.Goals as goal

pub returns-in-Some : goal.returns-in-Some
returns-in-Some c none = has_end _ _ c.in-Some.ensures none
