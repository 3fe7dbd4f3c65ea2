use Rattle.aim_script.proofs.HeaderLemmas.{goes_more}
use Rattle.aim_script.proofs.headers.more.Goals as goal

pub returns-in-Ok : goal.returns-in-Ok
returns-in-Ok c before l version silent goes = goes_more before l _ _ version silent (rw c.in-Ok.is at goes)
