use Rattle.std.proofs.Common.{refl}
use Rattle.aim_script.proofs.HeaderLemmas.{phase_taken, phase_falls}
use Rattle.aim_script.proofs.headers.with_phase.Goals as goal

pub returns-in-Ok : goal.returns-in-Ok
returns-in-Ok c before st = phase_taken before _ _ _ _ _ _ _ refl c.in-Ok.ensures.fault c.in-Ok.ensures.ok st

pub returns-in-Err : goal.returns-in-Err
returns-in-Err c before st = phase_falls before _ _ _ _ _ _ _ refl c.in-Err.ensures.fault st
