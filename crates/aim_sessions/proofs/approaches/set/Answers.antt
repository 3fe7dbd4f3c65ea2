use Rattle.std.proofs.Common.{refl}
use Rattle.aim_sessions.proofs.approaches.set.Goals as goal

pub returns : goal.returns
returns c = refl
