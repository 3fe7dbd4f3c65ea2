use Rattle.std.proofs.Common.{arith}
use Rattle.aim_turnstile.proofs.Steps.{draws_as}
use Rattle.aim_turnstile.proofs.turnstile.draw.Goals as goal

pub fetch_add-requires : goal.fetch_add-requires
fetch_add-requires g c = (c.requires.desk.0, omega (arith, c.requires.desk.1), draws_as _ _ _ _ _ _ _ c.requires.rests.1)
