use Rattle.std.proofs.Common.{subst}
use Rattle.aim_script.specs.declared.headers.Place.{Place}
use Rattle.aim_script.specs.Headers.{StandsAt}
use Rattle.aim_script.proofs.headers.Place.phase.Goals as goal

pub returns-in-Policies : goal.returns-in-Policies
returns-in-Policies c before st = c.with_phase.ensures before (subst (λ (p : Place). StandsAt before p) c.in-Policies.is st)
