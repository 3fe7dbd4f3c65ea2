use Rattle.std.proofs.Common.{◌∙◌, sym, refl}
use Rattle.aim_grid_script.proofs.Staging.{leg_taken}
use Rattle.aim_grid_script.proofs.stages.routed.Goals as goal

pub returns-in-Ok : goal.returns-in-Ok
returns-in-Ok c before st = leg_taken before c.args.routes _ c.args.leg (sym c.leg_fault.ensures ∙ c.in_default.is) c.requires refl refl refl refl c.in-Ok.ensures.items st
