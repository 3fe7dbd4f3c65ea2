use Rattle.std.proofs.Common.{◌∙◌, refl, sym}
use Rattle.aim_grid_script.proofs.Staging.{until_taken}
use Rattle.aim_grid_script.proofs.stages.after_until.Goals as goal

pub returns : goal.returns
returns c before st = until_taken before c.args.routes _ c.args.step (sym c.is_outside.ensures ∙ c.if-is_outside.false) refl st
