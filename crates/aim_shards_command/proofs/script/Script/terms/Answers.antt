use Rattle.std.proofs.Common.{ap, sym, ◌∙◌, length, subst, arith, slice_get}
use Rattle.aim_shards_command.specs.declared.script.ClaimTerms.{ClaimTerms}
use Rattle.aim_shards_command.specs.Fits.{FitTerms}
use Rattle.aim_shards_command.specs.Said.{terms_in}
use Rattle.aim_shards_command.proofs.Fitting.{script_fits}
use Rattle.aim_shards_command.proofs.script.Script.terms.Goals as goal

pub returns-clause-fit : goal.returns-clause-fit
returns-clause-fit c some =
    subst (λ (t : ClaimTerms). FitTerms t) (sym (c.terms_in.ensures ∙ ap terms_in (c.first.ensures.value ∙ ap (λ ls. slice_get ls 0) c.deref.ensures.value)))
    (script_fits c.self.inside.lines.items c.self.invariant.is_script (omega (arith, some, ap length c.self.view_is)))
