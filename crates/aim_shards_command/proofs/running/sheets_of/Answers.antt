use Rattle.std.proofs.Common.{◌∙◌, subst}
use Rattle.std.specs.Prelude.{IfOk}
use Rattle.aim_shards.specs.Fitting.{AreSheets}
use Rattle.aim_shards_command.specs.declared.script.ClaimTerms.{ClaimTerms}
use Rattle.aim_shards_command.specs.Said.{sets_of}
use Rattle.aim_shards_command.proofs.running.sheets_of.Goals as goal

pub returns : goal.returns
returns c =
    let t = c.terms-terms.result in
    subst (λ (u : ClaimTerms). IfOk c.sheets.result (λ v. AreSheets u.n u.horizon (sets_of c.args.script.now) v.items)) c.terms-terms.ensures.terms
    (subst (λ rs. IfOk c.sheets.result (λ v. AreSheets t.n t.horizon rs v.items)) (c.deref.ensures.value ∙ c.in_ok-rectangles.ensures.sets) c.sheets.ensures)
