use Rattle.std.proofs.Common.{sym, ap, ◌∙◌, Ok, Err}
use Rattle.std.proofs.lemmas.Result.{err_from_is_err_and}
use Rattle.aim_messages.specs.declared.script.LineKind.TheVariants as kind
use Rattle.aim_text_lines.specs.Forms.{in_version, map_ok, plain_forms}
use Rattle.aim_text_lines.proofs.TableLaws.{mapped}
use Rattle.aim_text_lines.proofs.forms.plain_form.Goals as goal

pub returns-in_err-form : goal.returns-in_err-form
returns-in_err-form c =
    let told = err_from_is_err_and c.from_residual.result c.from_residual.ensures.1 in
    told.1 ∙ ap Err told.2 ∙ ap (map_ok (in_version c.args.version)) (sym c.in_err-form.was ∙ c.look_up.ensures)
    ∙ sym (mapped (in_version c.args.version) kind.Unknown (plain_forms 1) c.args.word.now)

pub returns : goal.returns
returns c =
    ap Ok c.in_version.ensures ∙ ap (map_ok (in_version c.args.version)) (sym c.in_ok-form.was ∙ c.look_up.ensures)
    ∙ sym (mapped (in_version c.args.version) kind.Unknown (plain_forms 1) c.args.word.now)
