use Rattle.std.proofs.Common.{List, ap, arith, subst, ◌∙◌}
use Rattle.std.specs.Prelude.{All}
use Rattle.aim_messages.specs.declared.entries.Entry.{Entry}
use Rattle.aim_text_entries.specs.Ranges.{IsEntry}
use Rattle.aim_mail_command.specs.Commands.{report}
use Rattle.aim_mail_command.proofs.Reports.{if_ok, is_report}
use Rattle.aim_mail_command.proofs.commands.text_of_run.Goals as goal

pub returns : goal.returns
returns g c = λ lines is.
    let run = c.in_ok-journal.ensures in
    let many = run.count in
    let fits = c.requires.script.few_events in
    let e = c.report_of.ensures in
    if_ok c.report_of.result
    (λ text told. is_report lines c.args.script.now is c.in_ok-journal.journal.items text.items (omega (arith, many, fits)) (subst (λ (h : List Entry). All IsEntry h) c.deref.ensures.value e.entries)
    (told ∙ ap report c.deref.ensures.value) run)
    e.text
