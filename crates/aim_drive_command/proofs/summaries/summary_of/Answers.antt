use Rattle.std.proofs.Common.{◌≡◌, length, List, sym, ap, ◌∙◌, arith}
use Rattle.std.specs.List.{filter}
use Rattle.aim_messages.specs.declared.entries.Entry.{Entry}
use Rattle.aim_drive.specs.declared.running.Logged.{Logged}
use Rattle.aim_drive.specs.Making.{log_of}
use Rattle.aim_drive_command.specs.Summaries.{has_entered, is_confirm, is_reject, summary_lines}
use Rattle.aim_drive_command.proofs.OrderLemmas.{counted_told}
use Rattle.aim_drive_command.proofs.RunLemmas.{if_ok}
use Rattle.aim_drive_command.proofs.summaries.summary_of.Goals as goal

pub returns : goal.returns
returns c =
    let confirms = c.confirms-confirms.ensures ∙ ap (λ (l : List Entry). length (filter is_confirm l)) c.deref.ensures.value in
    let rejects = c.rejects-rejects.ensures ∙ ap (λ (l : List Entry). length (filter is_reject l)) c.deref-2.ensures.value in
    let entered = c.entered-entered.ensures ∙ ap (λ (l : List Logged). length (filter (λ x. has_entered (log_of x)) l)) c.deref-3.ensures.value ∙ sym (counted_told has_entered c.args.drove.now.logs.items) in
    let entries : c.len.result ≡ length c.args.drove.now.journal.items = omega arith in
    let told = c.text_of_counts.ensures in
    if_ok c.text_of_counts.result (λ text is. is ∙ (λ i. summary_lines c.args.steps (entries i) (confirms i) (rejects i) (entered i))) told
