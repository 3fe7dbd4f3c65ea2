use Rattle.std.proofs.Common.{◌≡◌, ◌∙◌, None, refl, ap, sym}
use Rattle.std.specs.Prelude.{slice_set}
use Rattle.std.proofs.lemmas.List.{set-set}
use Rattle.aim_rules.specs.Approach.{calling}
use Rattle.aim_sessions.specs.Calls.{call_of}
use Rattle.aim_book.proofs.serving.end_call.Goals as goal

pub returns-in-Confirm : goal.returns-in-Confirm
returns-in-Confirm c = λ calls asked is.
    let i = c.args.layout.now in
    let v = c.args.vehicle in
    let ended : call_of i (calling i c.args.reply.now asked) ≡ None = rw (c.in-Confirm.is, ← c.has_windows.ensures.windows, c.if-has_windows.true) refl in
    c.note.ensures ∙ ap (λ cs. slice_set cs v None) is ∙ set-set calls v (call_of i asked) None ∙ sym (ap (λ o. slice_set calls v o) ended)
