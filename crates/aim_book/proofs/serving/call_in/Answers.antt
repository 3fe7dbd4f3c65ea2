use Rattle.std.proofs.Common.{sym, ap, ◌∙◌, not}
use Rattle.aim_messages.specs.declared.messages.Message.{Message}
use Rattle.aim_rules.specs.History.{params_of}
use Rattle.aim_book.proofs.StepLemmas.{prepared_range}
use Rattle.aim_book.proofs.serving.call_in.Goals as goal

pub returns-in-Some-clause-range : goal.returns-in-Some-clause-range
returns-in-Some-clause-range c =
    prepared_range c.args.layout.now c.in-Some.params c.args.prepared.now c.bad.result c.requires.valid c.requires.prepared
    (ap (λ (m : Message). params_of m.body) (sym c.message.ensures.message) ∙ sym c.params_in.ensures ∙ c.in-Some.is) c.bad.ensures (c.is_none.ensures ∙ ap not c.if-is_none.true)
