use Rattle.std.proofs.Common.{sym, ◌∙◌}
use Rattle.aim_book.proofs.StepLemmas.{call_range}
use Rattle.aim_book.proofs.at_once.call_at_once.Goals as goal

pub returns-in-None-clause-range : goal.returns-in-None-clause-range
returns-in-None-clause-range c = call_range c.args.layout.now c.in-Some.params c.requires.valid (sym c.in_ok-bad_field-in-Some.ensures.field ∙ c.in-None.is)
