use Rattle.std.proofs.Common.{inl, inr, refl, sym, ◌∙◌}
use Rattle.aim_session_command.proofs.LineLemmas.{nothing_held}
use Rattle.aim_session_command.proofs.ahead.Ahead.next.Goals as goal

pub returns-then-has_byte-clause-from : goal.returns-then-has_byte-clause-from
returns-then-has_byte-clause-from g c = inl (refl, c.first.ensures)

pub returns-in-Err-clause-from : goal.returns-in-Err-clause-from
returns-in-Err-clause-from g c = inr (nothing_held _ (sym c.if-has_byte.false ∙ c.has_byte.ensures), c.in-Err.ensures.piece)

pub returns-in-Ok-false-clause-from : goal.returns-in-Ok-false-clause-from
returns-in-Ok-false-clause-from g c = inr (nothing_held _ (sym c.if-has_byte.false ∙ c.has_byte.ensures), c.in-Ok-false.ensures.piece)

pub returns-in-Ok-true-clause-from : goal.returns-in-Ok-true-clause-from
returns-in-Ok-true-clause-from g c = inr (nothing_held _ (sym c.if-has_byte.false ∙ c.has_byte.ensures), c.in-Ok-true.ensures.piece)
