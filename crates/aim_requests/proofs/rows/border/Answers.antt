use Rattle.std.proofs.Common.{sym, ◌∙◌}
use Rattle.aim_requests.proofs.BorderLemmas.{border_all, border_sides}
use Rattle.aim_requests.proofs.rows.border.Goals as goal

pub returns-then-is_end : goal.returns-then-is_end
returns-then-is_end c = λ k l. border_all c.args.n c.args.row k l (sym c.is_end.ensures ∙ c.if-is_end.true)

pub returns-else-is_end : goal.returns-else-is_end
returns-else-is_end c = λ k l. border_sides c.args.n c.args.row k c.requires.some c.requires.few l (sym c.is_end.ensures ∙ c.if-is_end.false)
