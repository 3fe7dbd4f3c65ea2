use Rattle.std.proofs.Common.{sym, ◌∙◌}
use Rattle.aim_grid.proofs.Tells.{first_answer}
use Rattle.aim_grid.proofs.acks.Told.after_got.Goals as goal

pub returns-then-is_answer : goal.returns-then-is_answer
returns-then-is_answer c = first_answer c.args.self c.args.step c.args.seq c.args.reply (sym c.if-is_answer.true ∙ c.is_answer.ensures)
