use Rattle.aim_text_lines.proofs.LineAgain.{line_alone}
use Rattle.aim_text_lines.proofs.laws.line_has_one_text.Goals as goal

pub returns : goal.returns
returns c = line_alone
