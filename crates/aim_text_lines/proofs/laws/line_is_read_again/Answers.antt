use Rattle.aim_text_lines.proofs.LineAgain.{line_again}
use Rattle.aim_text_lines.proofs.laws.line_is_read_again.Goals as goal

pub returns : goal.returns
returns c = line_again
