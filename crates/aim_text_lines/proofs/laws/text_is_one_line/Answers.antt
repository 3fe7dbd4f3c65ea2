use Rattle.aim_text_lines.proofs.OneLine.{message_is_one_line, line_is_one_line}
use Rattle.aim_text_lines.proofs.laws.text_is_one_line.Goals as goal

pub returns : goal.returns
returns c = record { message = message_is_one_line; line = line_is_one_line }
