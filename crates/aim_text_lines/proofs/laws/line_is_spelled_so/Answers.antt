use Rattle.aim_text_lines.proofs.LineSpelled.{line_was_spelled}
use Rattle.aim_text_lines.proofs.laws.line_is_spelled_so.Goals as goal

pub returns : goal.returns
returns c = line_was_spelled
