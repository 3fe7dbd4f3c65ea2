use Rattle.aim_json.proofs.OneLine.{line_is_one_line, entry_is_one_line}
use Rattle.aim_json.proofs.laws.text_is_one_line.Goals as goal

pub returns : goal.returns
returns c = record { line = line_is_one_line; entry = entry_is_one_line }
