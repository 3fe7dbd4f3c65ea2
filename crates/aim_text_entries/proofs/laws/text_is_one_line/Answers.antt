use Rattle.aim_text_entries.proofs.OneLine.{reply_is_one_line, entry_is_one_line}
use Rattle.aim_text_entries.proofs.laws.text_is_one_line.Goals as goal

pub returns : goal.returns
returns c = record { reply = reply_is_one_line; entry = entry_is_one_line }
