use Rattle.aim_text_lines.proofs.LineAgain.{message_one}
use Rattle.aim_text_lines.proofs.laws.message_has_one_text.Goals as goal

pub returns : goal.returns
returns c = message_one
