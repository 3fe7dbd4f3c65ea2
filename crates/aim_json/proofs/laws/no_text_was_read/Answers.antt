use Rattle.aim_json.proofs.ReadingLaws.{was_no_text}
use Rattle.aim_json.proofs.laws.no_text_was_read.Goals as goal

pub returns : goal.returns
returns c = was_no_text
