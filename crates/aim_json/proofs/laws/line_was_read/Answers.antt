use Rattle.aim_json.proofs.ReadingLaws.{line_was_read}
use Rattle.aim_json.proofs.laws.line_was_read.Goals as goal

pub returns : goal.returns
returns c = line_was_read
