use Rattle.aim_json.proofs.ReadingLaws.{was_no_line}
use Rattle.aim_json.proofs.laws.no_line_was_read.Goals as goal

pub returns : goal.returns
returns c = was_no_line
