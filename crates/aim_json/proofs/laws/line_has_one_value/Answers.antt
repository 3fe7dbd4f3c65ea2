use Rattle.aim_json.proofs.ReadingLaws.{line_has_one_value}
use Rattle.aim_json.proofs.laws.line_has_one_value.Goals as goal

pub returns : goal.returns
returns c = line_has_one_value
