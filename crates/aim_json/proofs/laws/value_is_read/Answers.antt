use Rattle.aim_json.proofs.ReadingLaws.{value_is_read}
use Rattle.aim_json.proofs.laws.value_is_read.Goals as goal

pub returns : goal.returns
returns c = value_is_read
