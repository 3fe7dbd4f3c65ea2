use Rattle.aim_json.proofs.LineSound.{line_is_read_again}
use Rattle.aim_json.proofs.laws.line_is_read_again.Goals as goal

pub returns : goal.returns
returns c = line_is_read_again
