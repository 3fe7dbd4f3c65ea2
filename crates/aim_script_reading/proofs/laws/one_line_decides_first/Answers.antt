use Rattle.std.proofs.Common.{[]}
use Rattle.aim_script_reading.proofs.First.{first_unique}
use Rattle.aim_script_reading.proofs.laws.one_line_decides_first.Goals as goal

pub returns : goal.returns
returns g c r answers before other d e first second = first_unique r [] answers before other d e first second
