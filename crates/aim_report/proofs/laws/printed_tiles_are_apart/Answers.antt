use Rattle.aim_report.proofs.TileLines.{printed_apart, printed_own}
use Rattle.aim_report.proofs.laws.printed_tiles_are_apart.Goals as goal

pub returns-clause-apart : goal.returns-clause-apart
returns-clause-apart c = printed_apart

pub returns-clause-own : goal.returns-clause-own
returns-clause-own c = printed_own
