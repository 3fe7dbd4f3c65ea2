-- What is read keeps its ranges.
use Rattle.std.proofs.Common.{sym}
use Rattle.tests_simulation.proofs.lines.check_written.Goals as goal

pub write_json_line-requires-clause-ranges : goal.write_json_line-requires-clause-ranges
write_json_line-requires-clause-ranges g c = (c.line_is_spelled_so.ensures c.args.version c.args.text.now c.in-Ok.line (sym c.in-Ok.ensures)).1
