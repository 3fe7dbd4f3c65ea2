use Rattle.std.proofs.Common.{sym}
use Rattle.aim_text_lines.proofs.LineSpelled.{line_was_spelled}
use Rattle.aim_json.proofs.reading.line_of.Goals as goal

pub if_its_value-requires-clause-ranges : goal.if_its_value-requires-clause-ranges
if_its_value-requires-clause-ranges c = (line_was_spelled c.args.version c.deref.result.now c.in-Ok-read_line.line (sym c.in-Ok-read_line.ensures)).1
