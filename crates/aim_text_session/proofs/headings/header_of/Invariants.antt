use Rattle.std.proofs.Common.{take}
use Rattle.aim_script.specs.Headers.{Stands}
use Rattle.aim_text_session.proofs.headings.header_of.Given as goal

abbrev pub invariant-loop-line : goal.invariant-loop-line
invariant-loop-line l = Stands (take l.line-index l.lines) l.header
