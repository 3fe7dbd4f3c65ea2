use Rattle.std.proofs.Common.{List}
use Rattle.aim_messages.specs.declared.script.Line.{Line}
use Rattle.aim_script.specs.Headers.{Stands}
use Rattle.tests_drives.proofs.session.made.Given as goal

abbrev pub invariant-loop-words : goal.invariant-loop-words
invariant-loop-words l = (before : List Line) × Stands before l.header
