use Rattle.std.proofs.Common.{◌≡◌, ◌++◌, take}
use Rattle.aim_report.specs.Reports.{journal_lines}
use Rattle.aim_report.proofs.entries.put_entries.Given as goal

abbrev pub invariant-loop-position : goal.invariant-loop-position
invariant-loop-position l = l.out.items ≡ l.initial.out.items ++ journal_lines 0 (take l.position l.journal)
