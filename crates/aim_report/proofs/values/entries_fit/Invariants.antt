use Rattle.std.proofs.Common.{ℕ, ◌<◌, get_or}
use Rattle.aim_messages.specs.declared.entries.Entry.{Entry}
use Rattle.aim_text_entries.specs.Ranges.{IsEntry}
use Rattle.aim_report.proofs.values.entries_fit.Given as goal

abbrev pub invariant-loop-entry : goal.invariant-loop-entry
invariant-loop-entry l = (k : ℕ) (d : Entry) → k < l.entry-index → IsEntry (get_or l.journal k d)
