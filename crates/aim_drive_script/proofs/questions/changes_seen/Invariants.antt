use Rattle.std.proofs.Common.{◌≡◌, ◌≤◌, take}
use Rattle.aim_drive_script.specs.Said.{changes_of}
use Rattle.aim_drive_script.specs.Seen.{seen_changes}
use Rattle.aim_drive_script.proofs.questions.changes_seen.Given as goal

abbrev pub invariant-loop-line : goal.invariant-loop-line
invariant-loop-line l = record { seen : l.seen ≡ seen_changes (changes_of l.vehicle (take l.line-index l.lines)); few : l.seen.count ≤ l.line-index }
