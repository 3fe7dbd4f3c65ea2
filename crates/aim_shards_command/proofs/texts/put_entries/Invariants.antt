use Rattle.std.proofs.Common.{◌≡◌, ◌++◌, take}
use Rattle.aim_shards_command.specs.Texts.{claim_lines}
use Rattle.aim_shards_command.proofs.texts.put_entries.Given as goal

abbrev pub invariant-loop-entry : goal.invariant-loop-entry
invariant-loop-entry l = l.out.items ≡ l.initial.out.items ++ claim_lines (take l.entry-index l.log)
