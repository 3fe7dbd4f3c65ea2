use Rattle.std.proofs.Common.{ℕ, ◌<◌, get_or}
use Rattle.aim_shards.specs.declared.claims.ClaimEntry.{ClaimEntry}
use Rattle.aim_shards_command.specs.Told.{IsTold}
use Rattle.aim_shards_command.proofs.values.entries_fit.Given as goal

abbrev pub invariant-loop-entry : goal.invariant-loop-entry
invariant-loop-entry l = (k : ℕ) (d : ClaimEntry) → k < l.entry-index → IsTold (get_or l.log k d)
