-- Why a line was not taken. No public clause cites this file.
use Rattle.std.specs.Prelude.{◌≡◌, List, Some}
use Rattle.aim_script_reading.specs.declared.takers.Refusal.{Refusal}
use Rattle.aim_script_reading.specs.declared.takers.Refusal.TheVariants as refusal
use Rattle.aim_shards_command.specs.declared.decisions.ClaimKind.{ClaimKind}
use Rattle.aim_shards_command.specs.declared.decisions.ClaimLimit.{ClaimLimit}
use Rattle.aim_shards_command.specs.declared.lines.ShardLine.{ShardLine}
use Rattle.aim_shards_command.specs.Kinds.{kind_of_fault}

abbrev pub Refuses : {H : Type 0} → List ShardLine → ShardLine → Refusal ClaimKind ClaimLimit H → Type 0
Refuses before l (refusal.Bad why) = kind_of_fault before l ≡ Some why
Refuses before l (refusal.Limit which) = ⊥
Refuses before l (refusal.Halt h) = Unit {0}
