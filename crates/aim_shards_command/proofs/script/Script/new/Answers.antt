use Rattle.std.proofs.Common.{refl}
use Rattle.aim_shards_command.proofs.Growing.{keeps_new}
use Rattle.aim_shards_command.proofs.script.Script.new.Goals as goal

pub invariant_of-result : goal.invariant_of-result
invariant_of-result c = keeps_new _ _ c.new.ensures.items refl
