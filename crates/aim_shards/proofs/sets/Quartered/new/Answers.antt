use Rattle.std.proofs.Common.{[], ◌∷◌}
use Rattle.aim_shards.proofs.sets.Quartered.new.Goals as goal

pub invariant_of-result : goal.invariant_of-result
invariant_of-result c = c.touches_of-touched.ensures (c.args.first.spans ∷ c.args.second.spans ∷ c.args.third.spans ∷ c.args.fourth.spans ∷ []) c.is_some.ensures c.is_some-2.ensures c.is_some-3.ensures c.is_some-4.ensures
