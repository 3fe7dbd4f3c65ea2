use Rattle.std.proofs.Common.{Bool, [], ◌∷◌, ap, ◌∙◌}
use Rattle.aim_shards.proofs.Touching.{touches_by}
use Rattle.aim_shards.proofs.sets.touches_of.Goals as goal

pub returns : goal.returns
returns c = λ set a b d e. ap (λ (x : Bool). x ∷ c.args.second ∷ c.args.third ∷ c.args.fourth ∷ []) c.touches_first-first.ensures ∙ touches_by set c.args.first c.args.second c.args.third c.args.fourth a b d e
