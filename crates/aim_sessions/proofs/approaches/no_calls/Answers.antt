use Rattle.std.proofs.lemmas.Result.{IfOk-weaker}
use Rattle.aim_sessions.proofs.Lists.{none_alone}
use Rattle.aim_sessions.proofs.approaches.no_calls.Goals as goal

pub returns : goal.returns
returns c = IfOk-weaker c.vec.result _ _ (λ v clones. clones (none_alone _ (λ x same. same))) c.vec.ensures.items_if_clones_equal
