use Rattle.std.proofs.Common.{List, ◌++◌, map, ap, ◌∙◌, arith}
use Rattle.std.proofs.lemmas.Iterator.Adapters.{YieldsList-from_vec}
use Rattle.std.proofs.lemmas.Iterator.Consumers.{YieldsList-end}
use Rattle.aim_grid.specs.Legs.{told, told_unbegun}
use Rattle.aim_grid.specs.Models.{LegModel}
use Rattle.aim_grid.proofs.Legs.{all_yielded}
use Rattle.aim_grid.proofs.travellers.append_unbegun.Goals as goal

pub returns : goal.returns
returns c =
    let gives = c.into_iter-leg-iterator.ensures.into_iter_gives in
    let t = YieldsList-end (YieldsList-from_vec {s = c.into_iter-leg-iterator.result} c.args.waiting.items gives.0 (omega (arith, gives.1))) c.loop-leg.yielded c.loop-leg.leg-iterator c.loop-leg.yielded_by c.next.result c.next.new.self c.in-None.is c.next.ensures.steps in
    c.loop-leg.invariant ∙ ap (λ (ls : List LegModel). map told c.args.over.now.items ++ map told_unbegun ls) (all_yielded c.loop-leg.yielded c.args.waiting.items t.0)
