use Rattle.std.proofs.Common.{arith, refl, ap, subst, ◌≡◌, ◌∙◌, ◌++◌, ◌∷◌, [], IfOk}
use Rattle.std.specs.List.{range_with_len}
use Rattle.std.proofs.lemmas.Iterator.{items_from_collect, YieldsList-from_range}
use Rattle.aim_messages.specs.declared.entries.TheConstants.{OPERATOR}
use Rattle.aim_manager.proofs.manager.caller_numbers.Goals as goal

pub returns : goal.returns
returns c =
    let all = items_from_collect c.collect.result c.collect.ensures.ran (YieldsList-from_range 0 c.args.vehicles c.args.vehicles refl (omega arith)) in
    c.in_ok-push.ensures.items ∙ ap (λ numbers. numbers ++ OPERATOR ∷ []) (subst (λ r. IfOk r (λ v. v.items ≡ range_with_len 0 c.args.vehicles)) c.in_ok-numbers.was all)
