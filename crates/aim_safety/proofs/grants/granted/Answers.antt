use Rattle.std.proofs.Common.{◌&&◌, sym, ◌∙◌, true, false}
use Rattle.aim_safety.proofs.PassageLemmas.{grant_found}
use Rattle.aim_safety.proofs.grants.granted.Goals as goal

pub returns-then-branch : goal.returns-then-branch
returns-then-branch c =
    sym (grant_found c.args.layout.now c.args.entry.now c.in-Some-Some.params c.in-Some-Some.fast true (sym c.in-Some-Some.ensures) (sym c.in-Some-Some.ensures')
    (λ j. (sym c.if-not-is_tried.false ∙ c.is_tried.ensures) j && (sym c.if-branch.true ∙ c.in_ok-are_good.ensures) j))

pub returns-else-branch : goal.returns-else-branch
returns-else-branch c =
    sym (grant_found c.args.layout.now c.args.entry.now c.in-Some-Some.params c.in-Some-Some.fast false (sym c.in-Some-Some.ensures) (sym c.in-Some-Some.ensures')
    (λ j. (sym c.if-not-is_tried.false ∙ c.is_tried.ensures) j && (sym c.if-branch.false ∙ c.in_ok-are_good.ensures) j))
