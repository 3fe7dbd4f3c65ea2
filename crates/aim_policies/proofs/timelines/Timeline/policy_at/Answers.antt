use Rattle.std.proofs.Common.{ap, sym, subst}
use Rattle.std.specs.List.Sorted.{IsNonDecreasingBy}
use Rattle.aim_policies.proofs.Instants.{none_begun, last_begun, since_step}
use Rattle.aim_policies.proofs.timelines.Timeline.policy_at.Goals as goal

pub begun-count-requires : goal.begun-count-requires
begun-count-requires c = record { order = subst (IsNonDecreasingBy (λ y. y.from)) (sym c.deref.ensures.value) c.self.invariant.1 }

pub returns-then-count-eq0-clause-policy : goal.returns-then-count-eq0-clause-policy
returns-then-count-eq0-clause-policy c =
    none_begun c.self.inside.changes.items c.deref.result.now c.args.self.now.pushed c.args.step c.begun-count.result c.deref.ensures.value (ap (λ v. v.pushed) c.self.view_is) c.begun-count.ensures.point c.if-count-eq0.true

pub returns-clause-policy : goal.returns-clause-policy
returns-clause-policy c =
    let begun = c.begun-count.ensures in
    last_begun c.self.inside.changes.items c.deref.result.now c.args.self.now.pushed c.args.step c.begun-count.result c.index.result.now c.deref.ensures.value (ap (λ v. v.pushed) c.self.view_is) begun.point begun.most c.if-count-eq0.false c.index.ensures

pub returns-clause-since : goal.returns-clause-since
returns-clause-since c = since_step c.args.self.now.pushed c.args.step _ (returns-clause-policy c)
