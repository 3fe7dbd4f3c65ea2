use Rattle.std.proofs.Common.{◌≡◌, ◌<◌, None, sym, ◌∙◌, subst, arith}
use Rattle.aim_driver.specs.Rules.{act_by, entered_on}
use Rattle.aim_driver.proofs.IdleLemmas.{idle_so, later_so, none_of}
use Rattle.aim_driver.proofs.known.Known.idle_until.Goals as goal

pub returns-clause-idle : goal.returns-clause-idle
returns-clause-idle c = λ s le lt.
    let free : entered_on c.args.plan.now c.args.self.now c.args.step ≡ None = sym c.entering.ensures ∙ none_of c.entering.result (sym c.is_some.ensures ∙ c.if-is_some.false) in
    let calm : act_by c.args.plan.now c.args.self.now c.args.step ≡ None = sym c.choose.ensures.value ∙ none_of c.choose.result (sym c.is_some-2.ensures ∙ c.if-is_some-2.false) in
    idle_so c.args.plan.now c.args.self.now c.args.step _ s free calm le (subst (λ n. s < n) c.same_until.ensures lt)

pub returns-clause-later : goal.returns-clause-later
returns-clause-later c = λ free calm.
    let fits = c.ranges.step in
    subst (λ n. c.args.step < n) (sym c.same_until.ensures) (later_so c.args.plan.now c.args.self.now c.args.step _ (omega arith))
