use Rattle.std.proofs.Common.{◌≡◌, ◌∙◌, ap, refl, false, None, Some, sym}
use Rattle.std.proofs.lemmas.Bool.{lt-leb}
use Rattle.aim_book.proofs.EarlyLemmas.{timely_is}
use Rattle.std.specs.Option.{option_or}
use Rattle.aim_rules.specs.Answer.{too_distant, too_far}
use Rattle.aim_book.proofs.FreeLemmas.{good_alone}
use Rattle.aim_book.proofs.StepLemmas.{call_range, late_first}
use Rattle.aim_book.proofs.desks.Desk.timely_at_once.Goals as goal

pub returns-in-Some : goal.returns-in-Some
returns-in-Some g c = λ k v place tells.
    let i = c.args.layout.now in
    let p = c.args.params.now in
    let distant : too_distant i k p ≡ Some c.in-Some.reason = sym (c.too_distant.ensures k v place tells) ∙ c.in-Some.is in
    timely_is i v place k p c.args.self.now c.now-now.result c.times-times.result.edge c.times-times.result.horizon false false (option_or (too_distant i k p) None) tells c.now-now.ensures.now
    (rw (c.times-times.ensures.times, c.ground.ensures.times) refl) (rw (c.times-times.ensures.times, c.ground.ensures.times) refl) (lt-leb _ _ c.if-params-now.false) (c.may_reach.ensures.none c.if-may_reach.false)
    ∙ ap (λ o. option_or o None) distant

pub returns-then-params-now : goal.returns-then-params-now
returns-then-params-now g c = λ k v place tells.
    let i = c.args.layout.now in
    let p = c.args.params.now in
    sym (late_first i v place k p c.args.self.now c.now-now.result c.times-times.result.edge (option_or (too_far i k p) (option_or (too_distant i k p) None)) tells c.now-now.ensures.now
    (rw (c.times-times.ensures.times, c.ground.ensures.times) refl) c.if-params-now.true)

pub too_distant-requires : goal.too_distant-requires
too_distant-requires g c = (call_range c.args.layout.now c.args.params.now c.ground.ensures.valid c.requires.good).0

pub may_reach-requires-clause-arrive : goal.may_reach-requires-clause-arrive
may_reach-requires-clause-arrive g c = (call_range c.args.layout.now c.args.params.now c.ground.ensures.valid c.requires.good).1

pub may_reach-requires-clause-good : goal.may_reach-requires-clause-good
may_reach-requires-clause-good g c = good_alone c.args.layout.now c.args.params.now c.requires.good
