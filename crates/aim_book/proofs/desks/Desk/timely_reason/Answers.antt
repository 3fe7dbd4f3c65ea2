use Rattle.std.proofs.Common.{◌≡◌, ◌+◌, ◌∙◌, ap, sym, refl, true, false, nat_le, None, Some}
use Rattle.std.specs.List.{list_any}
use Rattle.std.proofs.lemmas.Bool.{lt-leb}
use Rattle.aim_rules.specs.Cells.{cells}
use Rattle.aim_rules.specs.Trials.{judged}
use Rattle.aim_book.proofs.EarlyLemmas.{or_none, timely_is}
use Rattle.aim_rules.specs.Answer.{in_the_way, too_distant, too_far}
use Rattle.std.specs.Option.{option_or}
use Rattle.aim_book.proofs.StepLemmas.{ahead_then, call_range, late_first}
use Rattle.aim_book.proofs.desks.Desk.timely_reason.Goals as goal

pub returns-then-is_far-clause-reason : goal.returns-then-is_far-clause-reason
returns-then-is_far-clause-reason g c = λ k v place tells calling.
    let i = c.args.layout.now in
    let p = c.args.params.now in
    let valid = c.ground.ensures.valid in
    let far : list_any (λ e. nat_le (c.now-now.result + c.times-times.result.horizon) e.step) (cells i p (judged i p).fast) ≡ true =
    sym (c.is_far.ensures p valid.sound.times.early valid.sound.times.late c.requires.asking c.requires.good) ∙ c.if-is_far.true in
    sym (timely_is i v place k p c.args.self.now c.now-now.result c.times-times.result.edge c.times-times.result.horizon false true (option_or (too_distant i k p) (option_or (in_the_way i k p) None)) tells c.now-now.ensures.now
    (rw (c.times-times.ensures.times, c.ground.ensures.times) refl) (rw (c.times-times.ensures.times, c.ground.ensures.times) refl) (lt-leb _ _ c.if-params-now.false) far)

pub returns-in-Some-clause-reason : goal.returns-in-Some-clause-reason
returns-in-Some-clause-reason g c = λ k v place tells calling.
    let i = c.args.layout.now in
    let p = c.args.params.now in
    let valid = c.ground.ensures.valid in
    let far : list_any (λ e. nat_le (c.now-now.result + c.times-times.result.horizon) e.step) (cells i p (judged i p).fast) ≡ false =
    sym (c.is_far.ensures p valid.sound.times.early valid.sound.times.late c.requires.asking c.requires.good) ∙ c.if-is_far.false in
    let distant : too_distant i k p ≡ Some c.in-Some.reason = sym (c.too_distant.ensures k v place tells) ∙ c.in-Some.is in
    sym (timely_is i v place k p c.args.self.now c.now-now.result c.times-times.result.edge c.times-times.result.horizon false false (option_or (too_distant i k p) (option_or (in_the_way i k p) None)) tells c.now-now.ensures.now
    (rw (c.times-times.ensures.times, c.ground.ensures.times) refl) (rw (c.times-times.ensures.times, c.ground.ensures.times) refl) (lt-leb _ _ c.if-params-now.false) far
    ∙ ap (λ o. option_or o (option_or (in_the_way i k p) None)) distant)

pub returns-in-None-clause-reason : goal.returns-in-None-clause-reason
returns-in-None-clause-reason g c = λ k v place tells calling.
    let i = c.args.layout.now in
    let p = c.args.params.now in
    let valid = c.ground.ensures.valid in
    let far : list_any (λ e. nat_le (c.now-now.result + c.times-times.result.horizon) e.step) (cells i p (judged i p).fast) ≡ false =
    sym (c.is_far.ensures p valid.sound.times.early valid.sound.times.late c.requires.asking c.requires.good) ∙ c.if-is_far.false in
    let distant : too_distant i k p ≡ None = sym (c.too_distant.ensures k v place tells) ∙ c.in-None.is in
    c.in_the_way.ensures k v place tells calling ∙ sym (or_none (in_the_way i k p))
    ∙ sym (timely_is i v place k p c.args.self.now c.now-now.result c.times-times.result.edge c.times-times.result.horizon false false (option_or (too_distant i k p) (option_or (in_the_way i k p) None)) tells c.now-now.ensures.now
    (rw (c.times-times.ensures.times, c.ground.ensures.times) refl) (rw (c.times-times.ensures.times, c.ground.ensures.times) refl) (lt-leb _ _ c.if-params-now.false) far
    ∙ ap (λ o. option_or o (option_or (in_the_way i k p) None)) distant)

pub returns-then-params-now-clause-reason : goal.returns-then-params-now-clause-reason
returns-then-params-now-clause-reason g c = λ k v place tells calling.
    let i = c.args.layout.now in
    let p = c.args.params.now in
    late_first i v place k p c.args.self.now c.now-now.result c.times-times.result.edge (option_or (too_far i k p) (option_or (too_distant i k p) (option_or (in_the_way i k p) None))) tells c.now-now.ensures.now
    (rw (c.times-times.ensures.times, c.ground.ensures.times) refl) c.if-params-now.true

pub returns-in-None-clause-ahead : goal.returns-in-None-clause-ahead
returns-in-None-clause-ahead g c =
    ahead_then c.in_the_way.result c.args.params.now.arrive c.now-now.result c.times-times.result.edge c.args.self.now.reservations.table.current c.args.layout.now.times.edge c.now-now.ensures.now
    (rw (c.times-times.ensures.times, c.ground.ensures.times) refl) c.if-params-now.false

pub in_the_way-requires-clause-lane : goal.in_the_way-requires-clause-lane
in_the_way-requires-clause-lane g c = (call_range c.args.layout.now c.args.params.now c.ground.ensures.valid c.requires.good).0

pub in_the_way-requires-clause-there : goal.in_the_way-requires-clause-there
in_the_way-requires-clause-there g c = c.requires.there

pub too_distant-requires : goal.too_distant-requires
too_distant-requires g c = (call_range c.args.layout.now c.args.params.now c.ground.ensures.valid c.requires.good).0
