use Rattle.std.proofs.Common.{◌≡◌, Option, None, le-ltb, ◌∙◌, sym, drop}
use Rattle.aim_messages.specs.declared.messages.Params.{Params}
use Rattle.aim_messages.specs.declared.replies.Reason.{Reason}
use Rattle.aim_geometry.specs.Bounded.{find_map}
use Rattle.aim_layout.specs.Intersection.{Intersection}
use Rattle.aim_rules.specs.Answer.{tests}
use Rattle.aim_rules.specs.Known.{Known}
use Rattle.aim_rules.specs.Bad.{bad}
use Rattle.aim_book.proofs.EarlyLemmas.{early_is, field_is}
use Rattle.aim_book.proofs.StepLemmas.{bad_first, none_gives, soon_first}
use Rattle.aim_book.proofs.desks.Desk.early_reason.Goals as goal

-- what the tests behind the first two give
abbrev rest : Intersection → Known → Params → Option Reason
rest i k p = find_map (λ test. test i k p) (drop 2 tests)

pub returns-clause-reason : goal.returns-clause-reason
returns-clause-reason g c = λ k place tells calling.
    let good : bad c.args.layout.now c.args.params.now ≡ None = sym (field_is c.args.layout.now c.args.params.now c.args.prepared.now c.requires.asking) ∙ sym c.bad.ensures ∙ c.in_default.is in
    c.timely_reason.ensures.reason k c.args.vehicle place tells calling
    ∙ early_is c.args.layout.now c.args.vehicle place k c.args.params.now c.args.self.now c.now-now.result c.standing-next.result (rest c.args.layout.now k c.args.params.now) tells c.now-now.ensures.now c.standing-next.ensures (le-ltb _ _ c.if-now-next.false) good

pub returns-then-now-next-clause-reason : goal.returns-then-now-next-clause-reason
returns-then-now-next-clause-reason g c = λ k place tells calling.
    soon_first c.args.layout.now c.args.vehicle place k c.args.params.now c.args.self.now c.now-now.result c.standing-next.result tells c.now-now.ensures.now c.standing-next.ensures (rest c.args.layout.now k c.args.params.now) c.if-now-next.true

pub returns-in-Some-clause-reason : goal.returns-in-Some-clause-reason
returns-in-Some-clause-reason g c = λ k place tells calling.
    bad_first c.args.layout.now c.args.vehicle place k c.args.params.now c.args.self.now c.now-now.result c.standing-next.result tells c.now-now.ensures.now c.standing-next.ensures (rest c.args.layout.now k c.args.params.now) c.in-Some.field (le-ltb _ _ c.if-now-next.false)
    (sym (field_is c.args.layout.now c.args.params.now c.args.prepared.now c.requires.asking) ∙ sym c.bad.ensures ∙ c.in-Some.is)

pub returns-clause-good : goal.returns-clause-good
returns-clause-good g c =
    none_gives c.timely_reason.result (bad c.args.layout.now c.args.params.now ≡ None) (sym (field_is c.args.layout.now c.args.params.now c.args.prepared.now c.requires.asking) ∙ sym c.bad.ensures ∙ c.in_default.is)

pub timely_reason-requires-clause-good : goal.timely_reason-requires-clause-good
timely_reason-requires-clause-good g c = sym (field_is c.args.layout.now c.args.params.now c.args.prepared.now c.requires.asking) ∙ sym c.bad.ensures ∙ c.in_default.is

pub timely_reason-requires-clause-there : goal.timely_reason-requires-clause-there
timely_reason-requires-clause-there g c = c.requires.there
