use Rattle.std.proofs.Common.{refl}
use Rattle.aim_rules.specs.Trials.{judged}
use Rattle.aim_rules.proofs.GoodLemmas.{good_params}
use Rattle.aim_book.proofs.FreeLemmas.{asked_of, refused_grants, tiles_of}
use Rattle.aim_book.proofs.StartLemmas.{first_tried, gone_judged, gone_later, judged_fits, later_tried, window_first, window_later, window_refused}
use Rattle.aim_book.proofs.desks.Desk.answer_window.Goals as goal

pub unreachable-requires : goal.unreachable-requires
unreachable-requires g c = (rw c.in_default.is at c.judged_sheet.ensures.none) c.args.params.now c.requires.asking c.requires.good

pub conflict-requires-clause-tiles : goal.conflict-requires-clause-tiles
conflict-requires-clause-tiles g c =
    tiles_of c.args.layout.now c.args.params.now (judged c.args.layout.now c.args.params.now).fast c.in-Some.sheet.now.spans (c.in-Some.ensures.trial c.args.params.now c.requires.asking c.requires.good).cells

-- the first start
pub returns-in_default-conflict-clause-reply : goal.returns-in_default-conflict-clause-reply
returns-in_default-conflict-clause-reply g c = λ k tells passed.
    let i = c.args.layout.now in
    let p = c.args.params.now in
    let have = (c.in-Some.ensures.trial p c.requires.asking c.requires.good).cells in
    let asked = asked_of i c.args.vehicle c.args.place k p (judged i p).fast c.in-Some.sheet.now.spans c.args.self.now tells have c.requires.ahead in
    window_first i k p c.requires.windows ((good_params i p c.requires.good).window c.requires.windows).0 c.conflict.result c.confirm_judged.result passed
    (c.conflict.ensures.reason k p (judged i p).fast c.args.place tells asked refl) c.in_default-conflict.is (c.confirm_judged.ensures k tells.place_is)

pub returns-in_default-conflict-clause-prepared : goal.returns-in_default-conflict-clause-prepared
returns-in_default-conflict-clause-prepared g c = c.requires.asking.prepared

pub returns-in_default-conflict-clause-gone : goal.returns-in_default-conflict-clause-gone
returns-in_default-conflict-clause-gone g c = λ k tells t named.
    gone_judged c.args.layout.now k c.args.params.now c.confirm_judged.result t c.args.prepared.now (c.confirm_judged.ensures k tells.place_is) named c.requires.asking c.requires.good

pub returns-in_default-conflict-clause-cost : goal.returns-in_default-conflict-clause-cost
returns-in_default-conflict-clause-cost g c =
    let i = c.args.layout.now in
    let p = c.args.params.now in
    first_tried _ _ _ _ p.arrive p.latest ((good_params i p c.requires.good).window c.requires.windows).0 c.conflict.ensures.cost
    (judged_fits i p c.args.prepared.now c.in-Some.sheet.now.spans c.requires.asking c.requires.good (c.in-Some.ensures.trial p c.requires.asking c.requires.good))

-- a later one
pub returns-in-Some-later_start-clause-reply : goal.returns-in-Some-later_start-clause-reply
returns-in-Some-later_start-clause-reply g c = λ k tells passed.
    let i = c.args.layout.now in
    let p = c.args.params.now in
    let have = (c.in-Some.ensures.trial p c.requires.asking c.requires.good).cells in
    let asked = asked_of i c.args.vehicle c.args.place k p (judged i p).fast c.in-Some.sheet.now.spans c.args.self.now tells have c.requires.ahead in
    let found = c.in-Some-later_start.ensures in
    window_later i k p c.requires.windows ((good_params i p c.requires.good).window c.requires.windows).0 c.conflict.result c.in-Some-conflict.reason c.confirm_judged-in-Some-later_start.result c.in-Some-later_start.start c.arriving.result
    (c.conflict.ensures.reason k p (judged i p).fast c.args.place tells asked refl) c.in-Some-conflict.is found.within.0 found.within.1 (found.free k c.args.place tells) (found.before k c.args.place tells)
    c.arriving.ensures (c.confirm_judged-in-Some-later_start.ensures k tells.place_is)

pub returns-in-Some-later_start-clause-gone : goal.returns-in-Some-later_start-clause-gone
returns-in-Some-later_start-clause-gone g c = λ k tells t named.
    gone_later c.args.layout.now k c.args.params.now c.arriving.result c.in-Some-later_start.start c.confirm_judged-in-Some-later_start.result t c.later_start.new.prepared c.arriving.ensures (c.confirm_judged-in-Some-later_start.ensures k tells.place_is) named c.in-Some-later_start.ensures.asking c.in-Some-later_start.ensures.good

pub returns-in-Some-later_start-clause-cost : goal.returns-in-Some-later_start-clause-cost
returns-in-Some-later_start-clause-cost g c =
    let i = c.args.layout.now in
    let p = c.args.params.now in
    later_tried _ _ _ _ _ p.arrive p.latest ((good_params i p c.requires.good).window c.requires.windows).0 c.conflict.ensures.cost
    (judged_fits i p c.args.prepared.now c.in-Some.sheet.now.spans c.requires.asking c.requires.good (c.in-Some.ensures.trial p c.requires.asking c.requires.good)) c.later_start.ensures.cost

-- none
pub returns-in-None-clause-reply : goal.returns-in-None-clause-reply
returns-in-None-clause-reply g c = λ k tells passed.
    let i = c.args.layout.now in
    let p = c.args.params.now in
    let have = (c.in-Some.ensures.trial p c.requires.asking c.requires.good).cells in
    let asked = asked_of i c.args.vehicle c.args.place k p (judged i p).fast c.in-Some.sheet.now.spans c.args.self.now tells have c.requires.ahead in
    window_refused i k p c.requires.windows ((good_params i p c.requires.good).window c.requires.windows).0 c.conflict.result c.in-Some-conflict.reason c.refuse.result
    (c.conflict.ensures.reason k p (judged i p).fast c.args.place tells asked refl) c.in-Some-conflict.is (c.in-None.ensures.none k c.args.place tells) (c.refuse.ensures k c.args.place tells)

pub returns-in-None-clause-gone : goal.returns-in-None-clause-gone
returns-in-None-clause-gone g c = λ k tells t named. absurd (refused_grants c.args.layout.now k c.args.params.now.arrive c.in-Some-conflict.reason c.refuse.result t (c.refuse.ensures k c.args.place tells) named)

pub returns-in-None-clause-cost : goal.returns-in-None-clause-cost
returns-in-None-clause-cost g c =
    let i = c.args.layout.now in
    let p = c.args.params.now in
    later_tried _ _ _ _ _ p.arrive p.latest ((good_params i p c.requires.good).window c.requires.windows).0 c.conflict.ensures.cost
    (judged_fits i p c.args.prepared.now c.in-Some.sheet.now.spans c.requires.asking c.requires.good (c.in-Some.ensures.trial p c.requires.asking c.requires.good)) c.later_start.ensures.cost
