use Rattle.std.proofs.Common.{length, refl, sym, None, Some}
use Rattle.std.proofs.lemmas.Bool.{ltb-false}
use Rattle.std.proofs.lemmas.Option.{slice_get_read, slice_get_past}
use Rattle.aim_safety.proofs.PassageLemmas.{passage_on, no_passage}
use Rattle.aim_safety.proofs.grants.begun.Goals as goal

pub returns-in-None : goal.returns-in-None
returns-in-None c =
    let t = c.in-Some.entrance in
    let e = c.in-Some-get.entry.now in
    let there = c.in-Some-get.ensures.lookup in
    passage_on c.args.layout.now c.args.journal.now c.args.log.now t e None (sym c.in-Some.ensures)
    (slice_get_read c.args.journal.now (length c.args.journal.now) t.id e refl there.3.0 there.1) (rw c.in-None.is at c.in_ok-grant.ensures)

pub returns-in-Some-2 : goal.returns-in-Some-2
returns-in-Some-2 c =
    let t = c.in-Some.entrance in
    let e = c.in-Some-get.entry.now in
    let there = c.in-Some-get.ensures.lookup in
    passage_on c.args.layout.now c.args.journal.now c.args.log.now t e (Some c.in-Some-2.grant) (sym c.in-Some.ensures)
    (slice_get_read c.args.journal.now (length c.args.journal.now) t.id e refl there.3.0 there.1) (rw c.in-Some-2.is at c.in_ok-grant.ensures)

pub returns-in_default-get : goal.returns-in_default-get
returns-in_default-get c =
    let t = c.in-Some.entrance in
    let past = ltb-false t.id (length c.args.journal.now) (sym c.in_default-get.ensures.lookup.0) in
    no_passage c.args.layout.now c.args.journal.now c.args.log.now t (sym c.in-Some.ensures) (slice_get_past c.args.journal.now t.id past)
