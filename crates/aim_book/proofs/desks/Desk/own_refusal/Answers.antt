use Rattle.std.proofs.Common.{◌≡◌, nat_le, true, false, refl, le-leb}
use Rattle.std.proofs.lemmas.Bool.{lt-leb}
use Rattle.aim_book.proofs.HeldLemmas.{begun_is}
use Rattle.aim_book.proofs.desks.Desk.own_refusal.Goals as goal

pub returns-then-first-now : goal.returns-then-first-now
returns-then-first-now g c = λ i k place tells.
    let some = rw c.in-Change-Some.is-1 at c.lasting-own.ensures.some in
    let past : nat_le c.first_step-first.result c.args.self.now.reservations.table.current ≡ true = rw (← c.now.ensures.now) (le-leb _ _ c.if-first-now.true) in
    rw (c.in-Change-Some.is-0, begun_is i c.args.vehicle place k c.args.self.now c.in-Change-Some.own.now c.in-Change-Some.id c.first_step-first.result c.in-Change-Some.field-1-0 tells.valid.sound.times.early tells.valid.sound.times.late tells some.0 some.1 c.if-own-id.true c.first_step-first.ensures, past) refl

pub returns-else-first-now : goal.returns-else-first-now
returns-else-first-now g c = λ i k place tells.
    let some = rw c.in-Change-Some.is-1 at c.lasting-own.ensures.some in
    let ahead : nat_le c.first_step-first.result c.args.self.now.reservations.table.current ≡ false = rw (← c.now.ensures.now) (lt-leb _ _ c.if-first-now.false) in
    rw (c.in-Change-Some.is-0, begun_is i c.args.vehicle place k c.args.self.now c.in-Change-Some.own.now c.in-Change-Some.id c.first_step-first.result c.in-Change-Some.field-1-0 tells.valid.sound.times.early tells.valid.sound.times.late tells some.0 some.1 c.if-own-id.true c.first_step-first.ensures, ahead) refl
