use Rattle.std.proofs.Common.{ap, subst, sym, ◌∷◌, ◌++◌, []}
use Rattle.aim_mail.specs.Post.{IsFor, IsServable}
use Rattle.aim_mail.specs.Mail.{Stands, letters_of}
use Rattle.aim_mail.proofs.server.serve_one.Goals as goal

pub answer-requires-clause-moment : goal.answer-requires-clause-moment
answer-requires-clause-moment g c =
    (subst (λ o. IsServable o c.in-Call.moment c.in-Call.prepared) c.requires.made.1 (subst (IsFor c.args.intake.now.setting) c.in-Call.is c.receive-from.ensures.word)).0

pub answer-requires-clause-prepared : goal.answer-requires-clause-prepared
answer-requires-clause-prepared g c =
    (subst (λ o. IsServable o c.in-Call.moment c.in-Call.prepared) c.requires.made.1 (subst (IsFor c.args.intake.now.setting) c.in-Call.is c.receive-from.ensures.word)).1

pub answer-requires-clause-stands : goal.answer-requires-clause-stands
answer-requires-clause-stands g c =
    rw (c.note.ensures.note, c.receive-from.ensures.got) (c.args.intake.now.got, ap (λ w. c.args.intake.now.got ++ record { from = c.receive-from.result.from; word = w } ∷ []) c.in-Call.is, c.requires.stands)

pub returns-in-Call-clause-stands : goal.returns-in-Call-clause-stands
returns-in-Call-clause-stands g c = rw c.note.ensures.same (rw c.note.ensures.note at c.answer.ensures.stands)

pub returns-in-Last-clause-stands : goal.returns-in-Last-clause-stands
returns-in-Last-clause-stands g c =
    rw c.receive-from.ensures.got
    (subst (λ w. Stands c.args.desk.now.book (letters_of c.args.intake.now) (c.args.intake.now.got ++ record { from = c.receive-from.result.from; word = w } ∷ []) c.note_end.new.slips.items) (sym c.in-Last.is) (c.note_end.ensures.stands _ _ _ c.requires.stands))
