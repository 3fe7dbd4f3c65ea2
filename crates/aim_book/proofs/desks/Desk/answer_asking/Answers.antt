use Rattle.std.proofs.Common.{◌≡◌, sym, ◌∙◌}
use Rattle.aim_rules.specs.Answer.{own_refusal}
use Rattle.aim_book.proofs.FreeLemmas.{asked_early, asked_free, asked_own, refused_grants}
use Rattle.aim_book.proofs.desks.Desk.answer_asking.Goals as goal

pub returns-in-Some-clause-reply : goal.returns-in-Some-clause-reply
returns-in-Some-clause-reply g c = λ k tells calling.
    let own : c.own_refusal.result ≡ own_refusal c.args.layout.now k c.args.prepared.now.message.body = rw (← c.message.ensures.message) (c.own_refusal.ensures c.args.layout.now k c.args.place tells) in
    asked_own c.args.layout.now k c.args.prepared.now.message.body c.args.params.now c.own_refusal.result c.in-Some.reason c.refuse.result own c.in-Some.is (c.refuse.ensures k c.args.place tells)

pub returns-in-Some-early_reason-clause-reply : goal.returns-in-Some-early_reason-clause-reply
returns-in-Some-early_reason-clause-reply g c = λ k tells calling.
    let own : c.own_refusal.result ≡ own_refusal c.args.layout.now k c.args.prepared.now.message.body = rw (← c.message.ensures.message) (c.own_refusal.ensures c.args.layout.now k c.args.place tells) in
    asked_early c.args.layout.now k c.args.prepared.now.message.body c.args.params.now c.own_refusal.result c.early_reason.result c.in-Some-early_reason.reason c.refuse-in-Some-early_reason.result own c.in_default.is (c.early_reason.ensures.reason k c.args.place tells calling) c.in-Some-early_reason.is (c.refuse-in-Some-early_reason.ensures k c.args.place tells)

pub returns-in-None-clause-reply : goal.returns-in-None-clause-reply
returns-in-None-clause-reply g c = λ k tells calling.
    let own : c.own_refusal.result ≡ own_refusal c.args.layout.now k c.args.prepared.now.message.body = rw (← c.message.ensures.message) (c.own_refusal.ensures c.args.layout.now k c.args.place tells) in
    let early = c.early_reason.ensures.reason k c.args.place tells calling in
    asked_free c.args.layout.now k c.args.prepared.now.message.body c.args.params.now c.own_refusal.result c.early_reason.result c.answer_free.result own c.in_default.is early c.in-None.is (c.answer_free.ensures.reply k tells (sym early ∙ c.in-None.is))

pub returns-in-Some-clause-prepared : goal.returns-in-Some-clause-prepared
returns-in-Some-clause-prepared g c = c.requires.asking.prepared

pub returns-in-Some-early_reason-clause-prepared : goal.returns-in-Some-early_reason-clause-prepared
returns-in-Some-early_reason-clause-prepared g c = c.requires.asking.prepared

pub returns-in-Some-clause-gone : goal.returns-in-Some-clause-gone
returns-in-Some-clause-gone g c = λ k tells t named. absurd (refused_grants c.args.layout.now k c.args.params.now.arrive c.in-Some.reason c.refuse.result t (c.refuse.ensures k c.args.place tells) named)

pub returns-in-Some-early_reason-clause-gone : goal.returns-in-Some-early_reason-clause-gone
returns-in-Some-early_reason-clause-gone g c = λ k tells t named. absurd (refused_grants c.args.layout.now k c.args.params.now.arrive c.in-Some-early_reason.reason c.refuse-in-Some-early_reason.result t (c.refuse-in-Some-early_reason.ensures k c.args.place tells) named)

pub early_reason-requires-clause-there : goal.early_reason-requires-clause-there
early_reason-requires-clause-there g c = c.requires.there
