use Rattle.std.proofs.Common.{ap, subst, arith, Some}
use Rattle.aim_mail.specs.Calls.{IsKept}
use Rattle.aim_mail.specs.Post.{Begun, PortModel}
use Rattle.aim_mail.specs.Slips.{Lawful, InletModel}
use Rattle.aim_mail.proofs.CallLemmas.{called, comes_back, noted, open_more, servable_if, still_told}
use Rattle.aim_mail.proofs.client.Client.call.Goals as goal

pub send-requires-clause-word : goal.send-requires-clause-word
send-requires-clause-word g c = servable_if _ c.self.invariant.1.terms _ _ c.self.invariant.1.is c.requires.moment (rw (← c.self.view_is) at c.requires.prepared)

pub heed-requires : goal.heed-requires
heed-requires g c =
    let l = subst (λ (i : InletModel). Lawful i.first i.heard) c.hear-answer.ensures.heard c.hear-answer.ensures.lawful in
    rw c.send.ensures (noted c.self.inside.port c.self.inside.inlet c.hear-answer.result c.self.invariant.1 l)

pub move_over-requires : goal.move_over-requires
move_over-requires g c =
    let l = subst (λ (i : InletModel). Lawful i.first i.heard) c.hear-answer.ensures.heard c.hear-answer.ensures.lawful in
    let n = subst (λ (p : PortModel). Begun (Some p.from) p.sent c.hear-answer.result.note.got) c.send.ensures c.heed.ensures.begun in
    let b = comes_back c.self.inside.port c.self.inside.inlet _ _ c.args.prepared c.hear-answer.result c.self.invariant.0 c.self.invariant.1 c.self.invariant.2 l n in
    record { room = b.room c.args.back.now.room (rw (← c.self.view_is) at c.requires.room); few = omega (arith, c.requires.count, b.few) }

pub invariant_of-self : goal.invariant_of-self
invariant_of-self g c =
    let l = subst (λ (i : InletModel). Lawful i.first i.heard) c.hear-answer.ensures.heard c.hear-answer.ensures.lawful in
    let n = subst (λ (p : PortModel). Begun (Some p.from) p.sent c.hear-answer.result.note.got) c.send.ensures c.heed.ensures.begun in
    let b = comes_back c.self.inside.port c.self.inside.inlet _ _ c.args.prepared c.hear-answer.result c.self.invariant.0 c.self.invariant.1 c.self.invariant.2 l n in
    rw (c.heed.ensures.same, c.send.ensures, c.hear-answer.ensures.heard) (open_more _ _ _ _ _ _ c.self.invariant.0, still_told _ _ _ c.self.invariant.1, b.kept)

pub returns-clause-call : goal.returns-clause-call
returns-clause-call g c =
    rw (c.heed.ensures.same, c.send.ensures, c.hear-answer.ensures.heard, ← c.self.view_is) (called c.self.inside.port c.self.inside.inlet c.from-from.result c.args.moment c.args.prepared c.hear-answer.result c.self.invariant.0)

pub returns-clause-sheets : goal.returns-clause-sheets
returns-clause-sheets g c =
    let l = subst (λ (i : InletModel). Lawful i.first i.heard) c.hear-answer.ensures.heard c.hear-answer.ensures.lawful in
    let p = subst (λ (p : PortModel). Begun (Some p.from) p.sent c.hear-answer.result.note.got) c.send.ensures c.heed.ensures.begun in
    let b = comes_back c.self.inside.port c.self.inside.inlet _ _ c.args.prepared c.hear-answer.result c.self.invariant.0 c.self.invariant.1 c.self.invariant.2 l p in
    let n = ap (λ z. z.count) c.move_over.ensures in
    rw (c.hear-answer.ensures.heard, ← c.self.view_is) (omega (arith, b.count, n))

pub returns-clause-kept : goal.returns-clause-kept
returns-clause-kept g c =
    let l = subst (λ (i : InletModel). Lawful i.first i.heard) c.hear-answer.ensures.heard c.hear-answer.ensures.lawful in
    let n = subst (λ (p : PortModel). Begun (Some p.from) p.sent c.hear-answer.result.note.got) c.send.ensures c.heed.ensures.begun in
    let b = comes_back c.self.inside.port c.self.inside.inlet _ _ c.args.prepared c.hear-answer.result c.self.invariant.0 c.self.invariant.1 c.self.invariant.2 l n in
    rw c.hear-answer.ensures.heard b.one

pub returns-clause-number : goal.returns-clause-number
returns-clause-number g c =
    let l = subst (λ (i : InletModel). Lawful i.first i.heard) c.hear-answer.ensures.heard c.hear-answer.ensures.lawful in
    let n = subst (λ (p : PortModel). Begun (Some p.from) p.sent c.hear-answer.result.note.got) c.send.ensures c.heed.ensures.begun in
    let b = comes_back c.self.inside.port c.self.inside.inlet _ _ c.args.prepared c.hear-answer.result c.self.invariant.0 c.self.invariant.1 c.self.invariant.2 l n in
    (subst IsKept c.self.view_is c.self.invariant.2, rw (c.heed.ensures.same, c.send.ensures, c.hear-answer.ensures.heard) b.kept)
