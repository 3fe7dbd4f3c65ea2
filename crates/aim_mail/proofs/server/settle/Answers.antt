use Rattle.std.proofs.Common.{ap, sym, ◌∙◌, subst, arith, ◌≡◌, List, [], ◌∷◌, ◌++◌, map, ℕ, refl, append-nil}
use lib.ListN.{get_elem?}
use Rattle.aim_mail.specs.declared.letter.Letter.{Letter}
use Rattle.aim_mail.specs.Post.{Every, of}
use Rattle.aim_mail.specs.Mail.{Gone, Found, channel_of, client_of}
use Rattle.aim_mail.proofs.Settles.{settled_all, own_of, here, put_back, popped, below, nothing_left, slip_of, no_operator, All-from_Every}
use Rattle.aim_mail.proofs.server.settle.Goals as goal

pub take_in-requires : goal.take_in-requires
take_in-requires g c =
    let i = c.loop-end.invariant in
    let o = own_of c.args.served _ _ _ (map (λ x. x.client) i.gone.0) _ _ c.requires.own i.gone.1 c.in-Some.ensures.items c.end.view_is in
    (ap (λ z. z.table) o.asks_on ∙ sym (ap (λ z. z.asked_on.table) c.served.view_is) ∙ sym i.table, ap (λ z. z.key) o.asks_on ∙ sym (ap (λ z. z.asked_on.key) c.served.view_is) ∙ sym i.key)

pub index_mut-requires : goal.index_mut-requires
index_mut-requires g c =
    let i = c.loop-end.invariant in
    let o = own_of c.args.served _ _ _ (map (λ x. x.client) i.gone.0) _ _ c.requires.own i.gone.1 c.in-Some.ensures.items c.end.view_is in
    let s = slip_of c.loop-end.slips.items c.end.inside.port.from _ (ap (λ l. get_elem? (map channel_of l) c.end.inside.port.from) i.slips ∙ ap (λ z. get_elem? z.answers_on c.end.inside.port.from) c.served.view_is ∙ o.hears_on) in
    let b = below c.loop-end.slips.items c.end.inside.port.from s.0 s.1 in
    omega (arith, b, c.from-from.ensures)

pub meet-requires : goal.meet-requires
meet-requires g c =
    let i = c.loop-end.invariant in
    let o = own_of c.args.served _ _ _ (map (λ x. x.client) i.gone.0) _ _ c.requires.own i.gone.1 c.in-Some.ensures.items c.end.view_is in
    let s = slip_of c.loop-end.slips.items c.end.inside.port.from _ (ap (λ l. get_elem? (map channel_of l) c.end.inside.port.from) i.slips ∙ ap (λ z. get_elem? z.answers_on c.end.inside.port.from) c.served.view_is ∙ o.hears_on) in
    let h = here _ _ _ c.index_mut.result.now s.0 s.1 c.from-from.ensures c.index_mut.ensures.value in
    (sym (ap (λ z. z.table) (ap channel_of h.1 ∙ s.2)), sym (ap (λ z. z.key) (ap channel_of h.1 ∙ s.2)))

pub loop-end-preserved : goal.loop-end-preserved
loop-end-preserved g c =
    let i = c.loop-end.invariant in
    let o = own_of c.args.served _ _ _ (map (λ x. x.client) i.gone.0) _ _ c.requires.own i.gone.1 c.in-Some.ensures.items c.end.view_is in
    let s = slip_of c.loop-end.slips.items c.end.inside.port.from _ (ap (λ l. get_elem? (map channel_of l) c.end.inside.port.from) i.slips ∙ ap (λ z. get_elem? z.answers_on c.end.inside.port.from) c.served.view_is ∙ o.hears_on) in
    let h = here _ _ _ c.index_mut.result.now s.0 s.1 c.from-from.ensures c.index_mut.ensures.value in
    let t = c.take_in.ensures in
    let x : Gone = record { client = client_of c.end.inside.port c.end.inside.inlet; sent = c.end.inside.port.sent; heard = c.end.inside.inlet.heard } in
    let found : Found c.served.inside.slips.items x = record {
      ends = c.end.invariant;
      calls = refl;
      kept = refl;
      slip = c.index_mut.result.now;
      at = sym (ap (λ l. get_elem? l c.end.inside.port.from) i.slips) ∙ h.0;
      rest = c.meet.ensures.heard.0;
      put = c.meet.ensures.heard.1;
    } in
    record {
      got = ap (λ z. z.got) t ∙ i.got;
      table = ap (λ z. z.table) t ∙ i.table;
      key = ap (λ z. z.key) t ∙ i.key;
      slips = put_back c.loop-end.slips.items _ _ _ _ h.0 c.from-from.ensures c.meet.ensures.same ∙ i.slips;
      gone = (
        x ∷ i.gone.0,
        popped _ _ _ _ _ i.gone.1 (c.in-Some.ensures.items ∙ ap (λ z. c.pop.new.self.items ++ z ∷ []) (sym c.end.view_is)),
        ap (λ z. z.known) t ∙ ap (λ l. (c.end.inside.port.from, c.end.inside.port.sent) ∷ l) i.gone.2,
        (found, i.gone.3),
      );
    }

pub returns-clause-clients : goal.returns-clause-clients
returns-clause-clients g c =
    let i = c.loop-end.invariant in
    let s = c.settled.ensures in
    let none : c.loop-end.ended.items ≡ [] = nothing_left c.loop-end.ended.items (omega (arith, c.in_default.ensures.cases.0)) in
    let all : Every (λ (k : ℕ × List Letter). of k.0 (c.served.inside.intake.got ++ s.0) ≡ k.1) (map (λ x. (x.client.vehicle, x.sent)) i.gone.0) =
    subst (λ (y : List Letter × List (ℕ × List Letter)). Every (λ (k : ℕ × List Letter). of k.0 (y.0 ++ s.0) ≡ k.1) y.1) (λ k. (i.got k, i.gone.2 k)) s.1.0 in
    rw (c.into_journal.ensures.journal, ← c.served.view_is, i.gone.1, none)
    (All-from_Every _ _ (settled_all c.served.inside.desk.book _ c.served.inside.intake.got s.0 c.served.inside.slips.items i.gone.0 c.sheets_are_those_of_own_entries.ensures.own c.served.invariant.0 c.served.invariant.4 i.gone.3 all))

pub returns-clause-operator : goal.returns-clause-operator
returns-clause-operator g c =
    rw (c.into_journal.ensures.journal, c.served.invariant.0.entries) (no_operator _ _ c.served.invariant.3 c.served.invariant.0.known)

pub loop-end-init : goal.loop-end-init
loop-end-init g c = record { got = refl; table = refl; key = refl; slips = refl; gone = ([], sym (append-nil _), c.served.invariant.2, tt) }

pub returns-clause-legal : goal.returns-clause-legal
returns-clause-legal g c = rw (c.into_journal.ensures.journal, ← c.served.view_is) c.into_journal.ensures.legal

pub returns-clause-room : goal.returns-clause-room
returns-clause-room g c = rw (c.into_journal.ensures.journal, ← c.served.view_is) c.served.invariant.0.within
