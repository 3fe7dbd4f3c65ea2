use Rattle.std.proofs.Common.{◌≡◌, refl, ◌<◌, ◌+◌, ◌*◌, [], ◌∷◌, ◌++◌, length, sym, ◌∙◌, ap, arith, subst}
use Rattle.aim_messages.specs.declared.entries.Act.TheVariants as act
use Rattle.aim_messages.specs.declared.entries.Entry.{Entry}
use Rattle.aim_rules.specs.Answer.{answer}
use Rattle.aim_rules.specs.History.{fresh, now_of, params_of}
use Rattle.aim_rules.specs.Kept.{kept}
use Rattle.aim_book.specs.Keeping.{row_count}
use Rattle.aim_book.specs.Managed.{IsManaged}
use Rattle.aim_book.specs.Rows.{row_of}
use Rattle.aim_book.specs.Reserved.{rows_exchanged}
use Rattle.aim_book.specs.Costs.{spans_exchanged, starts_tried}
use Rattle.aim_book.specs.Sheets.{sheets_kept}
use Rattle.aim_book.proofs.CostLemmas.{cost_served, exchanged_is}
use Rattle.aim_book.proofs.SheetLemmas.{count_is}
use Rattle.aim_rules.specs.Legal.{IsLegal}
use Rattle.aim_book.proofs.EntryLemmas.{one_more_fits, sheets_served, entry_added, entry_answered}
use Rattle.aim_book.proofs.book.Book.answer.Goals as goal

pub invariant_of-self : goal.invariant_of-self
invariant_of-self g c =
    let b = c.self.inside in
    let h = b.journal.items in
    let managed = c.self.invariant.managed in
    let m : IsManaged b.layout (length b.desk.sessions) h (now_of h 0) b.desk = subst (λ k. IsManaged b.layout k h (now_of h 0) b.desk) (sym managed.desk.callers) managed in
    let e : Entry = record { caller = c.args.vehicle; moment = c.args.moment; act = act.Message c.args.prepared.message; reply = c.serve-reply.result } in
    let next = c.serve-reply.ensures.managed h m (let q : c.len-place.result ≡ length h = omega (arith, c.len-place.ensures) in q) in
    let items : c.enter.new.journal.items ≡ h ++ e ∷ [] = c.enter.ensures.items ∙ ap (λ x. h ++ x ∷ []) (c.enter.ensures.entry ∙ entry_answered c.args.vehicle c.args.moment _ _ _ _ (ap (λ m. act.Message m) c.message-message.ensures.message) refl) in
    record {
      managed = subst (λ js. IsManaged b.layout b.vehicles js (now_of js 0) c.serve-reply.new.self) (sym items) (subst (λ k. IsManaged b.layout k (h ++ e ∷ []) (now_of (h ++ e ∷ []) 0) c.serve-reply.new.self) managed.desk.callers next);
      fits = one_more_fits c.enter.new.journal.items h e c.len-place.result b.room items c.self.invariant.fits (let q : c.len-place.result ≡ length h = omega (arith, c.len-place.ensures) in q) (λ full. c.requires.place (rw (← c.self.view_is) (sym (let q : c.len-place.result ≡ length h = omega (arith, c.len-place.ensures) in q) ∙ full)));
      reserved = rw c.enter.ensures.capacity c.self.invariant.reserved;
      most = c.self.invariant.most;
      timeline = ap (λ t. t.room) c.serve-reply.ensures.timeline ∙ c.self.invariant.timeline;
    }

pub returns-clause-entry : goal.returns-clause-entry
returns-clause-entry g c =
    let b = c.self.inside in
    let h = b.journal.items in
    let managed = c.self.invariant.managed in
    let m : IsManaged b.layout (length b.desk.sessions) h (now_of h 0) b.desk = subst (λ k. IsManaged b.layout k h (now_of h 0) b.desk) (sym managed.desk.callers) managed in
    let said = c.serve-reply.ensures.reply h m (let q : c.len-place.result ≡ length h = omega (arith, c.len-place.ensures) in q) in
    let same : c.serve-reply.result ≡ answer c.args.self.now.layout c.args.self.now.journal c.args.vehicle c.args.moment (act.Message c.args.prepared.message) = subst (λ v. c.serve-reply.result ≡ answer v.layout v.journal c.args.vehicle c.args.moment (act.Message c.args.prepared.message)) c.self.view_is said in
    c.enter.ensures.entry ∙ entry_answered c.args.vehicle c.args.moment _ _ _ _ (ap (λ m. act.Message m) c.message-message.ensures.message) same

pub returns-clause-journal : goal.returns-clause-journal
returns-clause-journal g c =
    let b = c.self.inside in
    entry_added (record { layout = b.layout; vehicles = b.vehicles; room = b.room; journal = b.journal.items }) c.args.self.now c.enter.new.journal.items c.enter.result c.self.view_is c.enter.ensures.items

pub returns-clause-sheets : goal.returns-clause-sheets
returns-clause-sheets g c =
    let b = c.self.inside in
    let v = c.args.vehicle in
    let n = length b.desk.sessions in
    let managed = c.self.invariant.managed in
    let m : IsManaged b.layout n b.journal.items (now_of b.journal.items 0) b.desk = subst (λ k. IsManaged b.layout k b.journal.items (now_of b.journal.items 0) b.desk) (sym managed.desk.callers) managed in
    let l : v < n = rw managed.desk.callers (rw (← c.self.view_is) at c.requires.vehicle) in
    let before : row_count (row_of b.desk.reservations.rows.items v) ≡ sheets_kept v b.journal.items = count_is b.layout n b.journal.items v (row_of b.desk.reservations.rows.items v) m.legal (m.desk.reserved.rows v l) in
    let e : Entry = record { caller = v; moment = c.args.moment; act = act.Message c.args.prepared.message; reply = c.serve-reply.result } in
    let next = c.serve-reply.ensures.managed b.journal.items m (let q : c.len-place.result ≡ length b.journal.items = omega (arith, c.len-place.ensures) in q) in
    let after : row_count (row_of c.serve-reply.new.self.reservations.rows.items v) ≡ sheets_kept v (b.journal.items ++ e ∷ []) = count_is b.layout n (b.journal.items ++ e ∷ []) v (row_of c.serve-reply.new.self.reservations.rows.items v) next.legal (next.desk.reserved.rows v l) in
    let items : sheets_kept v c.enter.new.journal.items ≡ sheets_kept v (b.journal.items ++ e ∷ []) = ap (sheets_kept v) (c.enter.ensures.items ∙ ap (λ x. b.journal.items ++ x ∷ []) (c.enter.ensures.entry ∙ entry_answered c.args.vehicle c.args.moment _ _ _ _ (ap (λ m. act.Message m) c.message-message.ensures.message) refl)) in
    let journal : sheets_kept v b.journal.items ≡ sheets_kept v c.args.self.now.journal = (λ j. sheets_kept v (c.self.view_is j).journal) in
    sheets_served _ _ _ _ _ _ _ _ c.serve-reply.ensures.sheets before after items journal

pub returns-clause-cost : goal.returns-clause-cost
returns-clause-cost g c =
    let b = c.self.inside in
    let v = c.args.vehicle in
    let n = length b.desk.sessions in
    let h = b.journal.items in
    let managed = c.self.invariant.managed in
    let m : IsManaged b.layout n h (now_of h 0) b.desk = subst (λ k. IsManaged b.layout k h (now_of h 0) b.desk) (sym managed.desk.callers) managed in
    let l : v < n = rw managed.desk.callers (rw (← c.self.view_is) at c.requires.vehicle) in
    let e : Entry = record { caller = v; moment = c.args.moment; act = act.Message c.args.prepared.message; reply = c.serve-reply.result } in
    let next = c.serve-reply.ensures.managed h m (let q : c.len-place.result ≡ length h = omega (arith, c.len-place.ensures) in q) in
    let rows : rows_exchanged (row_of b.desk.reservations.rows.items v) (row_of c.serve-reply.new.self.reservations.rows.items v) ≡ spans_exchanged b.layout v h (h ++ e ∷ [])
    = exchanged_is b.layout (kept (fresh h) v) (kept (fresh (h ++ e ∷ [])) v) (row_of b.desk.reservations.rows.items v) (row_of c.serve-reply.new.self.reservations.rows.items v) (m.desk.reserved.rows v l) (next.desk.reserved.rows v l) in
    let items : c.enter.new.journal.items ≡ h ++ e ∷ [] = c.enter.ensures.items ∙ ap (λ x. h ++ x ∷ []) (c.enter.ensures.entry ∙ entry_answered c.args.vehicle c.args.moment _ _ _ _ (ap (λ m. act.Message m) c.message-message.ensures.message) refl) in
    cost_served (record { layout = b.layout; vehicles = b.vehicles; room = b.room; journal = h }) c.args.self.now v c.enter.new.journal.items e (λ i. c.args.steps.now + starts_tried i (params_of c.args.prepared.message.body) * (length c.args.prepared.first.spans + length c.args.prepared.second.spans)) c.serve-reply.new.steps _ _ _ _ c.self.view_is items rows
    managed.desk.reserved.size managed.desk.reserved.current managed.desk.reserved.horizon c.serve-reply.ensures.cost

pub serve-reply-requires-clause-managed : goal.serve-reply-requires-clause-managed
serve-reply-requires-clause-managed g c =
    let b = c.self.inside in
    let h = b.journal.items in
    let managed = c.self.invariant.managed in
    let m : IsManaged b.layout (length b.desk.sessions) h (now_of h 0) b.desk = subst (λ k. IsManaged b.layout k h (now_of h 0) b.desk) (sym managed.desk.callers) managed in
    (h, m, (let q : c.len-place.result ≡ length h = omega (arith, c.len-place.ensures) in q))

pub serve-reply-requires-clause-vehicle : goal.serve-reply-requires-clause-vehicle
serve-reply-requires-clause-vehicle g c = rw (c.self.invariant.managed.desk.callers) (rw (← c.self.view_is) at c.requires.vehicle)

pub serve-reply-requires-clause-room : goal.serve-reply-requires-clause-room
serve-reply-requires-clause-room g c = rw (← c.self.view_is) at c.requires.room

pub serve-reply-requires-clause-prepared : goal.serve-reply-requires-clause-prepared
serve-reply-requires-clause-prepared g c = rw (← c.self.view_is) at c.requires.prepared

pub returns-clause-pool : goal.returns-clause-pool
returns-clause-pool g c = c.serve-reply.ensures.pool

pub serve-reply-requires-clause-count : goal.serve-reply-requires-clause-count
serve-reply-requires-clause-count g c = c.requires.count

pub serve-reply-requires-clause-moment : goal.serve-reply-requires-clause-moment
serve-reply-requires-clause-moment g c = c.requires.moment

pub returns-clause-legal : goal.returns-clause-legal
returns-clause-legal g c =
    let b = c.self.inside in
    let h = b.journal.items in
    let managed = c.self.invariant.managed in
    let m : IsManaged b.layout (length b.desk.sessions) h (now_of h 0) b.desk = subst (λ k. IsManaged b.layout k h (now_of h 0) b.desk) (sym managed.desk.callers) managed in
    let e : Entry = record { caller = c.args.vehicle; moment = c.args.moment; act = act.Message c.args.prepared.message; reply = c.serve-reply.result } in
    let next = c.serve-reply.ensures.managed h m (let q : c.len-place.result ≡ length h = omega (arith, c.len-place.ensures) in q) in
    rw (c.enter.ensures.items, c.enter.ensures.entry, c.message-message.ensures.message) (subst (λ k. IsLegal b.layout k (h ++ e ∷ [])) managed.desk.callers next.legal)
