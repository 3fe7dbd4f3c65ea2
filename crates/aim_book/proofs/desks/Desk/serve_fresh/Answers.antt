use Rattle.std.proofs.Common.{◌≡◌, ◌<◌, ◌≤◌, ◌+◌, length, sym, ◌∙◌, ap, subst, true, None, Some}
use Rattle.std.proofs.lemmas.List.{get_or-set_same}
use Rattle.std.specs.Prelude.{slice_set, slice_index_or}
use Rattle.aim_messages.specs.declared.messages.Message.{Message}
use Rattle.aim_messages.specs.declared.messages.Params.{Params}
use Rattle.aim_sessions.specs.Distances.{distances_with}
use Rattle.aim_sessions.specs.Kept.{no_session, session_after}
use Rattle.aim_sessions.specs.Calls.{call_of}
use Rattle.aim_rules.specs.History.{fresh, is_confirm, now_of, params_of}
use Rattle.aim_rules.specs.Answer.{answer_fresh}
use Rattle.aim_rules.specs.Trials.{Trial, granted_trial}
use Rattle.aim_rules.specs.Known.{known_after}
use Rattle.aim_book.specs.Asking.{HasGoneTo}
use Rattle.aim_book.specs.Desk.{Tells}
use Rattle.aim_reservations.specs.Keeping.{is_changed, row_next, spans_moved}
use Rattle.aim_reservations.specs.Rows.{row_of}
use Rattle.aim_book.specs.Reserved.{rows_exchanged}
use Rattle.aim_book.proofs.MovedLemmas.{moved_fits}
use Rattle.aim_book.proofs.ManagedLemmas.{answer_new, tells, tells_noted}
use Rattle.aim_book.proofs.ServedLemmas.{calling_noted, later_granted, managed_next, row_room, row_tiles, tiles_granted}
use Rattle.aim_book.proofs.GivenLemmas.{kept_sheets, moved_cost}
use Rattle.aim_book.proofs.desks.Desk.serve_fresh.Goals as goal

pub answer_fresh-reply-requires-clause-there : goal.answer_fresh-reply-requires-clause-there
answer_fresh-reply-requires-clause-there g c =
    let m = c.requires.managed in
    (tells c.args.layout.now (length c.args.self.now.sessions) m.0 c.args.vehicle m.1 c.args.self.now m.2 c.requires.vehicle).there

pub returns-clause-reply : goal.returns-clause-reply
returns-clause-reply g c = λ h moment m place.
    let i = c.args.layout.now in
    let n = length c.args.self.now.sessions in
    let r = c.args.prepared in
    let k = known_after i h c.args.vehicle moment in
    let noted : c.note.new.self ≡ slice_set c.args.self.now.approaches c.args.vehicle (call_of i (params_of r.message.body)) = c.note.ensures ∙ ap (λ o. slice_set c.args.self.now.approaches c.args.vehicle o) c.call_in.ensures.call in
    let told : Tells i c.args.vehicle c.args.place k c.args.self.now = subst (λ p. Tells i c.args.vehicle p k c.args.self.now) (sym place) (tells i n h c.args.vehicle moment c.args.self.now m c.requires.vehicle) in
    let said : c.answer_fresh-reply.result ≡ answer_fresh i k r.message.body
    = c.answer_fresh-reply.ensures.reply k (tells_noted _ _ _ _ _ _ told) (calling_noted i n h c.args.vehicle moment c.args.self.now r.message m c.requires.vehicle c.note.new.self noted) in
    said ∙ sym (answer_new i n h c.args.vehicle moment c.args.self.now m c.requires.vehicle r.message c.requires.fresh)

pub keep-requires-2-clause-own : goal.keep-requires-2-clause-own
keep-requires-2-clause-own g c =
    let m = c.requires.managed in
    rw c.keep_distance.ensures.rest (row_tiles c.args.layout.now (length c.args.self.now.sessions) (fresh m.0) (now_of m.0 m.1) c.args.vehicle c.args.self.now.reservations m.2.desk.reserved c.requires.vehicle)

pub keep-requires-2-clause-room : goal.keep-requires-2-clause-room
keep-requires-2-clause-room g c =
    let m = c.requires.managed in
    rw (c.keep_distance.ensures.rest, c.requires.room) (row_room c.args.layout.now (length c.args.self.now.sessions) (fresh m.0) (now_of m.0 m.1) c.args.vehicle c.args.self.now.reservations m.2.desk.reserved c.requires.vehicle)

pub keep-requires-2-clause-tiles : goal.keep-requires-2-clause-tiles
keep-requires-2-clause-tiles g c = λ confirmed.
    let i = c.args.layout.now in
    let n = length c.args.self.now.sessions in
    let r = c.args.prepared in
    let q = c.answer_fresh-reply.new.prepared in
    let managed = c.requires.managed in
    let h = managed.0 in
    let moment = managed.1 in
    let m = managed.2 in
    let k = known_after i h c.args.vehicle moment in
    let noted : c.note.new.self ≡ slice_set c.args.self.now.approaches c.args.vehicle (call_of i (params_of r.message.body)) = c.note.ensures ∙ ap (λ o. slice_set c.args.self.now.approaches c.args.vehicle o) c.call_in.ensures.call in
    let told : Tells i c.args.vehicle c.args.place k c.args.self.now = subst (λ p. Tells i c.args.vehicle p k c.args.self.now) (sym managed.3) (tells i n h c.args.vehicle moment c.args.self.now m c.requires.vehicle) in
    let said : c.answer_fresh-reply.result ≡ answer_fresh i k r.message.body
    = c.answer_fresh-reply.ensures.reply k (tells_noted _ _ _ _ _ _ told) (calling_noted i n h c.args.vehicle moment c.args.self.now r.message m c.requires.vehicle c.note.new.self noted) in
    let size : c.args.self.now.reservations.table.size ≡ i.grid.n = m.desk.reserved.size in
    let gone : (p : Params) → params_of r.message.body ≡ Some p → (t : Trial) → granted_trial (answer_fresh i k r.message.body) ≡ Some t → HasGoneTo i p t.start q
    = λ p asks t named. c.answer_fresh-reply.ensures.gone k p (tells_noted _ _ _ _ _ _ told) asks t (ap granted_trial said ∙ named) in
    let confirmed_so : is_confirm (answer_fresh i k r.message.body) ≡ true = sym (ap is_confirm said) ∙ confirmed in
    rw (c.keep_distance.ensures.rest, size, said) (tiles_granted i n h c.args.vehicle moment c.args.place c.args.self.now r.message q c.answer_fresh-reply.ensures.given m c.requires.vehicle c.requires.fresh c.answer_fresh-reply.ensures.prepared gone confirmed_so)

pub keep-requires-2-clause-ahead : goal.keep-requires-2-clause-ahead
keep-requires-2-clause-ahead g c = λ confirmed.
    let i = c.args.layout.now in
    let n = length c.args.self.now.sessions in
    let r = c.args.prepared in
    let q = c.answer_fresh-reply.new.prepared in
    let managed = c.requires.managed in
    let h = managed.0 in
    let moment = managed.1 in
    let m = managed.2 in
    let k = known_after i h c.args.vehicle moment in
    let noted : c.note.new.self ≡ slice_set c.args.self.now.approaches c.args.vehicle (call_of i (params_of r.message.body)) = c.note.ensures ∙ ap (λ o. slice_set c.args.self.now.approaches c.args.vehicle o) c.call_in.ensures.call in
    let told : Tells i c.args.vehicle c.args.place k c.args.self.now = subst (λ p. Tells i c.args.vehicle p k c.args.self.now) (sym managed.3) (tells i n h c.args.vehicle moment c.args.self.now m c.requires.vehicle) in
    let said : c.answer_fresh-reply.result ≡ answer_fresh i k r.message.body
    = c.answer_fresh-reply.ensures.reply k (tells_noted _ _ _ _ _ _ told) (calling_noted i n h c.args.vehicle moment c.args.self.now r.message m c.requires.vehicle c.note.new.self noted) in
    let gone : (p : Params) → params_of r.message.body ≡ Some p → (t : Trial) → granted_trial (answer_fresh i k r.message.body) ≡ Some t → HasGoneTo i p t.start q
    = λ p asks t named. c.answer_fresh-reply.ensures.gone k p (tells_noted _ _ _ _ _ _ told) asks t (ap granted_trial said ∙ named) in
    let confirmed_so : is_confirm (answer_fresh i k r.message.body) ≡ true = sym (ap is_confirm said) ∙ confirmed in
    let current : c.args.self.now.reservations.table.current ≡ now_of h moment = m.desk.reserved.current in
    let horizon : c.args.self.now.reservations.table.horizon ≡ i.times.horizon = m.desk.reserved.horizon in
    rw (c.keep_distance.ensures.rest, current, horizon, said) (later_granted i n h c.args.vehicle moment c.args.place c.args.self.now r.message q c.answer_fresh-reply.ensures.given m c.requires.vehicle c.requires.fresh c.answer_fresh-reply.ensures.prepared gone confirmed_so)

pub returns-clause-managed : goal.returns-clause-managed
returns-clause-managed g c = λ h moment m place late.
    let i = c.args.layout.now in
    let n = length c.args.self.now.sessions in
    let r = c.args.prepared in
    let q = c.answer_fresh-reply.new.prepared in
    let k = known_after i h c.args.vehicle moment in
    let noted : c.note.new.self ≡ slice_set c.args.self.now.approaches c.args.vehicle (call_of i (params_of r.message.body)) = c.note.ensures ∙ ap (λ o. slice_set c.args.self.now.approaches c.args.vehicle o) c.call_in.ensures.call in
    let told : Tells i c.args.vehicle c.args.place k c.args.self.now = subst (λ p. Tells i c.args.vehicle p k c.args.self.now) (sym place) (tells i n h c.args.vehicle moment c.args.self.now m c.requires.vehicle) in
    let said : c.answer_fresh-reply.result ≡ answer_fresh i k r.message.body
    = c.answer_fresh-reply.ensures.reply k (tells_noted _ _ _ _ _ _ told) (calling_noted i n h c.args.vehicle moment c.args.self.now r.message m c.requires.vehicle c.note.new.self noted) in
    let gone : (p : Params) → params_of r.message.body ≡ Some p → (t : Trial) → granted_trial (answer_fresh i k r.message.body) ≡ Some t → HasGoneTo i p t.start q
    = λ p asks t named. c.answer_fresh-reply.ensures.gone k p (tells_noted _ _ _ _ _ _ told) asks t (ap granted_trial said ∙ named) in
    managed_next i n h c.args.vehicle moment c.args.place c.args.self.now r.message q c.answer_fresh-reply.ensures.given m c.requires.vehicle c.requires.fresh c.answer_fresh-reply.ensures.prepared gone
    c.answer_fresh-reply.result said place late _
    ((λ j. (c.keep_distance.ensures.rest j).approaches) ∙ c.end_call.ensures c.args.self.now.approaches (params_of r.message.body) noted)
    ((λ j. (c.keep_distance.ensures.rest j).sessions) ∙ c.keep.ensures ∙ ap (λ e. slice_set c.args.self.now.sessions c.args.vehicle (session_after e c.answer_fresh-reply.result (slice_index_or c.args.self.now.sessions c.args.vehicle no_session).next)) c.message.ensures.message)
    (c.keep_distance.ensures.distances ∙ ap (λ (e : Message). distances_with c.args.self.now.distances c.args.self.now.reservations.table.current c.answer_fresh-reply.result (params_of e.body)) c.message.ensures.message)
    (λ j. (c.keep_distance.ensures.rest j).timeline)
    (λ j. (c.keep_distance.ensures.rest j).has_lights)
    (λ j. (c.keep_distance.ensures.rest j).stopped)
    (rw c.keep_distance.ensures.rest at c.keep-2.ensures.rows)
    (rw c.keep_distance.ensures.rest at c.keep-2.ensures.table)
    (rw c.keep_distance.ensures.rest at c.keep-2.ensures.cells)

pub returns-clause-cost : goal.returns-clause-cost
returns-clause-cost g c =
    let managed = c.requires.managed in
    let rows = c.args.self.now.reservations.rows.items in
    let v = c.args.vehicle in
    let next = row_next (row_of rows v) c.args.place c.answer_fresh-reply.new.prepared c.answer_fresh-reply.result in
    let moved : spans_moved (row_of rows v) next (is_changed (row_of rows v) c.answer_fresh-reply.new.prepared c.answer_fresh-reply.result) ≤ rows_exchanged (row_of rows v) next
    = moved_fits c.args.layout.now managed.0 v c.args.place (row_of rows v) c.answer_fresh-reply.new.prepared c.answer_fresh-reply.result (managed.2.desk.reserved.rows v c.requires.vehicle) managed.3 in
    let rows_are : c.keep-2.new.self.rows.items ≡ slice_set rows v next = rw c.keep_distance.ensures.rest at c.keep-2.ensures.rows in
    let there : v < length rows = rw managed.2.desk.reserved.many c.requires.vehicle in
    let row_is : row_of c.keep-2.new.self.rows.items v ≡ next = ap (λ ss. row_of ss v) rows_are ∙ get_or-set_same rows v next None there in
    let kept : c.keep-2.new.steps ≤ c.answer_fresh-reply.new.steps + spans_moved (row_of rows v) next (is_changed (row_of rows v) c.answer_fresh-reply.new.prepared c.answer_fresh-reply.result) = rw c.keep_distance.ensures.rest at c.keep-2.ensures.cost in
    rw row_is (moved_cost _ _ _ _ _ _ kept moved c.answer_fresh-reply.ensures.cost)

pub keep-requires-2-clause-there : goal.keep-requires-2-clause-there
keep-requires-2-clause-there g c = rw (c.keep_distance.ensures.rest, c.requires.managed.2.desk.reserved.many) c.requires.vehicle

pub keep_distance-requires : goal.keep_distance-requires
keep_distance-requires g c = c.requires.managed.2.desk.sixteen

pub returns-clause-timeline : goal.returns-clause-timeline
returns-clause-timeline g c = λ j. (c.keep_distance.ensures.rest j).timeline

pub keep-requires-2-clause-count : goal.keep-requires-2-clause-count
keep-requires-2-clause-count g c = c.requires.count

pub keep-requires-clause-fresh : goal.keep-requires-clause-fresh
keep-requires-clause-fresh g c = rw c.message.ensures.message c.requires.fresh

pub keep-requires-clause-there : goal.keep-requires-clause-there
keep-requires-clause-there g c = c.requires.vehicle

pub returns-clause-pool : goal.returns-clause-pool
returns-clause-pool g c = c.keep-2.ensures.pool

pub answer_fresh-reply-requires-clause-row : goal.answer_fresh-reply-requires-clause-row
answer_fresh-reply-requires-clause-row g c = rw c.requires.managed.2.desk.reserved.many c.requires.vehicle

pub answer_fresh-reply-requires-clause-caller : goal.answer_fresh-reply-requires-clause-caller
answer_fresh-reply-requires-clause-caller g c = c.requires.vehicle

pub call_in-requires-clause-valid : goal.call_in-requires-clause-valid
call_in-requires-clause-valid g c = c.requires.managed.2.valid

pub note-requires-clause-there : goal.note-requires-clause-there
note-requires-clause-there g c = rw c.requires.managed.2.desk.calls_many c.requires.vehicle

pub note-requires-clause-range : goal.note-requires-clause-range
note-requires-clause-range g c = c.call_in.ensures.range

pub answer_fresh-reply-requires-clause-lights : goal.answer_fresh-reply-requires-clause-lights
answer_fresh-reply-requires-clause-lights g c = c.requires.managed.2.desk.lights

pub answer_fresh-reply-requires-clause-size : goal.answer_fresh-reply-requires-clause-size
answer_fresh-reply-requires-clause-size g c = c.requires.managed.2.desk.reserved.size

pub answer_fresh-reply-requires-clause-few : goal.answer_fresh-reply-requires-clause-few
answer_fresh-reply-requires-clause-few g c = rw c.requires.managed.2.desk.reserved.many c.requires.managed.2.few

pub answer_fresh-reply-requires-clause-prepared : goal.answer_fresh-reply-requires-clause-prepared
answer_fresh-reply-requires-clause-prepared g c = c.requires.prepared

pub keep-requires-2-clause-first : goal.keep-requires-2-clause-first
keep-requires-2-clause-first g c = c.answer_fresh-reply.ensures.prepared.first_room ∙ sym c.requires.room

pub keep-requires-2-clause-second : goal.keep-requires-2-clause-second
keep-requires-2-clause-second g c = c.answer_fresh-reply.ensures.prepared.second_room ∙ sym c.requires.room

pub returns-clause-sheets : goal.returns-clause-sheets
returns-clause-sheets g c =
    let rows = c.keep_distance.new.self.reservations.rows.items in
    let v = c.args.vehicle in
    kept_sheets rows c.args.self.now.reservations.rows.items c.keep-2.new.self.rows.items v c.keep-2.new.back.count c.args.back.now.count (row_next (row_of rows v) c.args.place c.answer_fresh-reply.new.prepared c.answer_fresh-reply.result)
    (rw c.requires.managed.2.desk.reserved.many c.requires.vehicle) (λ j. (c.keep_distance.ensures.rest j).reservations.rows.items) c.keep-2.ensures.rows c.keep-2.ensures.sheets
