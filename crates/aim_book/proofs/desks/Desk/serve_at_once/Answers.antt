use Rattle.std.proofs.Common.{◌≡◌, length, sym, ◌∙◌, ap, refl}
use Rattle.std.specs.Prelude.{slice_set}
use Rattle.aim_sessions.specs.Calls.{call_of}
use Rattle.aim_rules.specs.History.{fresh, now_of, params_of}
use Rattle.aim_rules.specs.Known.{known_after}
use Rattle.aim_book.proofs.ManagedLemmas.{answer_new, tells}
use Rattle.aim_book.proofs.ServedLemmas.{managed_without, row_room, row_tiles}
use Rattle.aim_book.proofs.GivenLemmas.{few_more, given_cost, given_sheets, no_less}
use Rattle.aim_book.proofs.desks.Desk.serve_at_once.Goals as goal

pub give_up-requires-clause-own : goal.give_up-requires-clause-own
give_up-requires-clause-own g c =
    let m = c.requires.managed in
    rw c.keep_distance.ensures.rest (row_tiles c.args.layout.now (length c.args.self.now.sessions) (fresh m.0) (now_of m.0 m.1) c.args.vehicle c.args.self.now.reservations m.2.desk.reserved c.requires.vehicle)

pub give_up-requires-clause-room : goal.give_up-requires-clause-room
give_up-requires-clause-room g c =
    let m = c.requires.managed in
    rw (c.keep_distance.ensures.rest, c.requires.room) (row_room c.args.layout.now (length c.args.self.now.sessions) (fresh m.0) (now_of m.0 m.1) c.args.vehicle c.args.self.now.reservations m.2.desk.reserved c.requires.vehicle)

pub returns-clause-reply : goal.returns-clause-reply
returns-clause-reply g c = λ h moment m.
    let i = c.args.layout.now in
    let n = length c.args.self.now.sessions in
    let v = c.args.vehicle in
    let told = tells i n h v moment c.args.self.now m c.requires.vehicle in
    c.in_ok-reply.ensures.reply (known_after i h v moment) (length h) told
    ∙ sym (answer_new i n h v moment c.args.self.now m c.requires.vehicle c.args.message.now c.requires.fresh)

pub returns-clause-managed : goal.returns-clause-managed
returns-clause-managed g c = λ h moment m late.
    let i = c.args.layout.now in
    let n = length c.args.self.now.sessions in
    let v = c.args.vehicle in
    let told = tells i n h v moment c.args.self.now m c.requires.vehicle in
    let noted : c.note.new.self ≡ slice_set c.args.self.now.approaches v (call_of i (params_of c.args.message.now.body)) = c.note.ensures ∙ ap (λ o. slice_set c.args.self.now.approaches v o) c.in_ok-call.ensures.call in
    managed_without i n h v moment c.args.self.now c.args.message.now m c.requires.vehicle c.requires.fresh
    c.in_ok-reply.reply (c.in_ok-reply.ensures.reply (known_after i h v moment) (length h) told) late (c.in_ok-reply.ensures.refused (known_after i h v moment) (length h) told)
    _
    ((λ j. (c.keep_distance.ensures.rest j).approaches) ∙ noted)
    ((λ j. (c.keep_distance.ensures.rest j).sessions) ∙ c.keep.ensures)
    c.keep_distance.ensures.distances
    (λ j. (c.keep_distance.ensures.rest j).timeline)
    (λ j. (c.keep_distance.ensures.rest j).has_lights)
    (λ j. (c.keep_distance.ensures.rest j).stopped)
    (rw (c.keep_distance.ensures.rest, c.given_up-id.ensures) at c.give_up.ensures.rows)
    (rw c.keep_distance.ensures.rest at c.give_up.ensures.table)
    (rw (c.keep_distance.ensures.rest, c.given_up-id.ensures) at c.give_up.ensures.cells)

pub returns-clause-sheets : goal.returns-clause-sheets
returns-clause-sheets g c =
    let d = c.requires.managed.2.desk in
    let old = c.args.self.now.reservations.rows.items in
    given_sheets c.keep_distance.new.self.reservations.rows.items old c.give_up.new.self.rows.items c.args.vehicle c.given_up-id.result c.give_up.new.back.count c.args.back.now.count
    (rw d.reserved.many c.requires.vehicle) (λ j. (c.keep_distance.ensures.rest j).reservations.rows.items) c.give_up.ensures.rows (ap (λ pool. pool.count) c.give_up.ensures.pool)

pub returns-clause-cost : goal.returns-clause-cost
returns-clause-cost g c =
    let d = c.requires.managed.2.desk in
    let old = c.args.self.now.reservations.rows.items in
    given_cost c.keep_distance.new.self.reservations.rows.items old c.give_up.new.self.rows.items c.args.vehicle c.given_up-id.result c.give_up.new.steps c.args.steps.now
    (rw d.reserved.many c.requires.vehicle) (λ j. (c.keep_distance.ensures.rest j).reservations.rows.items) c.give_up.ensures.rows c.give_up.ensures.cost

pub returns-clause-pool : goal.returns-clause-pool
returns-clause-pool g c = ap (λ pool. pool.room) c.give_up.ensures.pool

pub returns-clause-timeline : goal.returns-clause-timeline
returns-clause-timeline g c = λ j. (c.keep_distance.ensures.rest j).timeline

pub returns-clause-err : goal.returns-clause-err
returns-clause-err g c = tt

pub returns-clause-err_pool : goal.returns-clause-err_pool
returns-clause-err_pool g c = tt

pub returns-clause-err_steps : goal.returns-clause-err_steps
returns-clause-err_steps g c = tt

pub give_up-requires-clause-there : goal.give_up-requires-clause-there
give_up-requires-clause-there g c = rw (c.keep_distance.ensures.rest, c.requires.managed.2.desk.reserved.many) c.requires.vehicle

pub give_up-requires-clause-count : goal.give_up-requires-clause-count
give_up-requires-clause-count g c = few_more c.args.back.now.count c.requires.count

pub keep_distance-requires : goal.keep_distance-requires
keep_distance-requires g c = c.requires.managed.2.desk.sixteen

pub keep-requires-clause-there : goal.keep-requires-clause-there
keep-requires-clause-there g c = c.requires.vehicle

pub keep-requires-clause-fresh : goal.keep-requires-clause-fresh
keep-requires-clause-fresh g c = c.requires.fresh

pub call_at_once-requires-clause-valid : goal.call_at_once-requires-clause-valid
call_at_once-requires-clause-valid g c = c.requires.managed.2.valid

pub note-requires-clause-there : goal.note-requires-clause-there
note-requires-clause-there g c = rw c.requires.managed.2.desk.calls_many c.requires.vehicle

pub note-requires-clause-range : goal.note-requires-clause-range
note-requires-clause-range g c = c.in_ok-call.ensures.range

pub answer_at_once-requires-clause-caller : goal.answer_at_once-requires-clause-caller
answer_at_once-requires-clause-caller g c = c.requires.vehicle

pub answer_at_once-requires-clause-row : goal.answer_at_once-requires-clause-row
answer_at_once-requires-clause-row g c = rw c.requires.managed.2.desk.reserved.many c.requires.vehicle

pub returns-in_err-call-clause-sheets : goal.returns-in_err-call-clause-sheets
returns-in_err-call-clause-sheets g c = refl

pub returns-in_err-call-clause-timeline : goal.returns-in_err-call-clause-timeline
returns-in_err-call-clause-timeline g c = refl

pub returns-in_err-call-clause-pool : goal.returns-in_err-call-clause-pool
returns-in_err-call-clause-pool g c = refl

pub returns-in_err-call-clause-cost : goal.returns-in_err-call-clause-cost
returns-in_err-call-clause-cost g c = no_less _ _

pub returns-in_err-reply-clause-sheets : goal.returns-in_err-reply-clause-sheets
returns-in_err-reply-clause-sheets g c = refl

pub returns-in_err-reply-clause-timeline : goal.returns-in_err-reply-clause-timeline
returns-in_err-reply-clause-timeline g c = refl

pub returns-in_err-reply-clause-pool : goal.returns-in_err-reply-clause-pool
returns-in_err-reply-clause-pool g c = refl

pub returns-in_err-reply-clause-cost : goal.returns-in_err-reply-clause-cost
returns-in_err-reply-clause-cost g c = no_less _ _
