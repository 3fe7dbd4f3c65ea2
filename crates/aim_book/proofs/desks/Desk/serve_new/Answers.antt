use Rattle.std.proofs.Common.{◌≡◌, ◌+◌, ◌*◌, [], ◌∷◌, ◌++◌, length, ◌∙◌, ap, arith, subst}
use Rattle.aim_messages.specs.declared.entries.Act.TheVariants as act
use Rattle.aim_messages.specs.declared.messages.Message.{Message}
use Rattle.aim_rules.specs.Answer.{answer}
use Rattle.aim_rules.specs.History.{now_of, params_of}
use Rattle.aim_reservations.specs.Rows.{row_of}
use Rattle.aim_book.specs.Costs.{asked_spans, starts_tried}
use Rattle.aim_book.specs.Managed.{IsManaged}
use Rattle.aim_book.specs.Reserved.{rows_exchanged}
use Rattle.aim_book.proofs.AtOnceLemmas.{asked_is}
use Rattle.aim_book.proofs.SameLemmas.{managed_unchanged}
use Rattle.aim_reservations.specs.Keeping.{row_count}
use Rattle.aim_book.proofs.GivenLemmas.{cost_less, sheets_taken, taken_few}
use Rattle.aim_book.proofs.desks.Desk.serve_new.Goals as goal

pub serve_fresh-requires-clause-managed : goal.serve_fresh-requires-clause-managed
serve_fresh-requires-clause-managed g c =
    let m = c.requires.managed in
    (m.0, m.1, managed_unchanged c.args.layout.now m.0 (now_of m.0 m.1) c.args.self.now c.serve_at_once.new.self c.in-Err.ensures.err m.2, m.3)

pub returns-in-Ok-clause-managed : goal.returns-in-Ok-clause-managed
returns-in-Ok-clause-managed g c = λ h moment m place late. c.in-Ok.ensures.managed h moment m late

pub returns-in-Ok-clause-reply : goal.returns-in-Ok-clause-reply
returns-in-Ok-clause-reply g c = λ h moment m place. c.in-Ok.ensures.reply h moment m

pub returns-in-Err-clause-reply : goal.returns-in-Err-clause-reply
returns-in-Err-clause-reply g c = λ h moment m place.
    let before = managed_unchanged c.args.layout.now h (now_of h moment) c.args.self.now c.serve_at_once.new.self c.in-Err.ensures.err m in
    c.serve_fresh.ensures.reply h moment before place ∙ ap (λ (e : Message). answer c.args.layout.now h c.args.vehicle moment (act.Message e)) c.prepare_from-prepared.ensures.message

pub returns-in-Err-clause-managed : goal.returns-in-Err-clause-managed
returns-in-Err-clause-managed g c = λ h moment m place late.
    let i = c.args.layout.now in
    let before = managed_unchanged i h (now_of h moment) c.args.self.now c.serve_at_once.new.self c.in-Err.ensures.err m in
    let many : length c.serve_at_once.new.self.sessions ≡ length c.args.self.now.sessions = (λ j. length (c.in-Err.ensures.err j).sessions) in
    subst (λ (e : Message). IsManaged i (length c.args.self.now.sessions) (h ++ (record { caller = c.args.vehicle; moment = moment; act = act.Message e; reply = c.serve_fresh.result }) ∷ []) (now_of h moment) c.serve_fresh.new.self) c.prepare_from-prepared.ensures.message
    (subst (λ n. IsManaged i n (h ++ (record { caller = c.args.vehicle; moment = moment; act = act.Message c.prepare_from-prepared.result.message; reply = c.serve_fresh.result }) ∷ []) (now_of h moment) c.serve_fresh.new.self) many
    (c.serve_fresh.ensures.managed h moment before place late))

pub returns-in-Err-clause-cost : goal.returns-in-Err-clause-cost
returns-in-Err-clause-cost g c =
    let v = c.args.vehicle in
    let rows : rows_exchanged (row_of c.serve_at_once.new.self.reservations.rows.items v) (row_of c.serve_fresh.new.self.reservations.rows.items v) ≡ rows_exchanged (row_of c.args.self.now.reservations.rows.items v) (row_of c.serve_fresh.new.self.reservations.rows.items v)
    = (λ j. rows_exchanged (row_of (c.in-Err.ensures.err j).reservations.rows.items v) (row_of c.serve_fresh.new.self.reservations.rows.items v)) in
    let asked : starts_tried c.args.layout.now (params_of c.prepare_from-prepared.result.message.body) * (length c.prepare_from-prepared.result.first.spans + length c.prepare_from-prepared.result.second.spans) ≡ asked_spans c.args.layout.now (params_of c.args.message.now.body)
    = asked_is c.args.layout.now c.prepare_from-prepared.result c.prepare_from-prepared.ensures.prepared ∙ ap (λ (e : Message). asked_spans c.args.layout.now (params_of e.body)) c.prepare_from-prepared.ensures.message in
    omega (arith, c.serve_fresh.ensures.cost, c.in-Err.ensures.err_steps, rows, asked)

pub returns-in-Err-clause-sheets : goal.returns-in-Err-clause-sheets
returns-in-Err-clause-sheets g c =
    let v = c.args.vehicle in
    sheets_taken c.serve_fresh.new.back.count (row_count (row_of c.serve_fresh.new.self.reservations.rows.items v)) c.prepare_from-prepared.new.pool.count
    (row_count (row_of c.serve_at_once.new.self.reservations.rows.items v)) c.serve_at_once.new.back.count c.args.pool.now.count (row_count (row_of c.args.self.now.reservations.rows.items v))
    c.serve_fresh.ensures.sheets (ap (λ pool. pool.count) c.prepare_from-prepared.ensures.pool) (ap (λ pool. pool.count) c.in-Err.ensures.err_pool)
    (λ j. row_count (row_of (c.in-Err.ensures.err j).reservations.rows.items v)) c.requires.two

pub returns-in-Err-clause-pool : goal.returns-in-Err-clause-pool
returns-in-Err-clause-pool g c = c.serve_fresh.ensures.pool ∙ ap (λ pool. pool.room) c.prepare_from-prepared.ensures.pool ∙ ap (λ pool. pool.room) c.in-Err.ensures.err_pool

pub returns-in-Err-clause-timeline : goal.returns-in-Err-clause-timeline
returns-in-Err-clause-timeline g c = c.serve_fresh.ensures.timeline ∙ (λ j. (c.in-Err.ensures.err j).timeline)

pub serve_fresh-requires-clause-vehicle : goal.serve_fresh-requires-clause-vehicle
serve_fresh-requires-clause-vehicle g c =
    let many : length c.serve_at_once.new.self.sessions ≡ length c.args.self.now.sessions = (λ j. length (c.in-Err.ensures.err j).sessions) in
    rw many c.requires.vehicle

pub serve_fresh-requires-clause-room : goal.serve_fresh-requires-clause-room
serve_fresh-requires-clause-room g c = ap (λ pool. pool.room) c.prepare_from-prepared.ensures.pool ∙ ap (λ pool. pool.room) c.in-Err.ensures.err_pool ∙ c.requires.room

pub serve_fresh-requires-clause-count : goal.serve_fresh-requires-clause-count
serve_fresh-requires-clause-count g c = taken_few c.prepare_from-prepared.new.pool.count c.serve_at_once.new.back.count c.args.pool.now.count (ap (λ pool. pool.count) c.prepare_from-prepared.ensures.pool) (ap (λ pool. pool.count) c.in-Err.ensures.err_pool) c.requires.count

pub serve_fresh-requires-clause-fresh : goal.serve_fresh-requires-clause-fresh
serve_fresh-requires-clause-fresh g c = rw (c.in-Err.ensures.err, c.prepare_from-prepared.ensures.message) c.requires.fresh

pub serve_fresh-requires-clause-prepared : goal.serve_fresh-requires-clause-prepared
serve_fresh-requires-clause-prepared g c = c.prepare_from-prepared.ensures.prepared

pub prepare_from-prepared-requires-clause-two : goal.prepare_from-prepared-requires-clause-two
prepare_from-prepared-requires-clause-two g c = rw c.in-Err.ensures.err_pool c.requires.two

pub prepare_from-prepared-requires-clause-room : goal.prepare_from-prepared-requires-clause-room
prepare_from-prepared-requires-clause-room g c = ap (λ pool. pool.room) c.in-Err.ensures.err_pool ∙ c.requires.room

pub returns-in-Ok-clause-cost : goal.returns-in-Ok-clause-cost
returns-in-Ok-clause-cost g c = cost_less _ _ _ _ c.serve_at_once.ensures.cost

pub returns-in-Ok-clause-pool : goal.returns-in-Ok-clause-pool
returns-in-Ok-clause-pool g c = c.serve_at_once.ensures.pool

pub returns-in-Ok-clause-timeline : goal.returns-in-Ok-clause-timeline
returns-in-Ok-clause-timeline g c = c.serve_at_once.ensures.timeline

pub returns-in-Ok-clause-sheets : goal.returns-in-Ok-clause-sheets
returns-in-Ok-clause-sheets g c = c.serve_at_once.ensures.sheets

pub serve_at_once-requires-clause-vehicle : goal.serve_at_once-requires-clause-vehicle
serve_at_once-requires-clause-vehicle g c = c.requires.vehicle

pub serve_at_once-requires-clause-managed : goal.serve_at_once-requires-clause-managed
serve_at_once-requires-clause-managed g c = let m = c.requires.managed in (m.0, m.1, m.2)
