-- Worked rows: a route over two crossings, and what is refused of one.
use Rattle.std.proofs.Common.{◌≡◌, ℕ, ◌==◌, false, true≢false, List, [], ◌∷◌, map, if◌then◌else◌, Some, None, refl, sym, ap, ◌∙◌, arith}
use Rattle.aim_messages.specs.declared.entries.Act.TheVariants as act
use Rattle.aim_messages.specs.declared.entries.Entry.{Entry}
use Rattle.aim_messages.specs.declared.messages.Body.{Body}
use Rattle.aim_messages.specs.declared.messages.Body.TheVariants as body
use Rattle.aim_messages.specs.declared.replies.Reply.{Reply}
use Rattle.aim_messages.specs.declared.replies.Reply.TheVariants as reply
use Rattle.aim_geometry.specs.Cells.{Cell}
use Rattle.aim_layout.specs.Intersection.{Intersection}
use Rattle.aim_rules.proofs.Rows.{small}
use Rattle.aim_driver.specs.declared.logs.LogItem.{LogItem}
use Rattle.aim_driver.specs.declared.logs.LogItem.TheVariants as item
use Rattle.aim_driver.specs.Follows.{Call}
use Rattle.aim_driver.proofs.Rows.{car, sent, granted, plain}
use Rattle.aim_driver.proofs.SmallFacts.{none_some, same}
use Rattle.aim_safety.specs.Occupied.{Passage}
use Rattle.aim_safety.proofs.PlaceLemmas.{legal_at}
use Rattle.aim_safety.proofs.Rows.Drives.{h}
use Rattle.aim_safety.proofs.Rows.Reserved.{no_reservation}
use Rattle.aim_drive.specs.Headline.{VehicleLog}
use Rattle.aim_drive.proofs.Rows.{lit, unlit, crossed, common, the_first_is_there, so_is_the_second}
use Rattle.aim_grid_script.specs.declared.routes.PlannedLeg.{PlannedLeg}
use Rattle.aim_grid.specs.Runs.{IsRunOf, planned_of}
use Rattle.aim_grid.specs.Route.{IsRoute}
use Rattle.aim_grid.proofs.TravelRows.{first_log, second_log, too_soon}
use Rattle.aim_grid.specs.Travelled.{Ride, AreLegs, AreTravelled, IsCrossing, journal_in, log_of, logs_at, rides_of}

abbrev ride : ℕ → ℕ → List LogItem → Ride
ride crossing first log = record { vehicle = 0; crossing = crossing; plan = record plain { first = first }; log = log }

abbrev entry : ℕ → ℕ → Body → Reply → Entry
entry moment seq b r = record { caller = 0; moment = moment; act = act.Message (record { seq = seq; body = b }); reply = r }

abbrev call : ℕ → ℕ → Body → Call
call moment seq b = record { moment = moment; message = record { seq = seq; body = b } }

abbrev first_journal : List Entry
first_journal = entry 1 1 (body.Request (car 0 11)) (granted 0 11 21) ∷ entry 22 2 (body.Done 0) (reply.Ack 0) ∷ []

abbrev second_journal : List Entry
second_journal = entry 28 1 (body.Request (car 0 38)) (granted 0 38 48) ∷ entry 49 2 (body.Done 0) (reply.Ack 0) ∷ []

-- at each crossing the vehicle asks 10 steps ahead: first at step 1, and at the second one 5 steps after it is through with the first, at step 23
pub two_crossings : AreLegs 60 (journal_in (first_journal ∷ second_journal ∷ [])) (Some 0) (ride 0 1 first_log ∷ ride 1 5 second_log ∷ [])
two_crossings = (
  record { calls = call 1 1 (body.Request (car 0 11)) ∷ call 22 2 (body.Done 0) ∷ []; course = refl; carried = refl },
  (record { calls = call 28 1 (body.Request (car 0 38)) ∷ call 49 2 (body.Done 0) ∷ []; course = refl; carried = refl }, tt),
)

-- the steps end before it is through with the first: the second leg isn't begun
pub ends_on_the_way : AreLegs 20 (journal_in ((entry 1 1 (body.Request (car 0 11)) (granted 0 11 21) ∷ []) ∷ [] ∷ [])) (Some 0)
    (ride 0 1 (sent 1 1 (body.Request (car 0 11)) ∷ item.Got 2 1 (granted 0 11 21) ∷ item.Entered 11 0 ∷ []) ∷ ride 1 5 [] ∷ [])
ends_on_the_way = (record { calls = call 1 1 (body.Request (car 0 11)) ∷ []; course = refl; carried = refl }, ((refl, refl), tt))

-- who is through goes on: an empty log and an empty journal are refused
pub stays_there : AreLegs 60 (journal_in (first_journal ∷ [] ∷ [])) (Some 0) (ride 0 1 first_log ∷ ride 1 5 [] ∷ []) → ⊥
stays_there legs = cc (ap (λ (p : List LogItem × List Call). p.0) legs.1.0.course)

-- who isn't through begins no further leg
pub goes_ahead : (h : List Entry) (x : LogItem) (log : List LogItem) → AreLegs 60 (journal_in (h ∷ second_journal ∷ [])) (Some 0) (ride 0 1 [] ∷ ride 1 5 (x ∷ log) ∷ []) → ⊥
goes_ahead h x log legs = cc legs.1.0.0

-- and who is through begins it behind the Ack: not as if its steps were counted from the first one
pub counts_from_the_start : AreLegs 60 (journal_in (first_journal ∷ second_journal ∷ [])) (Some 0) (ride 0 1 first_log ∷ ride 1 28 second_log ∷ []) → ⊥
counts_from_the_start legs = cc (ap (λ (p : List LogItem × List Call). p.0) legs.1.0.course)

pub in_order : IsRoute (log_of (ride 0 1 first_log) ∷ log_of (ride 1 5 second_log) ∷ [])
in_order = ((23, refl, (omega arith, (omega arith, (omega arith, (omega arith, (omega arith, tt)))))), tt)

-- one crossing, and what is refused of it

abbrev done : ℕ → Reply → Entry
done v r = record { caller = v; moment = 3; act = act.Message (record { seq = 1; body = body.Done 0 }); reply = r }

-- a reply is the answer: a DONE is answered by an Ack
pub answered_otherwise : (i : Intersection) (vehicles : ℕ) (logs : List VehicleLog) → IsCrossing i vehicles (done 0 reply.Stopped ∷ []) logs → ⊥
answered_otherwise i vehicles logs x =
    let is : reply.Stopped ≡ reply.Ack 0 = legal_at i vehicles (done 0 reply.Stopped ∷ []) 0 (done 0 reply.Stopped) x.legal refl in
    cc is

-- who has no leg there has no entry
pub stranger : (i : Intersection) (vehicles : ℕ) → IsCrossing i vehicles (done 1 (reply.Ack 0) ∷ []) [] → ⊥
stranger i vehicles x = cc (x.others 1 (λ k y at. none_some y at))

-- on an id that no entry has nobody enters
pub entered_on_nothing : (i : Intersection) (vehicles : ℕ) → IsCrossing i vehicles [] ((0, item.Entered 10 0 ∷ []) ∷ []) → ⊥
entered_on_nothing i vehicles x =
    let crossed = x.crosses 0 (0, item.Entered 10 0 ∷ []) (record { step = 10; id = 0 }) refl refl in
    none_some crossed.entry crossed.granted.stands

-- a tile is reserved for its driver by a Confirm of its own
pub on_anothers_tile : (vehicles : ℕ) → IsCrossing small vehicles h ((1, item.Entered 24 9 ∷ []) ∷ []) → ⊥
on_anothers_tile vehicles x =
    let c : Cell = record { row = 1; col = 0; step = 24 } in
    no_reservation c (x.reserved 0 (1, item.Entered 24 9 ∷ []) c refl refl)

-- two drivers are apart
pub on_one_tile : (vehicles : ℕ) → IsCrossing small vehicles crossed ((0, item.Entered 10 0 ∷ []) ∷ (1, item.Entered 13 1 ∷ []) ∷ []) → ⊥
on_one_tile vehicles x =
    true≢false (sym so_is_the_second ∙ x.apart 0 1 (0, item.Entered 10 0 ∷ []) (1, item.Entered 13 1 ∷ []) refl refl (λ e. absurd (cc e)) common the_first_is_there)

-- and clear of another lane's green
pub in_anothers_green : (vehicles : ℕ) → IsCrossing lit vehicles unlit ((0, item.Entered 130 0 ∷ []) ∷ []) → ⊥
in_anothers_green vehicles x =
    let c : Cell = record { row = 1; col = 2; step = 133 } in
    let t : Passage = record { step = 130; grant = record { params = car 0 130; fast = false } } in
    let none : Some 1 ≡ None = x.clear 0 (0, item.Entered 130 0 ∷ []) t c refl refl refl in
    cc none

-- all of them

-- each crossing has a journal
pub no_journal : (i : Intersection) (vehicles until : ℕ) (rides : List Ride) → AreTravelled (i ∷ []) vehicles until [] rides → ⊥
no_journal i vehicles until rides x = cc x.count

-- and is as a crossing is
pub no_crossing : (i : Intersection) (vehicles until : ℕ) (rides : List Ride) → AreTravelled (i ∷ []) vehicles until ((done 0 reply.Stopped ∷ []) ∷ []) rides → ⊥
no_crossing i vehicles until rides x = answered_otherwise i vehicles (logs_at 0 rides) (x.crossings 0 i (done 0 reply.Stopped ∷ []) refl refl)

-- who is through goes on
pub leaves_out_a_leg : (i j : Intersection) (vehicles : ℕ) → AreTravelled (i ∷ j ∷ []) vehicles 60 (first_journal ∷ [] ∷ []) (ride 0 1 first_log ∷ ride 1 5 [] ∷ []) → ⊥
leaves_out_a_leg i j vehicles x = stays_there (x.legs 0)

-- no leg is begun before the one before is over
pub begins_too_soon : (layouts : List Intersection) (vehicles until : ℕ) (hs : List (List Entry)) → AreTravelled layouts vehicles until hs (ride 0 1 first_log ∷ ride 1 0 (sent 23 1 (body.Request (car 0 33)) ∷ []) ∷ []) → ⊥
begins_too_soon layouts vehicles until hs x = too_soon (x.routes 0)

-- a run has a list of logs of each crossing
pub no_logs : (i : Intersection) (vehicles until : ℕ) (legs : List PlannedLeg) (hs : List (List Entry)) → IsRunOf (i ∷ []) vehicles until legs hs [] → ⊥
no_logs i vehicles until legs hs x = cc x.count

-- its crossings are as they are travelled
pub not_travelled : (i : Intersection) (vehicles until : ℕ) (legs : List PlannedLeg) (logs : List (List VehicleLog)) → IsRunOf (i ∷ []) vehicles until legs ((done 0 reply.Stopped ∷ []) ∷ []) logs → ⊥
not_travelled i vehicles until legs logs x = no_crossing i vehicles until x.rides x.travelled

-- nobody goes but on a leg
pub nobody_was_to_go : (layouts : List Intersection) (vehicles until : ℕ) (hs : List (List Entry)) (l : VehicleLog) (xs : List VehicleLog) (more : List (List VehicleLog)) → IsRunOf layouts vehicles until [] hs ((l ∷ xs) ∷ more) → ⊥
nobody_was_to_go layouts vehicles until hs l xs more x = go x.rides (x.there 0 (l ∷ xs) refl) x.planned
  where
    go : (rides : List Ride) → l ∷ xs ≡ logs_at 0 rides → ((v : ℕ) → map planned_of (rides_of v rides) ≡ []) → ⊥
    go [] there planned = cc there
    go (r ∷ rs) there planned =
        let first : rides_of r.vehicle (r ∷ rs) ≡ r ∷ rides_of r.vehicle rs = ap (λ b. if b then r ∷ rides_of r.vehicle rs else rides_of r.vehicle rs) (same r.vehicle) in
        cc (sym (ap (map planned_of) first) ∙ planned r.vehicle)
