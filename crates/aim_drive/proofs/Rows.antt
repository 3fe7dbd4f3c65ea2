-- Worked rows: a drive of no steps, and what the headline refuses.
use Prim.Native.Nat.{zero, suc}
use Rattle.std.proofs.Common.{◌≡◌, ◌≢◌, ℕ, ◌<◌, ◌≤◌, true, false, true≢false, List, [], ◌∷◌, Option, Some, None, refl, sym, ap, ◌∙◌, arith}
use Rattle.std.specs.Prelude.{option_map, slice_get}
use Rattle.aim_messages.specs.declared.entries.Act.TheVariants as act
use Rattle.aim_messages.specs.declared.entries.Entry.{Entry}
use Rattle.aim_messages.specs.declared.entries.Order.TheVariants as order
use Rattle.aim_messages.specs.declared.entries.TheConstants.{OPERATOR}
use Rattle.aim_messages.specs.declared.messages.Body.TheVariants as body
use Rattle.aim_messages.specs.declared.replies.Reply.TheVariants as reply
use Rattle.aim_geometry.specs.Cells.{Cell}
use Rattle.aim_layout.specs.Intersection.{Intersection}
use Rattle.aim_rules.proofs.Rows.{crossing, lights, small}
use Rattle.aim_driver.specs.declared.logs.LogItem.{LogItem}
use Rattle.aim_driver.specs.declared.logs.LogItem.TheVariants as item
use Rattle.aim_driver.specs.Follows.{Call}
use Rattle.aim_driver.proofs.Rows.{car, plain}
use Rattle.aim_driver.specs.declared.orders.Ordered.{Ordered}
use Rattle.aim_drive_script.specs.Said.{Drive}
use Rattle.aim_safety.specs.Occupied.{Passage, is_occupied}
use Rattle.aim_safety.proofs.PlaceLemmas.{legal_at}
use Rattle.aim_safety.proofs.Rows.Drives.{h}
use Rattle.aim_safety.proofs.Rows.Reserved.{no_reservation}
use Rattle.aim_agents.specs.Runs.{InRun}
use Rattle.aim_agents.specs.Went.{Carry}
use Rattle.aim_drive.specs.Headline.{VehicleLog, IsFollowed, Headline}

abbrev drive : ℕ → Drive
drive v = record { vehicle = v; plan = plain; up = []; down = [] }

abbrev asks : ℕ → ℕ → Entry
asks v moment = record { caller = v; moment = moment; act = act.Message (record { seq = 1; body = body.Request (car 0 10) }); reply = reply.Ack 0 }

abbrev stops : ℕ → Entry
stops moment = record { caller = OPERATOR; moment = moment; act = act.Order order.Stop; reply = reply.Ack 0 }

-- in no steps nothing is done
pub no_steps : IsFollowed 0 [] (drive 0) []
no_steps = record { calls = []; course = refl; carried = refl }

abbrev first_call : Call
first_call = record { moment = 0; message = record { seq = 1; body = body.Request (car 0 10) } }

calls_after : (calls : List Call) → Carry [] calls → calls ≡ []
calls_after [] is = refl
calls_after (x ∷ xs) is = absurd (cc is)

call_is_there : (calls : List Call) → calls ≡ [] → first_call ∷ [] ≡ calls → ⊥
call_is_there calls none one = cc (none, one)

-- a driver whose plan begins with the first step has a call in it: an empty journal is refused
pub idle_agents : (i : Intersection) (vehicles size : ℕ) (orders : List Ordered) (log : List LogItem) → Headline i vehicles 1 size (drive 0 ∷ []) orders [] ((0, log) ∷ []) → ⊥
idle_agents i vehicles size orders log x =
    let f = x.followed 0 (drive 0) (0, log) refl refl in
    call_is_there f.calls (calls_after f.calls f.carried) (ap (λ (p : List LogItem × List Call). p.1) f.course)

no_drive : (n k : ℕ) (d : Drive) → slice_get [] k ≡ Some d → d.vehicle ≢ n
no_drive n zero d is = λ e. absurd (cc is)
no_drive n (suc k) d is = λ e. absurd (cc is)

-- a vehicle that isn't driven has no entry
pub stranger : (i : Intersection) (vehicles until size : ℕ) (orders : List Ordered) (logs : List VehicleLog) → Headline i vehicles until size [] orders (asks 1 2 ∷ []) logs → ⊥
stranger i vehicles until size orders logs x = cc (x.others 1 (λ e. absurd (cc e)) (no_drive 1))

-- an order is given
pub lost_order : (i : Intersection) (vehicles until size : ℕ) (drives : List Drive) (logs : List VehicleLog) → Headline i vehicles until size drives ((record { moment = 2; order = order.Stop }) ∷ []) [] logs → ⊥
lost_order i vehicles until size drives logs x = cc x.given

-- a log is told of its own vehicle
pub other_vehicle : (i : Intersection) (vehicles until size : ℕ) (orders : List Ordered) (h : List Entry) (log : List LogItem) → Headline i vehicles until size (drive 0 ∷ []) orders h ((1, log) ∷ []) → ⊥
other_vehicle i vehicles until size orders h log x = cc x.whose

-- moments don't fall
pub falling : (i : Intersection) (vehicles until size : ℕ) (drives : List Drive) (orders : List Ordered) (logs : List VehicleLog) → Headline i vehicles until size drives orders (asks 0 3 ∷ asks 1 2 ∷ []) logs → ⊥
falling i vehicles until size drives orders logs x =
    let le : 3 ≤ 2 = x.moments 0 1 (asks 0 3) (asks 1 2) refl refl (omega arith) in
    absurd (omega arith)

-- the orders of a moment come first
pub late_order : (i : Intersection) (vehicles until size : ℕ) (drives : List Drive) (orders : List Ordered) (logs : List VehicleLog) → Headline i vehicles until size drives orders (asks 0 3 ∷ stops 3 ∷ []) logs → ⊥
late_order i vehicles until size drives orders logs x = cc (x.orders_first 0 1 (asks 0 3) (stops 3) refl refl (omega arith) refl refl)

-- a driver that entered crosses: on an id that no entry has nobody enters
pub entered_on_nothing : (i : Intersection) (vehicles until size : ℕ) (drives : List Drive) (orders : List Ordered) → Headline i vehicles until size drives orders [] ((0, item.Entered 10 0 ∷ []) ∷ []) → ⊥
entered_on_nothing i vehicles until size drives orders x =
    let crossed = x.crosses 0 (0, item.Entered 10 0 ∷ []) (record { step = 10; id = 0 }) refl refl in
    let none : None ≡ Some crossed.entry = crossed.granted.stands in
    cc none

-- nor on the entry of another vehicle
pub entered_on_anothers : (i : Intersection) (vehicles until size : ℕ) (drives : List Drive) (orders : List Ordered) → Headline i vehicles until size drives orders (asks 1 2 ∷ []) ((0, item.Entered 10 0 ∷ []) ∷ []) → ⊥
entered_on_anothers i vehicles until size drives orders x =
    let crossed = x.crosses 0 (0, item.Entered 10 0 ∷ []) (record { step = 10; id = 0 }) refl refl in
    let callers : ◌≡◌ {A = Option ℕ} (Some 1) (Some crossed.entry.caller) = ap (option_map (λ (e : Entry). e.caller)) crossed.granted.stands in
    let one : 1 ≡ crossed.entry.caller = cc callers in
    let zero_is = crossed.granted.own in
    absurd (omega (arith, one, zero_is))

-- an entry's reply is the answer: a stop is answered so
pub answered_otherwise : (i : Intersection) (vehicles until size : ℕ) (drives : List Drive) (orders : List Ordered) (logs : List VehicleLog) → Headline i vehicles until size drives orders (stops 3 ∷ []) logs → ⊥
answered_otherwise i vehicles until size drives orders logs x =
    let is : reply.Ack 0 ≡ reply.Stopped = legal_at i vehicles (stops 3 ∷ []) 0 (stops 3) x.legal refl in
    cc is

-- calls of one moment and of one run stand in the order of the plans
pub out_of_turn : (i : Intersection) (vehicles until : ℕ) (orders : List Ordered) (logs : List VehicleLog) → Headline i vehicles until 2 (drive 0 ∷ drive 1 ∷ []) orders (asks 1 3 ∷ asks 0 3 ∷ []) logs → ⊥
out_of_turn i vehicles until orders logs x =
    let run : InRun 2 0 1 = record { run = 0; first = omega arith; order = omega arith; last = omega arith } in
    let lt : 1 < 0 = x.runs 0 1 (drive 0) (drive 1) run refl refl 1 0 (asks 0 3) (asks 1 3) refl refl refl refl refl in
    absurd (omega arith)

-- each tile on which a driver is was reserved for it, and not by the Confirm of another vehicle
pub on_anothers_tile : (vehicles until size : ℕ) (drives : List Drive) (orders : List Ordered) → Headline small vehicles until size drives orders h ((1, item.Entered 24 9 ∷ []) ∷ []) → ⊥
on_anothers_tile vehicles until size drives orders x =
    let c : Cell = record { row = 1; col = 0; step = 24 } in
    no_reservation c (x.reserved 0 (1, item.Entered 24 9 ∷ []) c refl refl)

-- two Confirms that no manager gives: both crossings need the tile of row 1 and column 2 in step 14
abbrev pub crossed : List Entry
crossed =
    record { caller = 0; moment = 0; act = act.Message (record { seq = 1; body = body.Request (car 0 10) }); reply = reply.Confirm 0 10 0 0 false 20 }
    ∷ record { caller = 1; moment = 1; act = act.Message (record { seq = 1; body = body.Request (car 1 13) }); reply = reply.Confirm 1 13 0 0 false 23 } ∷ []

abbrev pub common : Cell
common = record { row = 1; col = 2; step = 14 }

pub the_first_is_there : is_occupied small crossed (item.Entered 10 0 ∷ []) common ≡ true
the_first_is_there = refl

pub so_is_the_second : is_occupied small crossed (item.Entered 13 1 ∷ []) common ≡ true
so_is_the_second = refl

-- no two drivers are on one tile in one step
pub on_one_tile : (vehicles until size : ℕ) (drives : List Drive) (orders : List Ordered) → Headline small vehicles until size drives orders crossed ((0, item.Entered 10 0 ∷ []) ∷ (1, item.Entered 13 1 ∷ []) ∷ []) → ⊥
on_one_tile vehicles until size drives orders x =
    true≢false (sym so_is_the_second ∙ x.apart 0 1 (0, item.Entered 10 0 ∷ []) (1, item.Entered 13 1 ∷ []) refl refl (λ e. absurd (cc e)) common the_first_is_there)

-- a crossing with lights from the first step on: in the steps from 120 to 199 lane 1 is green
abbrev pub lit : Intersection
lit = crossing (record { horizon = 1500; longest = 25; clearance = 20; early = 0; late = 0; edge = 0; window = 0 }) (lights ∷ [])

-- a Confirm for a car of lane 0 in these steps
abbrev pub unlit : List Entry
unlit = record { caller = 0; moment = 0; act = act.Message (record { seq = 1; body = body.Request (car 0 130) }); reply = reply.Confirm 0 130 0 0 false 140 } ∷ []

-- no driver is on a tile that the green of another lane claims then
pub in_anothers_green : (vehicles until size : ℕ) (drives : List Drive) (orders : List Ordered) → Headline lit vehicles until size drives orders unlit ((0, item.Entered 130 0 ∷ []) ∷ []) → ⊥
in_anothers_green vehicles until size drives orders x =
    let c : Cell = record { row = 1; col = 2; step = 133 } in
    let t : Passage = record { step = 130; grant = record { params = car 0 130; fast = false } } in
    let none : Some 1 ≡ None = x.clear 0 (0, item.Entered 130 0 ∷ []) t c refl refl refl in
    cc none
