-- Whole drives: the tiles on which their drivers are.
use Rattle.std.proofs.Common.{◌≡◌, ℕ, true, false, List, [], ◌∷◌, ◌++◌, None, refl}
use Rattle.aim_messages.specs.declared.messages.Body.TheVariants as body
use Rattle.aim_messages.specs.declared.messages.Params.{Params}
use Rattle.aim_messages.specs.declared.replies.Reply.{Reply}
use Rattle.aim_messages.specs.declared.replies.Reply.TheVariants as reply
use Rattle.aim_messages.specs.declared.replies.Reason.TheVariants as reason
use Rattle.aim_messages.specs.declared.entries.Entry.{Entry}
use Rattle.aim_layout.specs.Intersection.{Intersection}
use Rattle.aim_rules.specs.Journals.{journal}
use Rattle.aim_rules.proofs.Rows.{crossing, plain, lights, siren, small, car, ask, switch, cancel, finish, steady, send}
use Rattle.aim_driver.specs.declared.logs.LogItem.{LogItem}
use Rattle.aim_driver.specs.declared.logs.LogItem.TheVariants as item
use Rattle.aim_driver.specs.Keeps.{keeps}
use Rattle.aim_driver.proofs.Rows.{sent}
use Rattle.aim_safety.specs.Occupied.{is_occupied}
use Rattle.aim_safety.specs.Tiles.{occupied_cells}
use Rattle.aim_safety.proofs.Rows.{on}

-- a drive in which messages are lost, repeated and delayed

abbrev pub h : List Entry
h = journal small (ask 1 1 1 1 13 ∷ switch 2 1 ∷ ask 0 3 1 0 10 ∷ ask 1 4 1 1 13 ∷ ask 0 6 2 0 16 ∷ cancel 1 7 2 0 ∷ ask 1 8 3 1 20 ∷ ask 0 11 3 0 18 ∷ ask 0 14 4 0 21 ∷ ask 0 17 5 0 24 ∷ finish 1 31 4 6 ∷ finish 0 35 6 9 ∷ [])

abbrev taken : ℕ → ℕ → Reply
taken step next = reply.Reject (reason.Taken 1 2 step 1) next None

abbrev pub first : List LogItem
first =
    sent 0 1 (body.Request (car 0 10)) ∷ sent 3 1 (body.Request (car 0 10)) ∷ item.Got 4 1 (taken 14 6) ∷ item.Got 5 1 (taken 14 6)
    ∷ sent 6 2 (body.Request (car 0 16)) ∷ item.Got 7 2 (reply.Reject (reason.Distance 3500) 11 None)
    ∷ sent 11 3 (body.Request (car 0 18)) ∷ item.Got 12 3 (taken 21 14) ∷ sent 14 4 (body.Request (car 0 21)) ∷ item.Got 15 4 (taken 24 17)
    ∷ sent 17 5 (body.Request (car 0 24)) ∷ item.Got 18 5 (steady 9 24 34) ∷ item.Entered 24 9 ∷ sent 35 6 (body.Done 9) ∷ item.Got 36 6 (reply.Ack 9) ∷ []

abbrev pub second : List LogItem
second =
    sent 1 1 (body.Request (car 1 13)) ∷ sent 4 1 (body.Request (car 1 13)) ∷ item.Got 5 1 (steady 0 13 23) ∷ item.Got 6 1 (steady 0 13 23)
    ∷ sent 7 2 (body.Cancel 0) ∷ item.Got 8 2 (reply.Ack 0) ∷ sent 8 3 (body.Request (car 1 20)) ∷ item.Got 9 3 (steady 6 20 30)
    ∷ item.Entered 20 6 ∷ sent 31 4 (body.Done 6) ∷ item.Got 32 4 (reply.Ack 6) ∷ []

pub tiles_of_the_first_driver : occupied_cells small h first ≡ on 1 0 24 5 ++ on 1 1 25 6 ++ on 1 2 27 6 ++ on 1 3 29 6
tiles_of_the_first_driver = refl

pub tiles_of_the_second_driver : occupied_cells small h second ≡ on 0 2 20 5 ++ on 1 2 21 6 ++ on 2 2 23 6 ++ on 3 2 25 6
tiles_of_the_second_driver = refl

-- both need the tile (1, 2): the second driver has left it in step 26, and the first comes to it in step 27
pub the_second_driver_leaves : is_occupied small h second (record { row = 1; col = 2; step = 27 }) ≡ false
the_second_driver_leaves = refl

-- before it entered it is nowhere, though it was granted a crossing
pub granted_but_not_entered : occupied_cells small h (sent 1 1 (body.Request (car 1 13)) ∷ item.Got 2 1 (steady 0 13 23) ∷ []) ≡ []
granted_but_not_entered = refl

-- what begins a crossing is a Confirm of the history and nothing else

pub entered_on_no_entry : occupied_cells small h (item.Entered 24 12 ∷ []) ≡ []
entered_on_no_entry = refl

pub entered_on_an_order : occupied_cells small h (item.Entered 24 1 ∷ []) ≡ []
entered_on_an_order = refl

pub entered_on_a_refusal : occupied_cells small h (item.Entered 24 2 ∷ []) ≡ []
entered_on_a_refusal = refl

pub entered_on_a_cancel : occupied_cells small h (item.Entered 24 5 ∷ []) ≡ []
entered_on_a_cancel = refl

-- a Confirm that no manager gives: the speed is above the greatest
abbrev wrong : Params
wrong = let p = car 0 10 in record p { speed = 600 }

pub entered_on_wrong_params : occupied_cells small (record { caller = 0; moment = 0; act = (send 0 0 1 (body.Request wrong)).act; reply = steady 0 10 20 } ∷ []) (item.Entered 10 0 ∷ []) ≡ []
entered_on_wrong_params = refl

-- the first time that it entered counts
pub entered_twice : occupied_cells small h (item.Entered 24 9 ∷ item.Entered 20 6 ∷ []) ≡ occupied_cells small h first
entered_twice = refl

-- a driver that enters a step early

abbrev pub windows : Intersection
windows = crossing (record { horizon = 1500; longest = 25; clearance = 20; early = 1; late = 3; edge = 4; window = 0 }) (plain ∷ lights ∷ siren ∷ [])

abbrev pub early_history : List Entry
early_history = journal windows (ask 0 0 1 0 10 ∷ finish 0 20 2 0 ∷ [])

abbrev pub early : List LogItem
early = sent 0 1 (body.Request (car 0 10)) ∷ item.Got 1 1 (reply.Confirm 0 10 1 3 false 20) ∷ item.Entered 9 0 ∷ sent 20 2 (body.Done 0) ∷ item.Got 21 2 (reply.Ack 0) ∷ []

pub keeps_the_rules_early : keeps early ≡ true
keeps_the_rules_early = refl

pub tiles_of_an_early_driver : occupied_cells windows early_history early ≡ on 1 0 9 5 ++ on 1 1 10 6 ++ on 1 2 12 6 ++ on 1 3 14 6
tiles_of_an_early_driver = refl

-- a driver that enters on an old Confirm: its log breaks the rules, and it is where another driver is
abbrev breaks : List LogItem
breaks = sent 0 1 (body.Request (car 0 10)) ∷ item.Got 1 1 (steady 0 10 20) ∷ sent 2 2 (body.Cancel 0) ∷ item.Got 3 2 (reply.Ack 0) ∷ item.Entered 10 0 ∷ []

abbrev follows_on : List LogItem
follows_on = sent 3 1 (body.Request (car 1 13)) ∷ item.Got 4 1 (steady 2 13 23) ∷ item.Entered 13 2 ∷ []

abbrev given_up : List Entry
given_up = journal small (ask 0 0 1 0 10 ∷ cancel 0 2 2 0 ∷ ask 1 3 1 1 13 ∷ [])

pub breaks_the_rules : keeps breaks ≡ false
breaks_the_rules = refl

pub keeps_the_rules : keeps follows_on ≡ true
keeps_the_rules = refl

pub it_is_there : is_occupied small given_up breaks (record { row = 1; col = 2; step = 14 }) ≡ true
it_is_there = refl

pub and_so_is_the_other : is_occupied small given_up follows_on (record { row = 1; col = 2; step = 14 }) ≡ true
and_so_is_the_other = refl
