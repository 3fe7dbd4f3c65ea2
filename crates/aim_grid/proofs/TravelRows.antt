-- Worked rows: a route over two crossings, and logs whose driver isn't through.
use Rattle.std.proofs.Common.{◌≡◌, ℕ, ◌<◌, List, [], ◌∷◌, Some, None, refl, arith}
use Rattle.aim_messages.specs.declared.messages.Body.{Body}
use Rattle.aim_messages.specs.declared.messages.Body.TheVariants as body
use Rattle.aim_messages.specs.declared.replies.Reply.TheVariants as reply
use Rattle.aim_driver.specs.declared.plans.DrivePlan.{DrivePlan}
use Rattle.aim_driver.specs.declared.logs.LogItem.{LogItem}
use Rattle.aim_driver.specs.declared.logs.LogItem.TheVariants as item
use Rattle.aim_driver.specs.Follows.{Call, follows}
use Rattle.aim_driver.proofs.Rows.{car, sent, granted, plain}
use Rattle.aim_grid.specs.Acked.{acked, begun_at}
use Rattle.aim_grid.specs.Route.{IsRoute}

abbrev call : ℕ → ℕ → Body → Call
call moment seq b = record { moment = moment; message = record { seq = seq; body = b } }

-- at each crossing the vehicle asks 10 steps ahead: first at step 1, and then 5 steps after it is through

abbrev first_plan : DrivePlan
first_plan = record plain { first = 1 }

abbrev second_plan : DrivePlan
second_plan = record plain { first = 5 }

abbrev pub first_log : List LogItem
first_log =
    sent 1 1 (body.Request (car 0 11)) ∷ item.Got 2 1 (granted 0 11 21) ∷ item.Entered 11 0 ∷ sent 22 2 (body.Done 0) ∷ item.Got 23 2 (reply.Ack 0) ∷ []

abbrev pub second_log : List LogItem
second_log =
    sent 28 1 (body.Request (car 0 38)) ∷ item.Got 29 1 (granted 0 38 48) ∷ item.Entered 38 0 ∷ sent 49 2 (body.Done 0) ∷ item.Got 50 2 (reply.Ack 0) ∷ []

pub first_leg : follows (begun_at 0 first_plan) [] [] 60 (granted 0 11 21 ∷ reply.Ack 0 ∷ [])
    ≡ (first_log, call 1 1 (body.Request (car 0 11)) ∷ call 22 2 (body.Done 0) ∷ [])
first_leg = refl

pub first_is_through : acked first_log ≡ Some 23
first_is_through = refl

pub second_leg : follows (begun_at 23 second_plan) [] [] 60 (granted 0 38 48 ∷ reply.Ack 0 ∷ [])
    ≡ (second_log, call 28 1 (body.Request (car 0 38)) ∷ call 49 2 (body.Done 0) ∷ [])
second_leg = refl

pub in_order : IsRoute (first_log ∷ second_log ∷ [])
in_order = ((23, refl, (omega arith, (omega arith, (omega arith, (omega arith, (omega arith, tt)))))), tt)

-- a leg that isn't begun has an empty log, behind which none is begun
pub not_begun : IsRoute ((sent 1 1 (body.Request (car 0 11)) ∷ []) ∷ [] ∷ [] ∷ [])
not_begun = (tt, (tt, tt))

-- what stands before the Ack is out of order, also where the Ack comes later
pub too_soon : IsRoute (first_log ∷ (sent 23 1 (body.Request (car 0 33)) ∷ []) ∷ []) → ⊥
too_soon r =
    let is : Some 23 ≡ Some r.0.0 = r.0.1 in
    let lt : r.0.0 < 23 = r.0.2.0 in
    absurd (let same : 23 ≡ r.0.0 = cc is in omega arith)

-- its DONE has no answer, or one that is no Ack, or its last answer is to another message

pub not_answered : acked (sent 22 2 (body.Done 0) ∷ []) ≡ None
not_answered = refl

pub stale : acked (sent 22 2 (body.Done 0) ∷ item.Got 23 2 (reply.Stale 3) ∷ []) ≡ None
stale = refl

pub other_number : acked (sent 22 2 (body.Done 0) ∷ item.Got 23 1 (reply.Ack 0) ∷ []) ≡ None
other_number = refl

pub gives_up : acked (sent 22 2 (body.Cancel 0) ∷ item.Got 23 2 (reply.Ack 0) ∷ []) ≡ None
gives_up = refl

-- the first answer tells the step, also where the DONE was sent again
pub sent_again : acked (sent 22 2 (body.Done 0) ∷ sent 25 2 (body.Done 0) ∷ item.Got 26 2 (reply.Ack 0) ∷ item.Got 27 2 (reply.Ack 0) ∷ []) ≡ Some 26
sent_again = refl
