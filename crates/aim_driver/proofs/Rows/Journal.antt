-- Worked rows: the journal of a drive of two vehicles with lost, repeated and delayed messages, and an order in between.
use Rattle.std.proofs.Common.{ℕ, List, [], ◌∷◌, Some, None, refl}
use Rattle.aim_messages.specs.declared.messages.Body.{Body}
use Rattle.aim_messages.specs.declared.messages.Body.TheVariants as body
use Rattle.aim_messages.specs.declared.replies.Reason.TheVariants as reason
use Rattle.aim_messages.specs.declared.replies.Reply.{Reply}
use Rattle.aim_messages.specs.declared.replies.Reply.TheVariants as reply
use Rattle.aim_messages.specs.declared.entries.Order.TheVariants as order
use Rattle.aim_messages.specs.declared.entries.Act.TheVariants as act
use Rattle.aim_messages.specs.declared.entries.Entry.{Entry}
use Rattle.aim_driver.specs.declared.plans.DrivePlan.{DrivePlan}
use Rattle.aim_driver.specs.declared.links.Fate.TheVariants as fate
use Rattle.aim_driver.specs.Follows.{follows}
use Rattle.aim_driver.specs.Fits.{Fits, AreCallsOf, replies_of}
use Rattle.aim_driver.proofs.FollowLemmas.{follows_fits}
use Rattle.aim_driver.proofs.Rows.{car, granted, plain}

abbrev entry : ℕ → ℕ → ℕ → Body → Reply → Entry
entry v moment seq b r = record { caller = v; moment = moment; act = act.Message (record { seq = seq; body = b }); reply = r }

abbrev switch : Entry
switch = record { caller = 65536; moment = 2; act = act.Order (order.Switch 1); reply = reply.Switched 1502 }

abbrev taken : ℕ → ℕ → Reply
taken step next = reply.Reject (reason.Taken 1 2 step 1) next None

abbrev journal : List Entry
journal =
    entry 1 1 1 (body.Request (car 1 13)) (granted 0 13 23)
    ∷ switch
    ∷ entry 0 3 1 (body.Request (car 0 10)) (taken 14 6)
    ∷ entry 1 4 1 (body.Request (car 1 13)) (granted 0 13 23)
    ∷ entry 0 6 2 (body.Request (car 0 16)) (reply.Reject (reason.Distance 3500) 11 None)
    ∷ entry 1 7 2 (body.Cancel 0) (reply.Ack 0)
    ∷ entry 1 8 3 (body.Request (car 1 20)) (granted 6 20 30)
    ∷ entry 0 11 3 (body.Request (car 0 18)) (taken 21 14)
    ∷ entry 0 14 4 (body.Request (car 0 21)) (taken 24 17)
    ∷ entry 0 17 5 (body.Request (car 0 24)) (granted 9 24 34)
    ∷ entry 1 31 4 (body.Done 6) (reply.Ack 6)
    ∷ entry 0 35 6 (body.Done 9) (reply.Ack 9)
    ∷ []

abbrev second : DrivePlan
second = record plain { first = 1; lead = 12; params = car 1 0; cancel = Some 7 }

-- each vehicle's entries carry just the calls that its driver follows

pub calls_of_the_first : AreCallsOf (follows plain (fate.Lose ∷ []) (fate.Repeat ∷ []) 40 (replies_of journal 0)).1 journal 0
calls_of_the_first = refl

pub calls_of_the_second : AreCallsOf (follows second [] (fate.Delay 4 ∷ []) 40 (replies_of journal 1)).1 journal 1
calls_of_the_second = refl

-- and so its log fits

pub the_first_fits : Fits journal 0 (follows plain (fate.Lose ∷ []) (fate.Repeat ∷ []) 40 (replies_of journal 0)).0
the_first_fits = follows_fits plain (fate.Lose ∷ []) (fate.Repeat ∷ []) 0 40 journal 0 calls_of_the_first

pub the_second_fits : Fits journal 1 (follows second [] (fate.Delay 4 ∷ []) 40 (replies_of journal 1)).0
the_second_fits = follows_fits second [] (fate.Delay 4 ∷ []) 0 40 journal 1 calls_of_the_second
