-- Worked rows: what is refused of a run of events.
use Rattle.std.proofs.Common.{◌≡◌, ℕ, List, [], ◌∷◌, refl, arith}
use Rattle.aim_messages.specs.declared.messages.Body.TheVariants as body
use Rattle.aim_messages.specs.declared.entries.Act.TheVariants as act
use Rattle.aim_messages.specs.declared.entries.Entry.{Entry}
use Rattle.aim_messages.specs.declared.entries.Order.TheVariants as order
use Rattle.aim_messages.specs.declared.entries.TheConstants.{OPERATOR}
use Rattle.aim_messages.specs.declared.replies.Reply.{Reply}
use Rattle.aim_messages.specs.declared.replies.Reply.TheVariants as reply
use Rattle.aim_layout.specs.Intersection.{Intersection}
use Rattle.aim_mail_script.specs.declared.scripts.Event.{Event}
use Rattle.aim_mail_command.specs.Runs.{IsRun}

abbrev done : Reply → Entry
done r = record { caller = 0; moment = 3; act = act.Message (record { seq = 1; body = body.Done 0 }); reply = r }

abbrev stops : Entry
stops = record { caller = OPERATOR; moment = 3; act = act.Order order.Stop; reply = reply.Stopped }

abbrev event : Event
event = record { vehicle = 0; moment = 3; message = record { seq = 1; body = body.Done 0 } }

-- a reply is the answer: a DONE is answered by an Ack
pub answered_otherwise : (i : Intersection) (vehicles : ℕ) (events : List Event) → IsRun i vehicles events (done reply.Stopped ∷ []) → ⊥
answered_otherwise i vehicles events x =
    let is : reply.Stopped ≡ reply.Ack 0 = x.legal.answered 0 (done reply.Stopped) (omega arith) in
    cc is

-- no order is given
pub ordered : (i : Intersection) (vehicles : ℕ) (events : List Event) → IsRun i vehicles events (stops ∷ []) → ⊥
ordered i vehicles events x = cc x.operator

-- an event is called with
pub lost_event : (i : Intersection) → IsRun i 1 (event ∷ []) [] → ⊥
lost_event i x = cc (x.each 0 (omega arith))

-- and once
pub twice : (i : Intersection) (vehicles : ℕ) → IsRun i vehicles (event ∷ []) (done (reply.Ack 0) ∷ done (reply.Ack 0) ∷ []) → ⊥
twice i vehicles x = cc x.count
