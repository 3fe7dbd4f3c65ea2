-- How a driver's log belongs to a history, which is a list of the manager's entries.
use Rattle.std.specs.Prelude.{◌≡◌, ◌⊎◌, ℕ, ◌≤◌, ◌==◌, List, [], ◌∷◌, map, filter, Option, Some, None, slice_get}
use Rattle.aim_messages.specs.declared.messages.Message.{Message}
use Rattle.aim_messages.specs.declared.replies.Reply.{Reply}
use Rattle.aim_messages.specs.declared.entries.Entry.{Entry}
use Rattle.aim_messages.specs.declared.entries.Act.{Act}
use Rattle.aim_messages.specs.declared.entries.Act.TheVariants as act
use Rattle.aim_driver.specs.declared.logs.LogItem.{LogItem}
use Rattle.aim_driver.specs.declared.logs.LogItem.TheVariants as item
use Rattle.aim_driver.specs.Follows.{Call}

-- the log sent the message, at the moment or before it
abbrev pub WasSent : Message → ℕ → List LogItem → Type 0
WasSent m moment [] = ⊥
WasSent m moment (item.Sent step n ∷ xs) = ((n ≡ m) × (step ≤ moment)) ⊎ WasSent m moment xs
WasSent m moment (item.Got step seq r ∷ xs) = WasSent m moment xs
WasSent m moment (item.Entered step id ∷ xs) = WasSent m moment xs

-- the entry carries a message that the log sent, at a moment not below the step of its first sending
pub record CarriesSent (log : List LogItem) (e : Entry) : Type 0 where
  pub message : Message
  pub carried : e.act ≡ act.Message message
  pub sent : WasSent message e.moment log

-- an entry of the vehicle with a message of that number and with that reply
pub record HasReply (h : List Entry) (v seq : ℕ) (r : Reply) : Type 0 where
  pub place : ℕ
  pub entry : Entry
  pub message : Message
  pub stands : slice_get h place ≡ Some entry
  pub caller : entry.caller ≡ v
  pub carried : entry.act ≡ act.Message message
  pub number : message.seq ≡ seq
  pub told : entry.reply ≡ r

-- a fact of each reply of the log and of its number
abbrev pub EachGot : (ℕ → Reply → Type 0) → List LogItem → Type 0
EachGot P [] = Unit {0}
EachGot P (item.Sent step m ∷ xs) = EachGot P xs
EachGot P (item.Got step seq r ∷ xs) = P seq r × EachGot P xs
EachGot P (item.Entered step id ∷ xs) = EachGot P xs

-- The log fits the history as vehicle v's.
pub record Fits (h : List Entry) (v : ℕ) (log : List LogItem) : Type 0 where
  pub sent : (k : ℕ) (e : Entry) → slice_get h k ≡ Some e → e.caller ≡ v → CarriesSent log e
  pub got : EachGot (HasReply h v) log

-- the vehicle's entries, and what each says of a call: its moment and its message, and its reply

abbrev pub entries_of : List Entry → ℕ → List Entry
entries_of h v = filter (λ e. e.caller == v) h

abbrev pub call_at : ℕ → Act → Option Call
call_at moment (act.Message m) = Some (record { moment = moment; message = m })
call_at moment (act.Order o) = None

abbrev pub call_of : Entry → Option Call
call_of e = call_at e.moment e.act

abbrev pub reply_of : Entry → Reply
reply_of e = e.reply

abbrev pub calls_of : List Entry → ℕ → List (Option Call)
calls_of h v = map call_of (entries_of h v)

abbrev pub replies_of : List Entry → ℕ → List Reply
replies_of h v = map reply_of (entries_of h v)

-- The vehicle's entries carry just these calls, in their order.
abbrev pub AreCallsOf : List Call → List Entry → ℕ → Type 0
AreCallsOf calls h v = calls_of h v ≡ map (λ x. Some x) calls
