-- What contracts see of a client and of a server, and what a journal has of a client's calls.
use Rattle.std.specs.Prelude.{◌≡◌, ℕ, ◌⊎◌, List, [], ◌∷◌, ◌++◌, length, All, Option, Some, Result, Ok, Err}
use mathlib.Core.Option.{some}
use lib.ListN.{get_elem?}
use Rattle.atomic_table.specs.Seated.{TableId}
use Rattle.atomic_table.specs.declared.badge.Badge.{Badge}
use Rattle.crossbeam_channel.specs.declared.flavors.array.Key.{Key}
use Rattle.aim_messages.specs.declared.entries.Act.TheVariants as act
use Rattle.aim_messages.specs.declared.entries.Entry.{Entry}
use Rattle.aim_messages.specs.declared.messages.Message.{Message}
use Rattle.aim_messages.specs.declared.replies.Reply.{Reply}
use Rattle.aim_book.specs.declared.book.Full.{Full}
use Rattle.aim_book.specs.Sheets.{own, sheets_kept}
use Rattle.aim_mail.specs.declared.letter.Letter.{Letter}
use Rattle.aim_mail.specs.declared.letter.MailSetting.{MailSetting}
use Rattle.aim_mail.specs.declared.response.Response.{Response}

abbrev pub Answer : Type 0
Answer = Result Reply Full

-- a call of a client, and its answer
pub record Call : Type 0 where
  pub moment : ℕ
  pub message : Message
  pub answer : Answer

-- the name of a channel for messages of the type
pub record Channel (T : Type 0) : Type 0 where
  pub table : TableId
  pub key : Badge (Key T)

-- What contracts see of a client: the channel on which it asks, and the one on which it is answered; the setting of its
-- mailbox; its vehicle; its calls, in order; and how many sheets the book keeps for it.
pub record ClientModel : Type 0 where
  pub asks_on : Channel Letter
  pub hears_on : Channel Response
  pub setting : Option MailSetting
  pub vehicle : ℕ
  pub calls : List Call
  pub kept : ℕ

-- what contracts see of a server: its setting, the channel on which it is asked, and for each vehicle the one on which it answers
pub record ServerModel : Type 0 where
  pub setting : MailSetting
  pub asked_on : Channel Letter
  pub answers_on : List (Channel Response)

-- the client is one of this mailbox
pub record IsOfMail (m : ServerModel) (c : ClientModel) : Type 0 where
  pub asks_on : c.asks_on ≡ m.asked_on
  pub hears_on : get_elem? m.answers_on c.vehicle ≡ some c.hears_on
  pub setting : c.setting ≡ Some m.setting

-- the client of the vehicle, which has made no call
pub record IsNewClient (m : ServerModel) (vehicle : ℕ) (c : ClientModel) : Type 0 where
  pub own : IsOfMail m c
  pub number : c.vehicle ≡ vehicle
  pub calls : c.calls ≡ []
  pub kept : c.kept ≡ 0

-- the call was answered with a reply
abbrev pub IsReply : Answer → Type 0
IsReply (Ok reply) = Unit {0}
IsReply (Err full) = ⊥

-- the call was answered that the journal is full
abbrev pub IsFull : Answer → Type 0
IsFull (Ok reply) = ⊥
IsFull (Err full) = Unit {0}

-- the entry that a vehicle's call with a reply makes; a call that found the journal full makes none
abbrev pub entry_of : ℕ → ℕ → Message → Answer → List Entry
entry_of vehicle moment message (Ok reply) = (record { caller = vehicle; moment = moment; act = act.Message message; reply = reply }) ∷ []
entry_of vehicle moment message (Err full) = []

-- the entries of a vehicle's calls
abbrev pub entries_of : ℕ → List Call → List Entry
entries_of vehicle [] = []
entries_of vehicle (c ∷ cs) = entry_of vehicle c.moment c.message c.answer ++ entries_of vehicle cs

-- The number kept is 1 where the client's calls with a reply have a fresh Confirm and no later fresh CANCEL or DONE among
-- them names the last one, else 0.
abbrev pub IsKept : ClientModel → Type 0
IsKept c = c.kept ≡ sheets_kept c.vehicle (entries_of c.vehicle c.calls)

-- What a journal of so much room has of a client. Its calls with a reply come before those that found the journal full,
-- and its vehicle's entries are those calls, in that order, whole and once, each with the reply that it got. Where a call
-- found it full, the journal has as many entries as it has room for.
pub record IsSettled (room : ℕ) (journal : List Entry) (c : ClientModel) : Type 0 where
  pub replied : List Call
  pub refused : List Call
  pub calls : c.calls ≡ replied ++ refused
  pub replies : All (λ call. IsReply call.answer) replied
  pub refusals : All (λ call. IsFull call.answer) refused
  pub entries : own c.vehicle journal ≡ entries_of c.vehicle c.calls
  pub full : (refused ≡ []) ⊎ (length journal ≡ room)
  pub kept : c.kept ≡ sheets_kept c.vehicle (own c.vehicle journal)

-- the client is of the same mailbox and vehicle as before
pub record IsSameClient (old new : ClientModel) : Type 0 where
  pub asks_on : new.asks_on ≡ old.asks_on
  pub hears_on : new.hears_on ≡ old.hears_on
  pub setting : new.setting ≡ old.setting
  pub vehicle : new.vehicle ≡ old.vehicle
