-- What a caller of the shared manager has seen, and what a call does to it.
use Rattle.std.specs.Prelude.{◌≡◌, ℕ, ◌≤◌, List, [], ◌∷◌, ◌++◌, length, Result, MatchResult}
use Rattle.std.specs.List.{range_with_len}
use Rattle.aim_messages.specs.declared.entries.Act.{Act}
use Rattle.aim_messages.specs.declared.entries.Entry.{Entry}
use Rattle.aim_messages.specs.declared.entries.TheConstants.{OPERATOR}
use Rattle.aim_messages.specs.declared.replies.Reply.{Reply}
use Rattle.aim_book.specs.declared.book.Full.{Full}
use Rattle.aim_rules.specs.Answer.{answer}
use Rattle.aim_rules.specs.Legal.{IsLegal}
use Rattle.aim_turnstile.specs.History.{entries_of, Begins}
use Rattle.aim_turnstile.specs.Models.{PassModel, FrontModel}
use Rattle.aim_manager.specs.declared.keeper.BookSetting.{BookSetting}

-- the caller of an entry
abbrev pub caller_of : Entry → ℕ
caller_of e = e.caller

-- the numbers of all callers: the vehicles, and the operator
abbrev pub callers : ℕ → List ℕ
callers vehicles = range_with_len 0 vehicles ++ OPERATOR ∷ []

-- the history is legal, and has at most as many entries as there is room for
abbrev pub IsLawful : BookSetting → List Entry → Type 0
IsLawful s h = IsLegal s.layout s.vehicles h × (length h ≤ s.room)

-- A call extends a pass: what is seen is then a legal history that begins with what was seen, and ends with the call's
-- entry, whose reply is the answer after the entries before it. The pass's own entries are one more.
pub record Extends (s : BookSetting) (moment : ℕ) (what : Act) (reply : Reply) (old new : PassModel BookSetting Entry) : Type 0 where
  pub before : List Entry
  pub begins : Begins old.seen before
  pub answered : reply ≡ answer s.layout before old.number moment what
  pub seen : new.seen ≡ before ++ (record { caller = old.number; moment = moment; act = what; reply = reply }) ∷ []
  pub mine : new.mine ≡ old.mine ++ (record { caller = old.number; moment = moment; act = what; reply = reply }) ∷ []
  pub own : entries_of caller_of old.number before ≡ old.mine
  pub whole : entries_of caller_of new.number new.seen ≡ new.mine
  pub lawful : IsLawful s new.seen

-- A call finds the journal full: what is seen is then a legal history of as many entries as there is room for, which
-- begins with what was seen. The pass's own entries stay.
pub record FindsFull (s : BookSetting) (old new : PassModel BookSetting Entry) : Type 0 where
  pub begins : Begins old.seen new.seen
  pub full : length new.seen ≡ s.room
  pub mine : new.mine ≡ old.mine
  pub whole : entries_of caller_of new.number new.seen ≡ new.mine
  pub lawful : IsLawful s new.seen

-- a call with its result
abbrev pub IsServed : BookSetting → ℕ → Act → Result Reply Full → PassModel BookSetting Entry → PassModel BookSetting Entry → Type 0
IsServed s moment what result old new = MatchResult result (λ reply. Extends s moment what reply old new) (λ _. FindsFull s old new)

-- After a meeting what is seen is a legal history that begins with what was seen and with what the front shows. The
-- pass's own entries stay.
pub record Meets (s : BookSetting) (old : PassModel BookSetting Entry) (front : FrontModel BookSetting Entry) (new : PassModel BookSetting Entry) : Type 0 where
  pub begins : Begins old.seen new.seen
  pub shows : Begins front.seen new.seen
  pub mine : new.mine ≡ old.mine
  pub whole : entries_of caller_of new.number new.seen ≡ new.mine
  pub lawful : IsLawful s new.seen
