-- The answers to numbers that are not fresh.
use Rattle.std.proofs.Common.{◌≡◌, ℕ, ◌<◌, Bool, true, false, List, length, Option, Some, None, refl, subst, get_or}
use Rattle.std.specs.Prelude.{if◌then◌else◌, nat_lt, option_map}
use Rattle.aim_messages.specs.declared.messages.Message.{Message}
use Rattle.aim_messages.specs.declared.entries.Act.TheVariants as act
use Rattle.aim_messages.specs.declared.entries.Entry.{Entry}
use Rattle.aim_messages.specs.declared.replies.Reply.{Reply}
use Rattle.aim_messages.specs.declared.replies.Reply.TheVariants as reply
use Rattle.aim_messages.specs.declared.replies.Reason.TheVariants as reason
use Rattle.aim_messages.specs.Same.{same_message}
use Rattle.aim_layout.specs.Intersection.{Intersection}
use Rattle.aim_rules.specs.Answer.{answer, answer_fresh, answer_message}
use Rattle.aim_rules.specs.Asking.{standing_next}
use Rattle.aim_rules.specs.History.{fresh, now_of}
use Rattle.aim_rules.specs.Holds.{holds}
use Rattle.aim_rules.specs.Known.{Exchange, Known, known_after}
use Rattle.aim_sessions.specs.declared.sessions.Exchange.{Exchange as Stored}
use Rattle.aim_sessions.specs.declared.sessions.Look.{Look}
use Rattle.aim_sessions.specs.declared.sessions.Look.TheVariants as look
use Rattle.aim_sessions.specs.declared.sessions.Session.{Session}
use Rattle.aim_sessions.specs.Kept.{AreSessions, known_of, no_session}
use Rattle.aim_sessions.specs.Looks.{look_of}

-- what a look says of the answer
abbrev pub Says : Look → Reply → Reply → Type 0
Says look.Fresh answer refused = Unit {0}
Says (look.Repeat r) answer refused = answer ≡ r
Says (look.Stale last) answer refused = answer ≡ reply.Stale last
Says look.Reused answer refused = answer ≡ refused

-- the refusal of a number that another message has
abbrev pub refusal_of : Intersection → List Entry → ℕ → ℕ → Message → Reply
refusal_of i h v moment m = reply.Reject (reason.Reused m.seq) (standing_next (fresh h) v) (holds i (fresh h) v (now_of h moment))

pub look_says : (i : Intersection) (rows : List Session) (h : List Entry) (v moment : ℕ) (m : Message) → AreSessions rows (fresh h) → v < length rows →
    Says (look_of (get_or rows v no_session).last m) (answer i h v moment (act.Message m)) (refusal_of i h v moment m)
look_says i rows h v moment m are l = subst (λ o. Says (look_of (get_or rows v no_session).last m) (answer_message i (after o) m) refused) (are v l).last (go (get_or rows v no_session).last)
  where
    -- what is known, with another last exchange
    after : Option Exchange → Known
    after o = record (known_after i h v moment) { last = o }

    refused : Reply
    refused = refusal_of i h v moment m

    -- the tests, one by one
    tests : (s : Stored) (a b c : Bool) →
        Says (if a then look.Fresh else if b then look.Stale s.message.seq else if c then look.Repeat s.reply else look.Reused)
        (if a then answer_fresh i (after (Some (known_of s))) m.body else if b then reply.Stale s.message.seq else if c then s.reply else refused) refused
    tests s true b c = tt
    tests s false true c = refl
    tests s false false true = refl
    tests s false false false = refl

    go : (o : Option Stored) → Says (look_of o m) (answer_message i (after (option_map known_of o)) m) refused
    go None = tt
    go (Some s) = tests s (nat_lt s.message.seq m.seq) (nat_lt m.seq s.message.seq) (same_message m s.message)
