-- The sessions of vehicles, and how they follow a history.
use Rattle.std.specs.Prelude.{◌≡◌, ℕ, ◌<◌, List, length, Some, None, option_map, slice_index_or, unwrap_or}
use Rattle.aim_messages.specs.declared.messages.Message.{Message}
use Rattle.aim_messages.specs.declared.replies.Reply.{Reply}
use Rattle.aim_rules.specs.Asking.{next_with, standing_next}
use Rattle.aim_rules.specs.History.{Fresh, last_of}
use Rattle.aim_rules.specs.Known.{Exchange as Known, exchange_of}
use Rattle.aim_sessions.specs.declared.sessions.Exchange.{Exchange}
use Rattle.aim_sessions.specs.declared.sessions.Session.{Session}

-- a message and its answer, as the rules name them
abbrev pub known_of : Exchange → Known
known_of e = record { message = e.message; reply = e.reply }

-- the session of a vehicle that has sent no message
abbrev pub no_session : Session
no_session = record { last = None; next = 0 }

-- a session after a fresh message and its answer; a refusal brings a step before which the vehicle may not ask again
abbrev pub session_after : Message → Reply → ℕ → Session
session_after m reply next = record { last = Some (record { message = m; reply = reply }); next = unwrap_or (next_with reply) next }

-- the session is the vehicle's last fresh message with its answer, and its standing next
pub record IsSession (xs : List Fresh) (v : ℕ) (s : Session) : Type 0 where
  pub last : option_map known_of s.last ≡ exchange_of (last_of xs v)
  pub next : s.next ≡ standing_next xs v

-- each vehicle has its session
abbrev pub AreSessions : List Session → List Fresh → Type 0
AreSessions rows xs = (v : ℕ) → v < length rows → IsSession xs v (slice_index_or rows v no_session)
