-- What words say where they have no fault: numbers, turns, messages.
use Rattle.std.specs.Prelude.{ℕ, ◌+◌, Bool, List, Option, Some, None, Result, Ok, Err, codes, if◌then◌else◌, bytes_eq}
use Rattle.aim_messages.specs.declared.messages.Turn.{Turn}
use Rattle.aim_messages.specs.declared.messages.Turn.TheVariants.{Left, Straight, Right}
use Rattle.aim_messages.specs.declared.messages.Params.{Params}
use Rattle.aim_messages.specs.declared.messages.Body.{Body}
use Rattle.aim_messages.specs.declared.messages.Body.TheVariants as body
use Rattle.aim_messages.specs.declared.script.LineKind.{LineKind}
use Rattle.aim_messages.specs.declared.messages.Message.{Message}
use Rattle.aim_text_words.specs.declared.forms.MessageForm.{MessageForm}
use Rattle.aim_text_words.specs.declared.forms.MessageForm.TheVariants as message
use Rattle.aim_messages.specs.Texts.{Words}
use Rattle.aim_text_words.specs.Faults.{word_at, value_of}

-- the number at a place
abbrev pub at : Words → ℕ → ℕ
at words i = value_of (word_at words i)

abbrev pub turn_of : List ℕ → Turn
turn_of word = if bytes_eq word (codes "left") then Left else if bytes_eq word (codes "straight") then Straight else Right

abbrev pub is_emergency : List ℕ → Bool
is_emergency word = bytes_eq word (codes "emergency")

-- LANE and TURN from one place on, ARRIVE, LATEST, and the rest from another place on
abbrev pub params_at : Words → ℕ → ℕ → ℕ → ℕ → Params
params_at words i arrive latest j = record {
  lane = at words i;
  turn = turn_of (word_at words (i + 1));
  arrive = arrive;
  latest = latest;
  speed = at words j;
  max_speed = at words (j + 1);
  accel = at words (j + 2);
  length = at words (j + 3);
  width = at words (j + 4);
  emergency = is_emergency (word_at words (j + 5));
}

-- a message, of the words behind its first
abbrev pub body_of : MessageForm → Words → Body
body_of message.Request words = body.Request (params_at words 1 (at words 3) (at words 3) 4)
body_of message.RequestInWindow words = body.Request (params_at words 1 (at words 3) (at words 10) 4)
body_of message.Change words = body.Change (at words 1) (params_at words 2 (at words 4) (at words 4) 5)
body_of message.ChangeInWindow words = body.Change (at words 1) (params_at words 2 (at words 4) (at words 11) 5)
body_of message.Cancel words = body.Cancel (at words 1)
body_of message.Done words = body.Done (at words 1)

abbrev pub message_of : MessageForm → Words → Message
message_of m words = record { seq = at words 0; body = body_of m words }

-- a value that has no fault, or its fault
abbrev pub unless : {A : Type 0} → A → Option LineKind → Result A LineKind
unless a None = Ok a
unless a (Some k) = Err k
