-- Reading word by word: a value and the words behind it, or the kind of the first fault.
use Rattle.std.specs.Prelude.{ℕ, zero, suc, get_or, ◌≡◌, List, [], ◌∷◌, ◌++◌, Option, Some, None, Result, Ok, Err}
use Rattle.std.specs.Borrow.{Bor}
use Rattle.aim_messages.specs.declared.messages.Turn.{Turn}
use Rattle.aim_messages.specs.declared.messages.Params.{Params}
use Rattle.aim_messages.specs.declared.messages.Body.{Body}
use Rattle.aim_messages.specs.declared.messages.Body.TheVariants as body
use Rattle.aim_messages.specs.declared.messages.Message.{Message}
use Rattle.aim_messages.specs.declared.script.LineKind.{LineKind}
use Rattle.aim_messages.specs.declared.script.LineKind.TheVariants as kind
use Rattle.aim_text_words.specs.declared.forms.MessageForm.{MessageForm}
use Rattle.aim_text_words.specs.declared.forms.MessageForm.TheVariants as message
use Rattle.aim_messages.specs.Texts.{Words}
use Rattle.aim_text_words.specs.Faults.{words_of, first, rest, Place, number32, number8, later_than, turns, classes, fault_at, value_of}
use Rattle.aim_text_words.specs.Tables.{look_up}
use Rattle.aim_text_words.specs.Reading.{unless, turn_of, is_emergency}

infixl 10 ◌>>=◌
abbrev pub ◌>>=◌ : {A B : Type 0} → Result A LineKind → (A → Result B LineKind) → Result B LineKind
(Ok a) >>= f = f a
(Err k) >>= f = Err k

abbrev pub Read : Type 0 → Type 0
Read A = Result (A × Words) LineKind

abbrev pub with_rest : {A : Type 0} → Words → Result A LineKind → Read A
with_rest words (Ok a) = Ok (a, words)
with_rest words (Err k) = Err k

-- the first word, where it may stand in that place
unfoldable pub read_in : {A : Type 0} → Place → (List ℕ → A) → Words → Read A
read_in p value words = with_rest (rest words) (unless (value (first words)) (fault_at p words))

-- what a function answered, and the words that it left, are what reading gives
abbrev pub Gives : {A : Type 0} → Result A LineKind → Words → Read A → Type 0
Gives (Ok a) left read = read ≡ Ok (a, left)
Gives (Err k) left read = read ≡ Err k

-- the words of what is left, where something is left
abbrev pub words_left : Option (Bor (List ℕ)) → Words
words_left None = []
words_left (Some bytes) = words_of bytes.now

abbrev pub number_in : Words → Read ℕ
number_in words = read_in number32 value_of words

-- so many numbers, behind those that are there
unfoldable pub numbers_in : List ℕ → ℕ → Words → Read (List ℕ)
numbers_in numbers zero words = Ok (numbers, words)
numbers_in numbers (suc count) words = do
  n ← number_in words
  numbers_in (numbers ++ n.0 ∷ []) count n.1

-- what the row of the first word says
unfoldable pub choice_in : {A : Type 0} → List (List ℕ × A) → Words → Read A
choice_in rows [] = Err kind.Words
choice_in rows (w ∷ ws) = with_rest ws (look_up kind.Words rows w)

unfoldable pub vehicle_in : ℕ → Turn → ℕ → Words → Read Params
vehicle_in lane turn arrive words = do
  n ← numbers_in [] 5 words
  class ← read_in classes is_emergency n.1
  Ok (record { lane = lane; turn = turn; arrive = arrive; latest = arrive; speed = get_or n.0 0 0; max_speed = get_or n.0 1 0; accel = get_or n.0 2 0; length = get_or n.0 3 0; width = get_or n.0 4 0; emergency = class.0 }, class.1)

unfoldable pub params_in : Words → Read Params
params_in words = do
  lane ← read_in number8 value_of words
  turn ← read_in turns turn_of lane.1
  arrive ← number_in turn.1
  vehicle_in lane.0 turn.0 arrive.0 arrive.1

-- params, and then a last step of arrival above the first
unfoldable pub windowed_in : Words → Read Params
windowed_in words = do
  params ← params_in words
  latest ← read_in (later_than params.0.arrive) value_of params.1
  Ok (record params.0 { latest = latest.0 }, latest.1)

unfoldable pub body_in : MessageForm → Words → Read Body
body_in message.Request words = do
  params ← params_in words
  Ok (body.Request params.0, params.1)
body_in message.RequestInWindow words = do
  params ← windowed_in words
  Ok (body.Request params.0, params.1)
body_in message.Change words = do
  id ← number_in words
  params ← params_in id.1
  Ok (body.Change id.0 params.0, params.1)
body_in message.ChangeInWindow words = do
  id ← number_in words
  params ← windowed_in id.1
  Ok (body.Change id.0 params.0, params.1)
body_in message.Cancel words = do
  id ← number_in words
  Ok (body.Cancel id.0, id.1)
body_in message.Done words = do
  id ← number_in words
  Ok (body.Done id.0, id.1)

unfoldable pub message_in : MessageForm → Words → Read Message
message_in m words = do
  seq ← number_in words
  body ← body_in m seq.1
  Ok (record { seq = seq.0; body = body.0 }, body.1)

-- the first word, whatever it is
unfoldable pub word_in : Words → Read (List ℕ)
word_in [] = Err kind.Words
word_in (w ∷ ws) = Ok (w, ws)

-- what a word says that says nothing
abbrev pub nothing : List ℕ → Unit {0}
nothing word = tt

-- no word
unfoldable pub end_in : Words → Result (Unit {0}) LineKind
end_in [] = Ok tt
end_in (w ∷ ws) = Err kind.Words
