-- The words of messages have no space.
use Rattle.std.proofs.Common.{ℕ, Bool, true, false, ◌==◌, decimal, refl, inl, inr, arith}
use Rattle.std.proofs.lemmas.Bool.{cases_Bool}
use Rattle.aim_messages.specs.declared.messages.Turn.{Turn}
use Rattle.aim_messages.specs.declared.messages.Turn.TheVariants.{Left, Straight, Right}
use Rattle.aim_messages.specs.declared.messages.Params.{Params}
use Rattle.aim_messages.specs.declared.messages.Body.{Body}
use Rattle.aim_messages.specs.declared.messages.Body.TheVariants as body
use Rattle.aim_messages.specs.declared.messages.Message.{Message}
use Rattle.aim_messages.specs.Texts.{turn_word, class_word, vehicle_words, latest_words, params_words, body_words, message_words}
use Rattle.aim_text_words.specs.Ranges.{Is32, Is8, AreParams, IsBody, IsMessage}
use Rattle.aim_text_words.proofs.NumberLaws.{decimal_visible}
use Rattle.aim_text_words.proofs.WordLaws.{IsWord, AreWords, words_append}

pub w32 : (n : ℕ) → Is32 n → IsWord (decimal n)
w32 n is = decimal_visible n (omega arith)

pub w8 : (n : ℕ) → Is8 n → IsWord (decimal n)
w8 n is = decimal_visible n (omega arith)

pub turn_is_word : (t : Turn) → IsWord (turn_word t)
turn_is_word Left = refl
turn_is_word Straight = refl
turn_is_word Right = refl

class_is_word : (emergency : Bool) → IsWord (class_word emergency)
class_is_word true = refl
class_is_word false = refl

pub vehicle_are_words : (p : Params) → AreParams p → AreWords (vehicle_words p)
vehicle_are_words p r = (w32 p.speed r.speed, (w32 p.max_speed r.max_speed, (w32 p.accel r.accel, (w32 p.length r.len, (w32 p.width r.width, (class_is_word p.emergency, tt))))))

latest_are_words : (p : Params) → AreParams p → AreWords (latest_words p)
latest_are_words p r = elim (cases_Bool (p.latest == p.arrive)) [
  | inl is ↦ rw is tt
  | inr not ↦ rw not (w32 p.latest r.latest, tt)
]

params_are_words : (p : Params) → AreParams p → AreWords (params_words p)
params_are_words p r = (w8 p.lane r.lane, (turn_is_word p.turn, (w32 p.arrive r.arrive, words_append (vehicle_words p) (latest_words p) (vehicle_are_words p r) (latest_are_words p r))))

body_are_words : (seq : ℕ) (b : Body) → Is32 seq → IsBody b → AreWords (body_words seq b)
body_are_words seq (body.Request p) s r = (refl, (w32 seq s, params_are_words p r))
body_are_words seq (body.Change id p) s r = (refl, (w32 seq s, (w32 id r.0, params_are_words p r.1)))
body_are_words seq (body.Cancel id) s r = (refl, (w32 seq s, (w32 id r, tt)))
body_are_words seq (body.Done id) s r = (refl, (w32 seq s, (w32 id r, tt)))

pub message_are_words : (m : Message) → IsMessage m → AreWords (message_words m)
message_are_words m r = body_are_words m.seq m.body r.seq r.body
