-- Reading gives back what was spelled, field by field.
use Rattle.std.proofs.Common.{◌≡◌, ℕ, ◌+◌, ◌^◌, ◌<◌, ◌≤◌, ◌==◌, Bool, true, false, List, [], ◌∷◌, ◌++◌, None, Ok, decimal, refl, sym, ap, inl, inr, arith}
use Rattle.std.proofs.lemmas.Bool.Decides.{nat_tests}
use Rattle.std.specs.Prelude.{if◌then◌else◌}
use Rattle.std.proofs.lemmas.Bool.{cases_Bool, eqb-true}
use Rattle.aim_messages.specs.declared.messages.Turn.{Turn}
use Rattle.aim_messages.specs.declared.messages.Turn.TheVariants.{Left, Straight, Right}
use Rattle.aim_messages.specs.declared.messages.Params.{Params}
use Rattle.aim_messages.specs.declared.messages.Body.{Body}
use Rattle.aim_messages.specs.declared.messages.Body.TheVariants as body
use Rattle.aim_messages.specs.declared.messages.Message.{Message}
use Rattle.aim_text_words.specs.declared.forms.MessageForm.{MessageForm}
use Rattle.aim_text_words.specs.declared.forms.MessageForm.TheVariants as message
use Rattle.aim_messages.specs.Texts.{Words, turn_word, class_word, vehicle_words, params_words, body_words, message_words}
use Rattle.aim_messages.specs.Windows.{HasWindow}
use Rattle.aim_text_words.specs.Faults.{Place, number, rest, number8, turns, classes, fault_at, value_of}
use Rattle.aim_text_words.specs.Reading.{turn_of, is_emergency}
use Rattle.aim_text_words.specs.Ranges.{Is32, Is8, AreParams, IsBody, IsMessage}
use Rattle.aim_text_words.specs.Steps.{read_in, number_in, vehicle_in, params_in, windowed_in, body_in, message_in, numbers_in}
use Rattle.aim_text_words.proofs.NumberLaws.{number_good, value_decimal}

-- a word without fault is read
pub word_again : {A : Type 0} (p : Place) (value : List ℕ → A) (w : List ℕ) (ws : Words) (a : A) → fault_at p (w ∷ ws) ≡ None → value w ≡ a → read_in p value (w ∷ ws) ≡ Ok (a, ws)
unfolding read_in
word_again p value w ws a none is = rw (none, is) refl

pub number_again : (low high n : ℕ) (ws : Words) → low ≤ n → n ≤ high → n < 2 ^ 64 → read_in (number low high) value_of (decimal n ∷ ws) ≡ Ok (n, ws)
number_again low high n ws least most small = word_again (number low high) value_of (decimal n) ws n (number_good low high n least most small) (value_decimal n small)

pub n32 : (n : ℕ) (ws : Words) → Is32 n → number_in (decimal n ∷ ws) ≡ Ok (n, ws)
n32 n ws is = number_again 0 4294967295 n ws (omega arith) (omega arith) (omega arith)

pub n8 : (n : ℕ) (ws : Words) → Is8 n → read_in number8 value_of (decimal n ∷ ws) ≡ Ok (n, ws)
n8 n ws is = number_again 0 255 n ws (omega arith) (omega arith) (omega arith)

pub turn_again : (t : Turn) (ws : Words) → read_in turns turn_of (turn_word t ∷ ws) ≡ Ok (t, ws)
unfolding read_in
turn_again Left ws = refl
turn_again Straight ws = refl
turn_again Right ws = refl

class_again : (emergency : Bool) (ws : Words) → read_in classes is_emergency (class_word emergency ∷ ws) ≡ Ok (emergency, ws)
unfolding read_in
class_again true ws = refl
class_again false ws = refl

-- the params with one step of arrival
abbrev pub in_one_step : Params → Params
in_one_step p = record p { latest = p.arrive }

pub one_step_is : (p : Params) → p.latest ≡ p.arrive → in_one_step p ≡ p
one_step_is p is = λ i. record p { latest = sym is i }

pub vehicle_again : (p : Params) (ws : Words) → AreParams p → vehicle_in p.lane p.turn p.arrive (vehicle_words p ++ ws) ≡ Ok (in_one_step p, ws)
unfolding vehicle_in numbers_in
vehicle_again p ws r =
    rw (n32 p.speed _ r.speed, n32 p.max_speed _ r.max_speed, n32 p.accel _ r.accel, n32 p.length _ r.len, n32 p.width _ r.width, class_again p.emergency ws) refl

-- the words of params but for the last step of arrival
abbrev one_step_words : Params → Words
one_step_words p = decimal p.lane ∷ turn_word p.turn ∷ decimal p.arrive ∷ vehicle_words p

params_again : (p : Params) (ws : Words) → AreParams p → params_in (one_step_words p ++ ws) ≡ Ok (in_one_step p, ws)
unfolding params_in
params_again p ws r = rw (n8 p.lane _ r.lane, turn_again p.turn _, n32 p.arrive _ r.arrive) (vehicle_again p ws r)

windowed_again : (p : Params) (ws : Words) → AreParams p → p.arrive < p.latest → windowed_in (one_step_words p ++ decimal p.latest ∷ ws) ≡ Ok (p, ws)
unfolding windowed_in
windowed_again p ws r above =
    let latest : Is32 p.latest = r.latest in
    rw (params_again p (decimal p.latest ∷ ws) r, number_again (p.arrive + 1) 4294967295 p.latest ws (omega arith) (omega arith) (omega arith)) refl

-- the form of a message
abbrev pub form_of_body : Body → MessageForm
form_of_body (body.Request p) = if p.latest == p.arrive then message.Request else message.RequestInWindow
form_of_body (body.Change id p) = if p.latest == p.arrive then message.Change else message.ChangeInWindow
form_of_body (body.Cancel id) = message.Cancel
form_of_body (body.Done id) = message.Done

-- its words behind the first and the number
abbrev body_tail : Body → Words
body_tail (body.Request p) = params_words p
body_tail (body.Change id p) = decimal id ∷ params_words p
body_tail (body.Cancel id) = decimal id ∷ []
body_tail (body.Done id) = decimal id ∷ []

above : (first last : ℕ) → first ≤ last → (last == first) ≡ false → first < last
above first last least other = grind (arith, nat_tests)

body_again : (b : Body) (ws : Words) → IsBody b → HasWindow b → body_in (form_of_body b) (body_tail b ++ ws) ≡ Ok (b, ws)
unfolding body_in
body_again (body.Request p) ws r least = elim (cases_Bool (p.latest == p.arrive)) [
  | inl is ↦ rw is (rw (params_again p ws r) (ap (λ (q : Params). Ok (body.Request q, ws)) (one_step_is p (eqb-true p.latest p.arrive is))))
  | inr other ↦ rw other (rw (windowed_again p ws r (above p.arrive p.latest least other)) refl)
]
body_again (body.Change id p) ws r least = elim (cases_Bool (p.latest == p.arrive)) [
  | inl is ↦ rw is (rw (n32 id _ r.0, params_again p ws r.1) (ap (λ (q : Params). Ok (body.Change id q, ws)) (one_step_is p (eqb-true p.latest p.arrive is))))
  | inr other ↦ rw other (rw (n32 id _ r.0, windowed_again p ws r.1 (above p.arrive p.latest least other)) refl)
]
body_again (body.Cancel id) ws r least = rw (n32 id ws r) refl
body_again (body.Done id) ws r least = rw (n32 id ws r) refl

tail_is : (seq : ℕ) (b : Body) (ws : Words) → rest (body_words seq b ++ ws) ≡ decimal seq ∷ (body_tail b ++ ws)
tail_is seq (body.Request p) ws = refl
tail_is seq (body.Change id p) ws = refl
tail_is seq (body.Cancel id) ws = refl
tail_is seq (body.Done id) ws = refl

pub message_again : (m : Message) (ws : Words) → IsMessage m → HasWindow m.body → message_in (form_of_body m.body) (rest (message_words m ++ ws)) ≡ Ok (m, ws)
unfolding message_in
message_again m ws r window = rw (tail_is m.seq m.body ws, n32 m.seq _ r.seq, body_again m.body ws r.body window) refl
