-- No two messages have the same words.
use Rattle.std.proofs.Common.{◌≡◌, ℕ, ◌==◌, Bool, true, false, List, ◌∷◌, ◌++◌, decimal, codes, refl, sym, ap, ◌∙◌, inl, inr, arith}
use Rattle.std.specs.Prelude.{bytes_eq}
use Rattle.std.proofs.lemmas.Bool.{cases_Bool, eqb-true}
use Rattle.std.proofs.lemmas.Fmt.{decimal_injective}
use Rattle.std.proofs.lemmas.Slice.Eq.{bytes_eq-Decides}
use Rattle.aim_messages.specs.declared.messages.Turn.{Turn}
use Rattle.aim_messages.specs.declared.messages.Turn.TheVariants.{Left, Straight, Right}
use Rattle.aim_messages.specs.declared.messages.Params.{Params}
use Rattle.aim_messages.specs.declared.messages.Body.{Body}
use Rattle.aim_messages.specs.declared.messages.Body.TheVariants as body
use Rattle.aim_messages.specs.declared.messages.Message.{Message}
use Rattle.aim_messages.specs.Texts.{Words, turn_word, class_word, latest_words, params_words, body_words, message_words}
use Rattle.aim_text_words.specs.Faults.{first, rest, from, word_at, begins_with_digit}
use Rattle.aim_text_words.specs.Ranges.{Is32, Is8, AreParams, IsBody, IsMessage}
use Rattle.aim_text_words.proofs.NumberLaws.{decimal_number, number_begins}

-- two words that differ
pub other_word : (v w : List ℕ) → bytes_eq v w ≡ false → v ≡ w → ⊥
other_word v w not is = let same = (bytes_eq-Decides v w).1 is in cc

pub alone32 : (m n : ℕ) → Is32 m → Is32 n → decimal m ≡ decimal n → m ≡ n
alone32 m n a b e = decimal_injective m n (omega arith) (omega arith) e

pub alone8 : (m n : ℕ) → Is8 m → Is8 n → decimal m ≡ decimal n → m ≡ n
alone8 m n a b e = decimal_injective m n (omega arith) (omega arith) e

-- a number's word begins with a digit
pub begins32 : (n : ℕ) → Is32 n → begins_with_digit (decimal n) ≡ true
begins32 n is = number_begins (decimal n) (decimal_number n (omega arith))

turn_alone : (a b : Turn) → turn_word a ≡ turn_word b → a ≡ b
turn_alone Left Left e = refl
turn_alone Left Straight e = absurd (other_word (codes "left") (codes "straight") refl e)
turn_alone Left Right e = absurd (other_word (codes "left") (codes "right") refl e)
turn_alone Straight Left e = absurd (other_word (codes "straight") (codes "left") refl e)
turn_alone Straight Straight e = refl
turn_alone Straight Right e = absurd (other_word (codes "straight") (codes "right") refl e)
turn_alone Right Left e = absurd (other_word (codes "right") (codes "left") refl e)
turn_alone Right Straight e = absurd (other_word (codes "right") (codes "straight") refl e)
turn_alone Right Right e = refl

class_alone : (a b : Bool) → class_word a ≡ class_word b → a ≡ b
class_alone true true e = refl
class_alone true false e = absurd (other_word (codes "emergency") (codes "car") refl e)
class_alone false true e = absurd (other_word (codes "car") (codes "emergency") refl e)
class_alone false false e = refl

-- words of which the first, if there is one, begins with no digit
abbrev pub Follows : Words → Type 0
Follows ws = begins_with_digit (first ws) ≡ false

-- a number's word is none of those
no_number : (n : ℕ) (ws vs : Words) → Is32 n → Follows ws → ws ≡ decimal n ∷ vs → ⊥
no_number n ws vs is follows e = let digit : begins_with_digit (first ws) ≡ true = ap (λ us. begins_with_digit (first us)) e ∙ begins32 n is in cc

latest_alone : (p q : Params) (ws vs : Words) → Is32 p.latest → Is32 q.latest → p.arrive ≡ q.arrive → Follows ws → Follows vs → latest_words p ++ ws ≡ latest_words q ++ vs
    → (p.latest ≡ q.latest) × (ws ≡ vs)
latest_alone p q ws vs sp sq arrive fw fv e = elim (cases_Bool (p.latest == p.arrive)) [
  | inl is ↦ elim (cases_Bool (q.latest == q.arrive)) [
    | inl too ↦ (eqb-true p.latest p.arrive is ∙ arrive ∙ sym (eqb-true q.latest q.arrive too), rw (is, too) at e)
    | inr other ↦ absurd (no_number q.latest ws vs sq fw (rw (is, other) at e))
  ]
  | inr tells ↦ elim (cases_Bool (q.latest == q.arrive)) [
    | inl is ↦ absurd (no_number p.latest vs ws sp fv (sym (rw (tells, is) at e)))
    | inr too ↦ numbers (rw (tells, too) at e)
  ]
]
  where
    numbers : decimal p.latest ∷ ws ≡ decimal q.latest ∷ vs → (p.latest ≡ q.latest) × (ws ≡ vs)
    numbers h = (alone32 p.latest q.latest sp sq (ap first h), ap rest h)

params_alone : (p q : Params) (ws vs : Words) → AreParams p → AreParams q → Follows ws → Follows vs → params_words p ++ ws ≡ params_words q ++ vs → (p ≡ q) × (ws ≡ vs)
params_alone p q ws vs rp rq fw fv e =
    let arrive = alone32 p.arrive q.arrive rp.arrive rq.arrive (ap (λ us. word_at us 2) e) in
    let latest = latest_alone p q ws vs rp.latest rq.latest arrive fw fv (ap (from 9) e) in
    let lane = alone8 p.lane q.lane rp.lane rq.lane (ap (λ us. word_at us 0) e) in
    let turn = turn_alone p.turn q.turn (ap (λ us. word_at us 1) e) in
    let speed = alone32 p.speed q.speed rp.speed rq.speed (ap (λ us. word_at us 3) e) in
    let most = alone32 p.max_speed q.max_speed rp.max_speed rq.max_speed (ap (λ us. word_at us 4) e) in
    let accel = alone32 p.accel q.accel rp.accel rq.accel (ap (λ us. word_at us 5) e) in
    let long = alone32 p.length q.length rp.len rq.len (ap (λ us. word_at us 6) e) in
    let wide = alone32 p.width q.width rp.width rq.width (ap (λ us. word_at us 7) e) in
    let class = class_alone p.emergency q.emergency (ap (λ us. word_at us 8) e) in (
      λ i. record {
        lane = lane i;
        turn = turn i;
        arrive = arrive i;
        latest = latest.0 i;
        speed = speed i;
        max_speed = most i;
        accel = accel i;
        length = long i;
        width = wide i;
        emergency = class i;
      },
      latest.1,
    )

record AreSame (s t : ℕ) (a b : Body) (ws vs : Words) : Type 0 where
  seq : s ≡ t
  body : a ≡ b
  rest : ws ≡ vs

body_alone : (s t : ℕ) (a b : Body) (ws vs : Words) → Is32 s → Is32 t → IsBody a → IsBody b → Follows ws → Follows vs → body_words s a ++ ws ≡ body_words t b ++ vs
    → AreSame s t a b ws vs
body_alone s t (body.Request p) (body.Request q) ws vs ss st ra rb fw fv e =
    let both = params_alone p q ws vs ra rb fw fv (ap (from 2) e) in
    record { seq = alone32 s t ss st (ap (λ us. word_at us 1) e); body = λ i. body.Request (both.0 i); rest = both.1 }
body_alone s t (body.Change id p) (body.Change id' q) ws vs ss st ra rb fw fv e =
    let both = params_alone p q ws vs ra.1 rb.1 fw fv (ap (from 3) e) in
    let ids = alone32 id id' ra.0 rb.0 (ap (λ us. word_at us 2) e) in
    record { seq = alone32 s t ss st (ap (λ us. word_at us 1) e); body = λ i. body.Change (ids i) (both.0 i); rest = both.1 }
body_alone s t (body.Cancel id) (body.Cancel id') ws vs ss st ra rb fw fv e =
    let ids = alone32 id id' ra rb (ap (λ us. word_at us 2) e) in
    record { seq = alone32 s t ss st (ap (λ us. word_at us 1) e); body = λ i. body.Cancel (ids i); rest = ap (from 3) e }
body_alone s t (body.Done id) (body.Done id') ws vs ss st ra rb fw fv e =
    let ids = alone32 id id' ra rb (ap (λ us. word_at us 2) e) in
    record { seq = alone32 s t ss st (ap (λ us. word_at us 1) e); body = λ i. body.Done (ids i); rest = ap (from 3) e }
body_alone s t (body.Request p) (body.Change id q) ws vs ss st ra rb fw fv e = absurd (other_word (codes "request") (codes "change") refl (ap first e))
body_alone s t (body.Request p) (body.Cancel id) ws vs ss st ra rb fw fv e = absurd (other_word (codes "request") (codes "cancel") refl (ap first e))
body_alone s t (body.Request p) (body.Done id) ws vs ss st ra rb fw fv e = absurd (other_word (codes "request") (codes "done") refl (ap first e))
body_alone s t (body.Change id p) (body.Request q) ws vs ss st ra rb fw fv e = absurd (other_word (codes "change") (codes "request") refl (ap first e))
body_alone s t (body.Change id p) (body.Cancel id') ws vs ss st ra rb fw fv e = absurd (other_word (codes "change") (codes "cancel") refl (ap first e))
body_alone s t (body.Change id p) (body.Done id') ws vs ss st ra rb fw fv e = absurd (other_word (codes "change") (codes "done") refl (ap first e))
body_alone s t (body.Cancel id) (body.Request q) ws vs ss st ra rb fw fv e = absurd (other_word (codes "cancel") (codes "request") refl (ap first e))
body_alone s t (body.Cancel id) (body.Change id' q) ws vs ss st ra rb fw fv e = absurd (other_word (codes "cancel") (codes "change") refl (ap first e))
body_alone s t (body.Cancel id) (body.Done id') ws vs ss st ra rb fw fv e = absurd (other_word (codes "cancel") (codes "done") refl (ap first e))
body_alone s t (body.Done id) (body.Request q) ws vs ss st ra rb fw fv e = absurd (other_word (codes "done") (codes "request") refl (ap first e))
body_alone s t (body.Done id) (body.Change id' q) ws vs ss st ra rb fw fv e = absurd (other_word (codes "done") (codes "change") refl (ap first e))
body_alone s t (body.Done id) (body.Cancel id') ws vs ss st ra rb fw fv e = absurd (other_word (codes "done") (codes "cancel") refl (ap first e))

-- nor do further words behind them, if the first of these begins with no digit
pub message_alone : (m n : Message) (ws vs : Words) → IsMessage m → IsMessage n → Follows ws → Follows vs → message_words m ++ ws ≡ message_words n ++ vs → (m ≡ n) × (ws ≡ vs)
message_alone m n ws vs rm rn fw fv e =
    let same = body_alone m.seq n.seq m.body n.body ws vs rm.seq rn.seq rm.body rn.body fw fv e in
    ((λ i. record { seq = same.seq i; body = same.body i }), same.rest)
