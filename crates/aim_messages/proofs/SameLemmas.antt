-- Two messages are the same exactly where the test says so.
use Rattle.std.proofs.Common.{◌≡◌, ℕ, Bool, true, false, ◌==◌, refl, subst}
use Rattle.std.specs.Prelude.{◌↔◌}
use Rattle.std.proofs.lemmas.Bool.{and_parts, eqb-true, eq-eqb}
use Rattle.aim_messages.specs.declared.messages.Turn.{Turn}
use Rattle.aim_messages.specs.declared.messages.Turn.TheVariants.{Left, Straight, Right}
use Rattle.aim_messages.specs.declared.messages.Params.{Params}
use Rattle.aim_messages.specs.declared.messages.Message.{Message}
use Rattle.aim_messages.specs.declared.messages.Body.{Body}
use Rattle.aim_messages.specs.declared.messages.Body.TheVariants.{Request, Change, Cancel, Done}
use Rattle.aim_messages.specs.Same.{same_turn, same_test, same_params, same_body, same_message}

turns : (a b : Turn) → same_turn a b ≡ true → a ≡ b
turns Left Left is = refl
turns Left Straight is = absurd (cc)
turns Left Right is = absurd (cc)
turns Straight Left is = absurd (cc)
turns Straight Straight is = refl
turns Straight Right is = absurd (cc)
turns Right Left is = absurd (cc)
turns Right Straight is = absurd (cc)
turns Right Right is = refl

tests : (a b : Bool) → same_test a b ≡ true → a ≡ b
tests true true is = refl
tests true false is = absurd (cc)
tests false true is = absurd (cc)
tests false false is = refl

params : (p q : Params) → same_params p q ≡ true → p ≡ q
params p q is =
    let a = and_parts _ (same_test p.emergency q.emergency) is in
    let b = and_parts _ (p.width == q.width) a.0 in
    let c = and_parts _ (p.length == q.length) b.0 in
    let d = and_parts _ (p.accel == q.accel) c.0 in
    let e = and_parts _ (p.max_speed == q.max_speed) d.0 in
    let f = and_parts _ (p.speed == q.speed) e.0 in
    let l = and_parts _ (p.latest == q.latest) f.0 in
    let g = and_parts _ (p.arrive == q.arrive) l.0 in
    let h = and_parts (p.lane == q.lane) (same_turn p.turn q.turn) g.0 in
    λ i. record {
      lane = eqb-true p.lane q.lane h.0 i;
      turn = turns p.turn q.turn h.1 i;
      arrive = eqb-true p.arrive q.arrive g.1 i;
      latest = eqb-true p.latest q.latest l.1 i;
      speed = eqb-true p.speed q.speed f.1 i;
      max_speed = eqb-true p.max_speed q.max_speed e.1 i;
      accel = eqb-true p.accel q.accel d.1 i;
      length = eqb-true p.length q.length c.1 i;
      width = eqb-true p.width q.width b.1 i;
      emergency = tests p.emergency q.emergency a.1 i;
    }

bodies : (a b : Body) → same_body a b ≡ true → a ≡ b
bodies (Request p) (Request q) is = λ i. Request (params p q is i)
bodies (Request p) (Change n q) is = absurd (cc)
bodies (Request p) (Cancel n) is = absurd (cc)
bodies (Request p) (Done n) is = absurd (cc)
bodies (Change m p) (Request q) is = absurd (cc)
bodies (Change m p) (Change n q) is = let a = and_parts (m == n) _ is in λ i. Change (eqb-true m n a.0 i) (params p q a.1 i)
bodies (Change m p) (Cancel n) is = absurd (cc)
bodies (Change m p) (Done n) is = absurd (cc)
bodies (Cancel m) (Request q) is = absurd (cc)
bodies (Cancel m) (Change n q) is = absurd (cc)
bodies (Cancel m) (Cancel n) is = λ i. Cancel (eqb-true m n is i)
bodies (Cancel m) (Done n) is = absurd (cc)
bodies (Done m) (Request q) is = absurd (cc)
bodies (Done m) (Change n q) is = absurd (cc)
bodies (Done m) (Cancel n) is = absurd (cc)
bodies (Done m) (Done n) is = λ i. Done (eqb-true m n is i)

self : (n : ℕ) → (n == n) ≡ true
self n = eq-eqb n n refl

same_turn-self : (a : Turn) → same_turn a a ≡ true
same_turn-self Left = refl
same_turn-self Straight = refl
same_turn-self Right = refl

same_test-self : (a : Bool) → same_test a a ≡ true
same_test-self true = refl
same_test-self false = refl

same_params-self : (p : Params) → same_params p p ≡ true
same_params-self p = rw (self p.lane, same_turn-self p.turn, self p.arrive, self p.latest, self p.speed, self p.max_speed, self p.accel, self p.length, self p.width, same_test-self p.emergency) refl

same_body-self : (a : Body) → same_body a a ≡ true
same_body-self (Request p) = same_params-self p
same_body-self (Change n p) = rw (self n, same_params-self p) refl
same_body-self (Cancel n) = self n
same_body-self (Done n) = self n

same_message-self : (m : Message) → same_message m m ≡ true
same_message-self m = rw (self m.seq, same_body-self m.body) refl

pub same_message-is : (m n : Message) → (same_message m n ≡ true ↔ m ≡ n)
same_message-is m n = (
  λ is. let a = and_parts (m.seq == n.seq) _ is in λ i. record { seq = eqb-true m.seq n.seq a.0 i; body = bodies m.body n.body a.1 i },
  λ is. subst (λ (k : Message). same_message m k ≡ true) is (same_message-self m),
)
