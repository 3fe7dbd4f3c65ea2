-- A request that was prepared, with the arrival at another step.
use Rattle.std.proofs.Common.{◌≡◌, ℕ, ◌-◌, ◌≤◌, Bool, true, false, List, [], length, map, arith, refl, sym, ◌∙◌, ap, Option, Some, None, is_none, if◌then◌else◌}
use Rattle.std.specs.Prelude.{option_and_then}
use Rattle.std.proofs.lemmas.List.{length-map}
use Rattle.aim_messages.specs.declared.messages.Message.{Message}
use Rattle.aim_messages.specs.declared.messages.Params.{Params}
use Rattle.aim_messages.specs.declared.replies.Field.{Field}
use Rattle.aim_messages.specs.declared.entries.TheConstants.{LATEST_MOMENT}
use Rattle.aim_geometry.specs.declared.ground.Times.{Times}
use Rattle.aim_geometry.specs.Sites.{IsTimes}
use Rattle.aim_layout.specs.Intersection.{Intersection}
use Rattle.aim_sheets.specs.declared.spans.Span.{Span}
use Rattle.aim_sheets.specs.Moves.{MayMove, moved}
use Rattle.aim_sheets.specs.Sheets.{Spans}
use Rattle.aim_sheets.specs.Spans.{AreMarked}
use Rattle.aim_rules.specs.Bad.{bad, has_bad_window}
use Rattle.aim_rules.specs.Trials.{has_windows, is_fast_made, judged}
use Rattle.aim_rules.specs.Footprint.{crossing_steps}
use Rattle.aim_rules.specs.History.{params_of}
use Rattle.aim_rules.proofs.GoodLemmas.{good_params}
use Rattle.aim_footprint.specs.Fields.{IsTried}
use Rattle.aim_footprint.proofs.GoodLemmas.{fast_tried, few_steps, steady_tried}
use Rattle.aim_requests.specs.declared.requests.TrialSteps.{TrialSteps}
use Rattle.aim_requests.specs.Requests.{Request, IsPreparedFor, IsTrialOf, prepared_params}
use Rattle.aim_requests.specs.Shapes.{arriving, AsksAnew, IsAnew}
use Rattle.aim_requests.proofs.ShiftLemmas.{have_moved, count_moved, good_moved, may_move}

-- params ask for the crossing of a request that was prepared, at another step
pub record IsMove (i : Intersection) (r : Request) (from to edge : ℕ) (o : Option Params) : Type 0 where
  pub times : IsTimes i.times
  pub edge_is : edge ≡ i.times.edge
  pub prepared : IsPreparedFor i r
  pub asks : AsksAnew i r from to o
  pub from_edge : i.times.edge ≤ from
  pub to_edge : i.times.edge ≤ to
  pub last : to ≤ LATEST_MOMENT

-- what a move is called with, and the times of its layout
pub is_move : (i : Intersection) (r : Request) (from to : ℕ) (times : Times) (o : Option Params) → times ≡ i.times → IsTimes times → IsPreparedFor i r → AsksAnew i r from to o →
    i.times.edge ≤ from → i.times.edge ≤ to → to ≤ LATEST_MOMENT → IsMove i r from to times.edge o
is_move i r from to times o same valid prepared asks a b last = record {
  times = rw same at valid;
  edge_is = ap (λ (t : Times). t.edge) same;
  prepared = prepared;
  asks = asks;
  from_edge = a;
  to_edge = b;
  last = last;
}

-- a request that has params of a crossing is one of which no field is wrong
pub whole_asked : (i : Intersection) (r : Request) (p : Params) → IsPreparedFor i r → prepared_params r ≡ Some p → (r.bad ≡ None) × (params_of r.message.body ≡ Some p)
whole_asked i r p prepared asked = go r.bad (params_of r.message.body) asked
  where
    go : (f : Option Field) (o : Option Params) → (if is_none f then o else None) ≡ Some p → (f ≡ None) × (o ≡ Some p)
    go None o h = (refl, h)
    go (Some x) o h = absurd (cc)

-- no field is wrong of params that were prepared
pub good_asked : (i : Intersection) (r : Request) (p : Params) → IsPreparedFor i r → prepared_params r ≡ Some p → bad i p ≡ None
good_asked i r p prepared asked =
    let w = whole_asked i r p prepared asked in
    sym (sym w.0 ∙ prepared.field ∙ ap (option_and_then (bad i)) w.1)

few : (i : Intersection) (p : Params) (fast : Bool) → bad i p ≡ None → IsTried i p fast → crossing_steps i p fast ≤ 2048
few i p fast good tried = let g = good_params i p good in few_steps i p fast (has_windows i) (is_fast_made p) refl refl tried g.speed.0 g.speed.1 g.steps

-- the cells of a trial that arrives at another step
trial_shifted : (i : Intersection) (p : Params) (fast : Bool) (from to latest edge : ℕ) (spans : List Span) → IsTimes i.times → bad i p ≡ None → IsTried i p fast → p.arrive ≡ from → edge ≡ i.times.edge →
    i.times.edge ≤ from → i.times.edge ≤ to → to ≤ LATEST_MOMENT → IsTrialOf i p fast spans → AreMarked spans → IsTrialOf i (arriving p to latest) fast (map (moved (from - edge) (to - edge)) spans)
trial_shifted i p fast from to latest edge spans times good tried a e f t last is marked =
    let g : i.times.edge ≤ p.arrive = rw a f in
    rw (e, ← a) (record {
      cells = have_moved i p fast to latest spans times.early times.late g t (may_move i p fast to spans times.early times.late times.edge (few i p fast good tried) g t last is.cells marked) is.cells;
      count = length-map spans (moved (p.arrive - i.times.edge) (to - i.times.edge)) ∙ is.count ∙ sym (count_moved i p fast to latest g t);
    })

module _ (i : Intersection) (r : Request) (from to edge : ℕ) (o : Option Params) (m : IsMove i r from to edge o) where
  p : Params
  p = m.asks.0

  asked : prepared_params r ≡ Some p
  unfolding p
  asked = m.asks.1

  arrives : p.arrive ≡ from
  unfolding p
  arrives = m.asks.2

  latest : ℕ
  latest = m.asks.3

  is_asked : o ≡ Some (arriving p to latest)
  unfolding p latest
  is_asked = m.asks.4

  window : has_bad_window i (arriving p to latest) ≡ false
  unfolding p latest
  window = m.asks.5

  good : bad i p ≡ None
  good = good_asked i r p m.prepared asked

  trial_may : (fast : Bool) (spans : List Span) → IsTried i p fast → IsTrialOf i p fast spans → AreMarked spans → MayMove (from - edge) (to - edge) spans
  trial_may fast spans tried is marked =
      let a = arrives in
      let f = m.from_edge in
      rw (m.edge_is, ← a) (may_move i p fast to spans m.times.early m.times.late m.times.edge (few i p fast good tried) (rw a f) m.to_edge m.last is.cells marked)

  pub second_may : (spans : List Span) → spans ≡ r.second.spans → AreMarked spans → MayMove (from - edge) (to - edge) spans
  second_may spans same marked = go (judged i p).fast refl
    where
      go : (b : Bool) → (judged i p).fast ≡ b → MayMove (from - edge) (to - edge) spans
      go false steady = trial_may false spans (steady_tried i p steady) (rw same (m.prepared.steady p asked steady)) marked
      go true fast = λ k d l. absurd (let n : length spans ≡ 0 = ap length (same ∙ m.prepared.untried p asked fast) in omega arith)

  pub first_may : (spans : List Span) → spans ≡ r.first.spans → AreMarked spans → MayMove (from - edge) (to - edge) spans
  first_may spans same marked = go (is_fast_made p) refl
    where
      go : (b : Bool) → is_fast_made p ≡ b → MayMove (from - edge) (to - edge) spans
      go true made = trial_may true spans (fast_tried i p made) (rw same (m.prepared.fast p asked made)) marked
      go false unmade = λ k d l. absurd (let n : length spans ≡ 0 = ap length (same ∙ m.prepared.unmade p asked unmade) in omega arith)

  trial_moved : (fast : Bool) (spans : List Span) → IsTried i p fast → IsTrialOf i p fast spans → AreMarked spans → IsTrialOf i (arriving p to latest) fast (map (moved (from - edge) (to - edge)) spans)
  trial_moved fast spans tried is marked = trial_shifted i p fast from to latest edge spans m.times good tried arrives m.edge_is m.from_edge m.to_edge m.last is marked

  one : (q q2 : Params) (x : Option Params) → x ≡ Some q → x ≡ Some q2 → q ≡ q2
  one q q2 x a b = cc

  pub moved_request : (n : Message) (steps : TrialSteps) (first second : Spans) (fs ss : List Span) → params_of n.body ≡ o → steps ≡ r.steps →
      fs ≡ r.first.spans → ss ≡ r.second.spans → AreMarked fs → AreMarked ss →
      first ≡ record { spans = map (moved (from - edge) (to - edge)) fs; room = i.grid.spans } →
      second ≡ record { spans = map (moved (from - edge) (to - edge)) ss; room = i.grid.spans } →
      IsPreparedFor i (record { message = n; bad = None; steps = steps; first = first; second = second })
  moved_request n steps first second fs ss body same_steps f s fm sm first_is second_is =
      let has : params_of n.body ≡ Some (arriving p to latest) = body ∙ is_asked in
      record {
        field = sym (ap (option_and_then (bad i)) has ∙ good_moved i p to latest (let a = arrives in let l = m.from_edge in rw a l) m.to_edge m.last window good);
        first_room = ap (λ (x : Spans). x.room) first_is;
        second_room = ap (λ (x : Spans). x.room) second_is;
        steady = λ q e alone. (let is : q ≡ arriving p to latest = one q (arriving p to latest) (params_of n.body) e has in
            let steady : (judged i p).fast ≡ false = rw is at alone in
            rw (is, second_is) (trial_moved false ss (steady_tried i p steady) (rw s (m.prepared.steady p asked steady)) sm));
        fast = λ q e made. (let is : q ≡ arriving p to latest = one q (arriving p to latest) (params_of n.body) e has in
            let fast : is_fast_made p ≡ true = rw is at made in
            rw (is, first_is) (trial_moved true fs (fast_tried i p fast) (rw f (m.prepared.fast p asked fast)) fm));
        steps = λ q e. (let is : q ≡ arriving p to latest = one q (arriving p to latest) (params_of n.body) e has in
            let was = m.prepared.steps p asked in rw (is, same_steps) (record { fast = was.fast; steady = was.steady }));
        unmade = λ q e made. (let is : q ≡ arriving p to latest = one q (arriving p to latest) (params_of n.body) e has in
            let none : fs ≡ [] = f ∙ m.prepared.unmade p asked (rw is at made) in
            ap (λ (x : Spans). x.spans) first_is ∙ ap (map (moved (from - edge) (to - edge))) none);
        untried = λ q e fast. (let is : q ≡ arriving p to latest = one q (arriving p to latest) (params_of n.body) e has in
            let none : ss ≡ [] = s ∙ m.prepared.untried p asked (rw is at fast) in
            ap (λ (x : Spans). x.spans) second_is ∙ ap (map (moved (from - edge) (to - edge))) none);
        empty = λ e. absurd (let x : Some (arriving p to latest) ≡ None = sym has ∙ e in cc);
      }

-- no field is wrong of params that ask for a known crossing at another step
pub known_good : (i : Intersection) (r : Request) (from : ℕ) (p : Params) → IsPreparedFor i r → IsAnew i r from p → bad i p ≡ None
known_good i r from p prepared a =
    let k = a.known in
    let e : k.0.arrive ≡ from = k.2 in
    let f : i.times.edge ≤ k.0.arrive = rw e a.from_edge in
    rw k.3 (good_moved i k.0 p.arrive p.latest f a.to_edge a.last a.window (good_asked i r k.0 prepared k.1))
