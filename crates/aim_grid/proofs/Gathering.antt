-- Travellers that set out one after another.
use Rattle.std.proofs.Common.{◌≡◌, ◌≢◌, ℕ, zero, suc, ◌+◌, ◌<◌, ◌≤◌, ◌==◌, Bool, true, false, List, [], ◌∷◌, ◌++◌, length, map, take, get_or, if◌then◌else◌, sym, ap, ◌∙◌, subst, arith}
use Rattle.std.specs.Prelude.{All, Contains}
use Rattle.std.specs.List.{AllByRecursion, AllZip}
use Rattle.std.proofs.lemmas.Bool.{eq-eqb}
use Rattle.std.proofs.lemmas.List.{append-nil, append_assoc, map-append, take_all}
use Rattle.std.proofs.lemmas.List.Elements.{All-more, All-push, All-weaker, Contains-append_left, Contains-push}
use Rattle.std.proofs.lemmas.List.Quantifiers.{all_pairs_push}
use Rattle.aim_grid_script.specs.Spelled.{IsBare}
use Rattle.aim_grid.specs.Models.{AreLegsOf, LegModel, TravellerModel}
use Rattle.aim_grid.specs.Rode.{Managers}
use Rattle.aim_grid.specs.Travels.{SetsOut}
use Rattle.aim_grid_script.specs.declared.routes.PlannedLeg.{PlannedLeg}
use Rattle.aim_grid.specs.declared.seats.Seats.{Seats}
use Rattle.aim_grid.specs.Runs.{legs_for}
use Rattle.aim_grid.specs.Making.{AllKeep, AreOthers, AreReady, AreSetOut, HasNew, IsMadeLeg, IsSetOut, legs_of_all, seat_of, vehicles_of}
use Rattle.aim_grid.proofs.Ends.{new_held}
use Rattle.aim_grid.proofs.Held.{all_keep_then, none_kept}
use Rattle.aim_grid.proofs.Openings.{count_seats, legs_own, new_at, open_at}
use Rattle.aim_grid.proofs.Places.{others_vehicles}
use Rattle.aim_grid.proofs.Steps.{kept_new}
use Rattle.aim_grid.proofs.Zips.{there, zip_length}

-- the numbers of travellers that are all others
numbers_other : (v : ℕ) (ts : List TravellerModel) → All (λ (t : TravellerModel). t.vehicle ≢ v) ts → AllByRecursion (λ w. w ≢ v) (vehicles_of ts)
numbers_other v [] h = tt
numbers_other v (t ∷ ts) h = (h 0 t (omega arith), numbers_other v ts (λ k d l. h (suc k) d (omega arith)))

module _ (ms : Managers) (seats : List Seats) (legs : List PlannedLeg) (ready : AreReady ms seats legs) where
  -- at first each leg's seat has its new pass
  first_new : (k : ℕ) (d : PlannedLeg) → k < length legs → HasNew ms seats (get_or legs k d)
  first_new k d l =
      let fit = ready.fit.each k d l in
      let within : (get_or legs k d).crossing < length ms = fit.crossing in
      let n : length seats ≡ length ms = count_seats ready.layouts ready.vehicles ms seats ready.open_are in
      let m = there ms (get_or legs k d).crossing within in
      let s = there seats (get_or legs k d).crossing (omega arith) in
      let new = new_at ready.layouts ready.vehicles ms seats (get_or legs k d).crossing m.0 s.0 ready.open_are m.1 s.1 in
      let many : m.0.setting.vehicles ≡ ready.vehicles = (open_at ready.layouts ready.vehicles ms seats (get_or legs k d).crossing m.0 ready.open_are m.1).vehicles_is in
      let low : (get_or legs k d).vehicle < ready.vehicles = fit.vehicle in
      record { manager = m.0; there = s.0; stands = m.1; at = s.1; new = new_held m.0 s.0 (get_or legs k d).vehicle new (omega arith) }

  -- and so has each leg of a vehicle that no traveller has
  pub new_for : (now : List Seats) (ts : List TravellerModel) (v : ℕ) → AllKeep (map seat_of (legs_of_all legs (vehicles_of ts))) seats now → All (λ (t : TravellerModel). t.vehicle ≢ v) ts
      → All (λ (p : PlannedLeg). p.vehicle ≡ v → HasNew ms now p) legs
  new_for now ts v keeps none k d l own =
      kept_new ms (map seat_of (legs_of_all legs (vehicles_of ts))) seats now (get_or legs k d) (first_new k d l) keeps
      (subst (λ w. AreOthers w (get_or legs k d).crossing (map seat_of (legs_of_all legs (vehicles_of ts)))) (sym own)
      (others_vehicles v (get_or legs k d).crossing legs (vehicles_of ts) (numbers_other v ts none)))

  pub all_bare : All (λ (p : PlannedLeg). IsBare p.plan) legs
  all_bare k d l = (ready.fit.each k d l).bare

  pub made_own : (v : ℕ) (ls : List LegModel) → AllZip (IsMadeLeg ms) (legs_for v legs) ls → AreLegsOf v ls
  made_own v ls made = legs_own ms ready.vehicles (length ms) v legs ls ready.fit made

-- a vehicle of a leg has legs
some_for : (v : ℕ) (legs : List PlannedLeg) (k : ℕ) (d : PlannedLeg) → k < length legs → (get_or legs k d).vehicle ≡ v → 0 < length (legs_for v legs)
some_for v [] k d l own = absurd (omega arith)
some_for v (x ∷ xs) zero d l own = subst (λ b. 0 < length (if b then x ∷ legs_for v xs else legs_for v xs)) (sym (eq-eqb x.vehicle v own)) (omega arith)
some_for v (x ∷ xs) (suc k) d l own = go (x.vehicle == v) (some_for v xs k d (omega arith) own)
  where
    go : (b : Bool) → 0 < length (legs_for v xs) → 0 < length (if b then x ∷ legs_for v xs else legs_for v xs)
    go true some = omega arith
    go false some = some

pub some_made : (ms : Managers) (legs : List PlannedLeg) (k : ℕ) (p : PlannedLeg) (ls : List LegModel) → k < length legs → p ≡ get_or legs k p → AllZip (IsMadeLeg ms) (legs_for p.vehicle legs) ls → 0 < length ls
some_made ms legs k p ls l is made =
    let some : 0 < length (legs_for p.vehicle legs) = some_for p.vehicle legs k p l (ap (λ (q : PlannedLeg). q.vehicle) (sym is)) in
    let n : length ls ≡ length (legs_for p.vehicle legs) = zip_length (IsMadeLeg ms) (legs_for p.vehicle legs) ls made in
    omega arith

-- one traveller more

all_push : (legs : List PlannedLeg) (vs : List ℕ) (v : ℕ) → legs_of_all legs (vs ++ v ∷ []) ≡ legs_of_all legs vs ++ legs_for v legs
all_push legs [] v = append-nil (legs_for v legs)
all_push legs (w ∷ vs) v = ap (λ l. legs_for w legs ++ l) (all_push legs vs v) ∙ sym (append_assoc (legs_for w legs) (legs_of_all legs vs) (legs_for v legs))

pub keep_more : (legs : List PlannedLeg) (ts : List TravellerModel) (t : TravellerModel) (v : ℕ) (seats now next : List Seats) → t.vehicle ≡ v → AllKeep (map seat_of (legs_of_all legs (vehicles_of ts))) seats now → AllKeep (map seat_of (legs_for v legs)) now next
    → AllKeep (map seat_of (legs_of_all legs (vehicles_of (ts ++ t ∷ [])))) seats next
keep_more legs ts t v seats now next is p q =
    subst (λ ss. AllKeep ss seats next)
    (sym (ap (λ vs. map seat_of (legs_of_all legs vs)) (map-append (λ (u : TravellerModel). u.vehicle) ts (t ∷ []))
    ∙ ap (map seat_of) (all_push legs (vehicles_of ts) t.vehicle)
    ∙ ap (λ w. map seat_of (legs_of_all legs (vehicles_of ts) ++ legs_for w legs)) is
    ∙ map-append seat_of (legs_of_all legs (vehicles_of ts)) (legs_for v legs)))
    (all_keep_then (map seat_of (legs_of_all legs (vehicles_of ts))) (map seat_of (legs_for v legs)) seats now next p q)

pub set_out_none : (ms : Managers) (legs : List PlannedLeg) → AreSetOut ms legs (take 0 legs) []
set_out_none ms legs = record { each = λ k d l. absurd (omega arith); one_each = λ i j d lt l. absurd (omega arith); everyone = λ k d l. absurd (omega arith) }

-- the leg's vehicle has set out already
pub set_out_same : (ms : Managers) (legs : List PlannedLeg) (k : ℕ) (p : PlannedLeg) (ts : List TravellerModel) → k < length legs → p ≡ get_or legs k p → Contains (vehicles_of ts) p.vehicle → AreSetOut ms legs (take k legs) ts
    → AreSetOut ms legs (take (k + 1) legs) ts
set_out_same ms legs k p ts l is has out = record {
  each = out.each;
  one_each = out.one_each;
  everyone = All-more (λ (q : PlannedLeg). Contains (vehicles_of ts) q.vehicle) legs k p l out.everyone (subst (λ (q : PlannedLeg). Contains (vehicles_of ts) q.vehicle) is has);
}

pub set_out_more : (ms : Managers) (legs : List PlannedLeg) (k : ℕ) (p : PlannedLeg) (ts : List TravellerModel) (ls : List LegModel) (t : TravellerModel) → k < length legs → p ≡ get_or legs k p → All (λ (u : TravellerModel). u.vehicle ≢ p.vehicle) ts
    → AllZip (IsMadeLeg ms) (legs_for p.vehicle legs) ls → SetsOut p.vehicle ls t → AreSetOut ms legs (take k legs) ts → AreSetOut ms legs (take (k + 1) legs) (ts ++ t ∷ [])
set_out_more ms legs k p ts ls t l is none made out before = record {
  each = All-push (IsSetOut ms legs) ts t before.each (record {
    made = ls;
    legs_are = subst (λ v. AllZip (IsMadeLeg ms) (legs_for v legs) ls) (sym out.vehicle_is) made;
    out = subst (λ v. SetsOut v ls t) (sym out.vehicle_is) out;
  });
  one_each = all_pairs_push (λ (a b : TravellerModel). a.vehicle ≢ b.vehicle) ts t before.one_each (λ j d lt e. none j d lt (e ∙ out.vehicle_is));
  everyone =
      subst (λ vs. All (λ (q : PlannedLeg). Contains vs q.vehicle) (take (k + 1) legs)) (sym (map-append (λ (u : TravellerModel). u.vehicle) ts (t ∷ [])))
      (All-more (λ (q : PlannedLeg). Contains (vehicles_of ts ++ t.vehicle ∷ []) q.vehicle) legs k p l
      (All-weaker (λ (q : PlannedLeg). Contains (vehicles_of ts) q.vehicle) (λ (q : PlannedLeg). Contains (vehicles_of ts ++ t.vehicle ∷ []) q.vehicle) (λ q has. Contains-append_left (vehicles_of ts) (t.vehicle ∷ []) q.vehicle has) (take k legs) before.everyone)
      (subst (λ v. Contains (vehicles_of ts ++ t.vehicle ∷ []) v) (out.vehicle_is ∙ ap (λ (q : PlannedLeg). q.vehicle) is) (Contains-push (vehicles_of ts) t.vehicle)));
}

pub set_out_all : (ms : Managers) (legs : List PlannedLeg) (k : ℕ) (ts : List TravellerModel) → length legs ≤ k → AreSetOut ms legs (take k legs) ts → AreSetOut ms legs legs ts
set_out_all ms legs k ts l out = subst (λ (ps : List PlannedLeg). AreSetOut ms legs ps ts) (take_all k legs l) out

pub keep_none : (legs : List PlannedLeg) (seats : List Seats) → AllKeep (map seat_of (legs_of_all legs (vehicles_of []))) seats seats
keep_none legs seats = none_kept seats
