-- The rides of travellers: their legs, each with the log of its driver, one traveller after another.
use Rattle.std.proofs.Common.{◌≡◌, ◌≢◌, ℕ, ◌==◌, Bool, true, false, ◌⊎◌, inl, inr, List, [], ◌∷◌, ◌++◌, map, if◌then◌else◌, refl, sym, ap, ◌∙◌, subst}
use Rattle.std.specs.List.{AllByRecursion, AllZip, filter}
use Rattle.std.proofs.lemmas.Bool.{cases_eq, eqb-true, eq-eqb, ne_eqb}
use Rattle.std.proofs.lemmas.List.{map-append, append-nil}
use Rattle.std.proofs.lemmas.List.Elements.{filter-append}
use Rattle.aim_grid.specs.Legs.{LegTold, legs_told}
use Rattle.aim_grid.specs.Models.{TravellerModel}
use Rattle.aim_grid_script.specs.declared.routes.PlannedLeg.{PlannedLeg}
use Rattle.aim_grid.specs.Travelled.{Ride, rides_of, logs_at, told_by}
use Rattle.aim_grid.specs.Runs.{planned_of, legs_for}
use Rattle.aim_grid.specs.Making.{seat_of, legs_of_all, vehicles_of}
use Rattle.aim_grid.proofs.Places.{AreDistinctNumbers}
use Rattle.aim_grid.specs.Closing.{Gone, gone, gone_of, all_gone, seat_gone, logs_gone}

abbrev pub ride_of : PlannedLeg → LegTold → Ride
ride_of p x = record { vehicle = p.vehicle; crossing = p.crossing; plan = p.plan; log = x.1 }

abbrev pub rides_by : List PlannedLeg → List LegTold → List Ride
rides_by [] xs = []
rides_by (p ∷ ps) [] = []
rides_by (p ∷ ps) (x ∷ xs) = ride_of p x ∷ rides_by ps xs

abbrev pub rides_in : List PlannedLeg → TravellerModel → List Ride
rides_in legs t = rides_by (legs_for t.vehicle legs) (legs_told t)

abbrev pub all_rides : List PlannedLeg → List TravellerModel → List Ride
all_rides legs [] = []
all_rides legs (t ∷ ts) = rides_in legs t ++ all_rides legs ts

-- a leg is told of the crossing at which it was planned
abbrev pub IsToldAt : PlannedLeg → LegTold → Type 0
IsToldAt p x = x.0 ≡ p.crossing

-- all legs that are planned for a vehicle are told of
abbrev pub AreToldAt : List PlannedLeg → TravellerModel → Type 0
AreToldAt legs t = AllZip IsToldAt (legs_for t.vehicle legs) (legs_told t)

pub vehicle_for : (v : ℕ) (legs : List PlannedLeg) → AllByRecursion (λ (p : PlannedLeg). p.vehicle ≡ v) (legs_for v legs)
vehicle_for v [] = tt
vehicle_for v (l ∷ ls) = go (l.vehicle == v) refl (vehicle_for v ls)
  where
    go : (b : Bool) → (l.vehicle == v) ≡ b → AllByRecursion (λ (p : PlannedLeg). p.vehicle ≡ v) (legs_for v ls) → AllByRecursion (λ (p : PlannedLeg). p.vehicle ≡ v) (if b then l ∷ legs_for v ls else legs_for v ls)
    go true e rest = (eqb-true l.vehicle v e, rest)
    go false e rest = rest

pub rides_planned : (ps : List PlannedLeg) (xs : List LegTold) → AllZip IsToldAt ps xs → map planned_of (rides_by ps xs) ≡ ps
rides_planned [] [] h = refl
rides_planned [] (x ∷ xs) h = absurd h
rides_planned (p ∷ ps) [] h = absurd h
rides_planned (p ∷ ps) (x ∷ xs) h = ap (λ (l : List PlannedLeg). p ∷ l) (rides_planned ps xs h.1)

pub seats_told : (v : ℕ) (ps : List PlannedLeg) (xs : List LegTold) → AllByRecursion (λ (p : PlannedLeg). p.vehicle ≡ v) ps → AllZip IsToldAt ps xs → map seat_gone (map (gone v) xs) ≡ map seat_of ps
seats_told v [] [] own h = refl
seats_told v [] (x ∷ xs) own h = absurd h
seats_told v (p ∷ ps) [] own h = absurd h
seats_told v (p ∷ ps) (x ∷ xs) own h = λ i. (sym own.0 i, h.0 i) ∷ seats_told v ps xs own.1 h.1 i

-- those of one vehicle, asked for by its number and by another
own_rides : (v : ℕ) (ps : List PlannedLeg) (xs : List LegTold) → AllByRecursion (λ (p : PlannedLeg). p.vehicle ≡ v) ps → rides_of v (rides_by ps xs) ≡ rides_by ps xs
own_rides v [] xs own = refl
own_rides v (p ∷ ps) [] own = refl
own_rides v (p ∷ ps) (x ∷ xs) own =
    ap (λ b. if b then ride_of p x ∷ rides_of v (rides_by ps xs) else rides_of v (rides_by ps xs)) (eq-eqb p.vehicle v own.0)
    ∙ ap (λ (l : List Ride). ride_of p x ∷ l) (own_rides v ps xs own.1)

other_rides : (v w : ℕ) (ps : List PlannedLeg) (xs : List LegTold) → w ≢ v → AllByRecursion (λ (p : PlannedLeg). p.vehicle ≡ w) ps → rides_of v (rides_by ps xs) ≡ []
other_rides v w [] xs ne own = refl
other_rides v w (p ∷ ps) [] ne own = refl
other_rides v w (p ∷ ps) (x ∷ xs) ne own =
    ap (λ b. if b then ride_of p x ∷ rides_of v (rides_by ps xs) else rides_of v (rides_by ps xs)) (ne_eqb p.vehicle v (λ e. ne (sym own.0 ∙ e)))
    ∙ other_rides v w ps xs ne own.1

-- a vehicle that is none of the travellers' has no rides
none_rides : (legs : List PlannedLeg) (v : ℕ) (ts : List TravellerModel) → AllByRecursion (λ w. w ≢ v) (vehicles_of ts) → rides_of v (all_rides legs ts) ≡ []
none_rides legs v [] none = refl
none_rides legs v (t ∷ ts) none =
    filter-append (λ (r : Ride). r.vehicle == v) (rides_in legs t) (all_rides legs ts)
    ∙ (λ i. other_rides v t.vehicle (legs_for t.vehicle legs) (legs_told t) none.0 (vehicle_for t.vehicle legs) i ++ none_rides legs v ts none.1 i)

-- the rides of a vehicle are those of its traveller
pub record AreRidesOf (legs : List PlannedLeg) (P : TravellerModel → Type 0) (v : ℕ) (rides : List Ride) : Type 0 where
  pub traveller : TravellerModel
  pub known : P traveller
  pub vehicle : traveller.vehicle ≡ v
  pub are : rides_of v rides ≡ rides_in legs traveller

pub who_rides : (legs : List PlannedLeg) (P : TravellerModel → Type 0) (v : ℕ) (ts : List TravellerModel) → AreDistinctNumbers (vehicles_of ts) → AllByRecursion P ts
    → AreRidesOf legs P v (all_rides legs ts) ⊎ ((rides_of v (all_rides legs ts) ≡ []) × AllByRecursion (λ w. w ≢ v) (vehicles_of ts))
who_rides legs P v [] d all = inr (refl, tt)
who_rides legs P v (t ∷ ts) d all =
    elim (cases_eq t.vehicle v) [
      | inl e ↦ inl (record {
        traveller = t;
        known = all.0;
        vehicle = e;
        are =
            filter-append (λ (r : Ride). r.vehicle == v) (rides_in legs t) (all_rides legs ts)
            ∙ (λ i. here e i ++ none_rides legs v ts (subst (λ u. AllByRecursion (λ w. w ≢ u) (vehicles_of ts)) e d.0) i)
            ∙ append-nil (rides_in legs t);
      })
      | inr ne ↦ later ne (who_rides legs P v ts d.1 all.1)
    ]
  where
    here : t.vehicle ≡ v → rides_of v (rides_in legs t) ≡ rides_in legs t
    here e = subst (λ u. rides_of u (rides_in legs t) ≡ rides_in legs t) e (own_rides t.vehicle (legs_for t.vehicle legs) (legs_told t) (vehicle_for t.vehicle legs))

    step : t.vehicle ≢ v → rides_of v (all_rides legs (t ∷ ts)) ≡ rides_of v (all_rides legs ts)
    step ne =
        filter-append (λ (r : Ride). r.vehicle == v) (rides_in legs t) (all_rides legs ts)
        ∙ ap (λ (l : List Ride). l ++ rides_of v (all_rides legs ts)) (other_rides v t.vehicle (legs_for t.vehicle legs) (legs_told t) ne (vehicle_for t.vehicle legs))

    later : t.vehicle ≢ v → AreRidesOf legs P v (all_rides legs ts) ⊎ ((rides_of v (all_rides legs ts) ≡ []) × AllByRecursion (λ w. w ≢ v) (vehicles_of ts))
        → AreRidesOf legs P v (all_rides legs (t ∷ ts)) ⊎ ((rides_of v (all_rides legs (t ∷ ts)) ≡ []) × AllByRecursion (λ w. w ≢ v) (vehicles_of (t ∷ ts)))
    later ne (inl r) = inl (record { traveller = r.traveller; known = r.known; vehicle = r.vehicle; are = step ne ∙ r.are })
    later ne (inr h) = inr (step ne ∙ h.0, (ne, h.1))

-- the logs of a crossing are those that came back there

same_test : (x y c : ℕ) → x ≡ y → (x == c) ≡ (y == c)
same_test x y c e = ap (λ n. n == c) e

logs_by : (c v : ℕ) (ps : List PlannedLeg) (xs : List LegTold) → AllByRecursion (λ (p : PlannedLeg). p.vehicle ≡ v) ps → AllZip IsToldAt ps xs → logs_at c (rides_by ps xs) ≡ logs_gone c (map (gone v) xs)
logs_by c v [] [] own h = refl
logs_by c v [] (x ∷ xs) own h = absurd h
logs_by c v (p ∷ ps) [] own h = absurd h
logs_by c v (p ∷ ps) (x ∷ xs) own h =
    pick (p.crossing == c) (x.0 == c) (same_test p.crossing x.0 c (sym h.0)) (logs_by c v ps xs own.1 h.1)
  where
    pick : (a b : Bool) → a ≡ b → logs_at c (rides_by ps xs) ≡ logs_gone c (map (gone v) xs)
        → map told_by (if a then ride_of p x ∷ filter (λ (r : Ride). r.crossing == c) (rides_by ps xs) else filter (λ (r : Ride). r.crossing == c) (rides_by ps xs))
        ≡ map (λ (g : Gone). (g.vehicle, g.log)) (if b then gone v x ∷ filter (λ (g : Gone). g.crossing == c) (map (gone v) xs) else filter (λ (g : Gone). g.crossing == c) (map (gone v) xs))
    pick true true e rest = λ i. (own.0 i, x.1) ∷ rest i
    pick true false e rest = absurd (cc e)
    pick false true e rest = absurd (cc e)
    pick false false e rest = rest

logs_append : (c : ℕ) (rs qs : List Ride) → logs_at c (rs ++ qs) ≡ logs_at c rs ++ logs_at c qs
logs_append c rs qs = ap (map told_by) (filter-append (λ (r : Ride). r.crossing == c) rs qs) ∙ map-append told_by (filter (λ (r : Ride). r.crossing == c) rs) (filter (λ (r : Ride). r.crossing == c) qs)

pub gone_append : (c : ℕ) (gs hs : List Gone) → logs_gone c (gs ++ hs) ≡ logs_gone c gs ++ logs_gone c hs
gone_append c gs hs =
    ap (map (λ (g : Gone). (g.vehicle, g.log))) (filter-append (λ (g : Gone). g.crossing == c) gs hs)
    ∙ map-append (λ (g : Gone). (g.vehicle, g.log)) (filter (λ (g : Gone). g.crossing == c) gs) (filter (λ (g : Gone). g.crossing == c) hs)

pub logs_of_all : (c : ℕ) (legs : List PlannedLeg) (ts : List TravellerModel) → AllByRecursion (AreToldAt legs) ts → logs_at c (all_rides legs ts) ≡ logs_gone c (all_gone ts)
logs_of_all c legs [] h = refl
logs_of_all c legs (t ∷ ts) h =
    logs_append c (rides_in legs t) (all_rides legs ts)
    ∙ (λ i. logs_by c t.vehicle (legs_for t.vehicle legs) (legs_told t) (vehicle_for t.vehicle legs) h.0 i ++ logs_of_all c legs ts h.1 i)
    ∙ sym (gone_append c (gone_of t) (all_gone ts))

pub seats_of_all : (legs : List PlannedLeg) (ts : List TravellerModel) → AllByRecursion (AreToldAt legs) ts → map seat_gone (all_gone ts) ≡ map seat_of (legs_of_all legs (vehicles_of ts))
seats_of_all legs [] h = refl
seats_of_all legs (t ∷ ts) h =
    map-append seat_gone (gone_of t) (all_gone ts)
    ∙ (λ i. seats_told t.vehicle (legs_for t.vehicle legs) (legs_told t) (vehicle_for t.vehicle legs) h.0 i ++ seats_of_all legs ts h.1 i)
    ∙ sym (map-append seat_of (legs_for t.vehicle legs) (legs_of_all legs (vehicles_of ts)))

-- a vehicle that no traveller has is none of the legs'
pub no_plans : (legs : List PlannedLeg) (v : ℕ) (vs : List ℕ) → AllByRecursion (λ w. w ≢ v) vs → AllByRecursion (λ (p : PlannedLeg). AllByRecursion (λ w. w ≢ p.vehicle) vs → ⊥) legs → legs_for v legs ≡ []
no_plans [] v vs none all = refl
no_plans (l ∷ ls) v vs none all =
    ap (λ b. if b then l ∷ legs_for v ls else legs_for v ls) (ne_eqb l.vehicle v (λ e. all.0 (subst (λ u. AllByRecursion (λ w. w ≢ u) vs) (sym e) none)))
    ∙ no_plans ls v vs none all.1
