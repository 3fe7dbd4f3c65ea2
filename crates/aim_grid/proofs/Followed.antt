-- The rides of a vehicle are what its driver follows, leg after leg.
use Rattle.std.proofs.Common.{◌≡◌, ℕ, zero, suc, ◌≤◌, ◌==◌, Bool, true, false, if◌then◌else◌, List, [], ◌∷◌, map, Option, Some, None, refl, sym, ap, ◌∙◌, subst}
use Rattle.std.specs.Prelude.{slice_get}
use Rattle.std.specs.List.{AllByRecursion, AllZip, filter}
use Rattle.std.proofs.lemmas.Bool.{eqb-true}
use Rattle.aim_messages.specs.declared.entries.Entry.{Entry}
use Rattle.aim_driver.specs.declared.logs.LogItem.{LogItem}
use Rattle.aim_driver.specs.Fits.{entries_of, call_of, reply_of}
use Rattle.aim_driver.specs.Follows.{follows}
use Rattle.aim_safety.specs.Tiles.{EntersBy}
use Rattle.aim_grid.specs.Acked.{acked, begun_at}
use Rattle.aim_grid.specs.Models.{LegModel}
use Rattle.aim_grid.specs.Rode.{Managers}
use Rattle.aim_grid.specs.Legs.{AreFollowed, IsLegLeft, LegTold}
use Rattle.aim_drive.specs.Headline.{VehicleLog}
use Rattle.aim_drive.proofs.Entering.{enters_by}
use Rattle.aim_grid_script.specs.declared.routes.PlannedLeg.{PlannedLeg}
use Rattle.aim_grid_script.specs.Fits.{FitsLeg}
use Rattle.aim_grid.specs.Travelled.{Ride, AreLate, AreLegs, IsLeg, logs_at, told_by}
use Rattle.aim_grid.specs.Making.{IsMadeLeg}
use Rattle.aim_grid.specs.Closing.{Gone, gone}
use Rattle.aim_grid.proofs.Rides.{IsToldAt, ride_of, rides_by}

module _ (until : ℕ) (journal : ℕ → List Entry) where
  -- the journal of its crossing has of its vehicle what its pass has
  abbrev pub IsInJournal : Gone → Type 0
  IsInJournal g = entries_of (journal g.crossing) g.vehicle ≡ g.pass.mine

  ride_is : (begun : Option ℕ) (p : PlannedLeg) (l : LegModel) (x : LegTold) → l.plan ≡ p.plan → x.0 ≡ p.crossing → IsInJournal (gone p.vehicle x) → IsLegLeft until begun l x
      → IsLeg until (journal p.crossing) begun (ride_of p x)
  ride_is None p l x plan at own h = (h.0, ap (λ n. entries_of (journal n) p.vehicle) (sym at) ∙ own ∙ h.1)
  ride_is (Some step) p l x plan at own h =
      let has : entries_of (journal p.crossing) p.vehicle ≡ x.2.mine = ap (λ n. entries_of (journal n) p.vehicle) (sym at) ∙ own in
      record {
        calls = h.calls;
        course = (λ i. follows (begun_at step (sym plan i)) [] [] until (map reply_of (has i))) ∙ h.follows;
        carried = ap (map call_of) has ∙ h.carried;
      }

  pub rides_follow : (ms : Managers) (begun : Option ℕ) (v : ℕ) (ps : List PlannedLeg) (ls : List LegModel) (xs : List LegTold) → AllByRecursion (λ (p : PlannedLeg). p.vehicle ≡ v) ps → AllZip (IsMadeLeg ms) ps ls
      → AllZip IsToldAt ps xs → AllByRecursion IsInJournal (map (gone v) xs) → AreFollowed until begun ls xs → AreLegs until journal begun (rides_by ps xs)
  rides_follow ms begun v [] ls xs own made told has f = tt
  rides_follow ms begun v (p ∷ ps) [] xs own made told has f = absurd made
  rides_follow ms begun v (p ∷ ps) (l ∷ ls) [] own made told has f = absurd f
  rides_follow ms begun v (p ∷ ps) (l ∷ ls) (x ∷ xs) own made told has f = (
    ride_is begun p l x made.0.plan_is told.0 (subst (λ n. IsInJournal (gone n x)) (sym own.0) has.0) f.1,
    rides_follow ms (acked x.1) v ps ls xs own.1 made.1 told.1 has.1 f.2,
  )

  -- a ride that was begun somehow
  pub record IsRide (r : Ride) : Type 0 where
    pub begun : Option ℕ
    pub leg : IsLeg until (journal r.crossing) begun r
    pub lead : r.plan.lead ≤ 65536

  pub rides_each : (vehicles crossings : ℕ) (begun : Option ℕ) (ps : List PlannedLeg) (xs : List LegTold) → AllByRecursion (FitsLeg vehicles crossings) ps → AreLegs until journal begun (rides_by ps xs)
      → AllByRecursion IsRide (rides_by ps xs)
  rides_each vehicles crossings begun [] xs fit h = tt
  rides_each vehicles crossings begun (p ∷ ps) [] fit h = tt
  rides_each vehicles crossings begun (p ∷ ps) (x ∷ xs) fit h = (
    record { begun = begun; leg = h.0; lead = fit.0.short_lead },
    rides_each vehicles crossings (acked x.1) ps xs fit.1 h.1,
  )

  -- the ride of a log at a crossing
  pub record IsRideOf (c : ℕ) (x : VehicleLog) : Type 0 where
    pub ride : Ride
    pub known : IsRide ride
    pub at : ride.crossing ≡ c
    pub log : told_by ride ≡ x

  pub ride_at : (c : ℕ) (rides : List Ride) (k : ℕ) (x : VehicleLog) → AllByRecursion IsRide rides → slice_get (logs_at c rides) k ≡ Some x → IsRideOf c x
  ride_at c [] k x all is = absurd (none_some x is)
    where
      none_some : (x : VehicleLog) → None ≡ Some x → ⊥
      none_some x e = absurd (cc e)
  ride_at c (r ∷ rs) k x all is = go (r.crossing == c) refl k is (λ j at. ride_at c rs j x all.1 at)
    where
      some_is : (y : VehicleLog) → Some y ≡ Some x → y ≡ x
      some_is y e = cc e

      go : (b : Bool) → (r.crossing == c) ≡ b → (k : ℕ) → slice_get (map told_by (if b then r ∷ filter (λ (q : Ride). q.crossing == c) rs else filter (λ (q : Ride). q.crossing == c) rs)) k ≡ Some x
          → ((j : ℕ) → slice_get (logs_at c rs) j ≡ Some x → IsRideOf c x) → IsRideOf c x
      go false e k is later = later k is
      go true e zero is later = record { ride = r; known = all.0; at = eqb-true r.crossing c e; log = some_is (told_by r) is }
      go true e (suc k) is later = later k is

  -- its driver enters at steps for which its tiles can be told
  leg_enters : (begun : Option ℕ) (r : Ride) → until ≤ 65536 → IsLeg until (journal r.crossing) begun r → EntersBy 2147483648 r.log
  leg_enters None r below h = subst (λ (log : List LogItem). EntersBy 2147483648 log) (sym h.0) tt
  leg_enters (Some step) r below h = enters_by h below

  pub ride_enters : (r : Ride) → until ≤ 65536 → IsRide r → EntersBy 2147483648 r.log
  ride_enters r below h = leg_enters h.begun r below h.leg

pub rides_late : (vehicles crossings : ℕ) (ps : List PlannedLeg) (xs : List LegTold) → AllByRecursion (FitsLeg vehicles crossings) ps → AreLate (rides_by ps xs)
rides_late vehicles crossings [] xs fit = tt
rides_late vehicles crossings (p ∷ ps) [] fit = tt
rides_late vehicles crossings (p ∷ ps) (x ∷ xs) fit = (fit.0.some_first, rides_late vehicles crossings ps xs fit.1)
