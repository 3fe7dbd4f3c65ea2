-- The journal of a crossing has at most 128 entries of a vehicle.
use Rattle.std.proofs.Common.{◌≡◌, ◌≢◌, ◌⊎◌, inl, inr, ℕ, zero, suc, ◌≤◌, ◌==◌, Bool, true, false, true≢false, List, [], ◌∷◌, length, map, Option, Some, None, refl, sym, ap, ◌∙◌, subst, arith}
use Rattle.std.specs.Prelude.{slice_get}
use Rattle.std.specs.List.{filter}
use Rattle.std.proofs.lemmas.Bool.{cases_Bool, eqb-true, eq-eqb}
use Rattle.std.proofs.lemmas.List.{length-map}
use Rattle.aim_messages.specs.declared.entries.Entry.{Entry}
use Rattle.aim_layout.specs.Intersection.{Intersection}
use Rattle.aim_rules.specs.Cells.{IsIn}
use Rattle.aim_driver.specs.declared.logs.LogItem.{LogItem}
use Rattle.aim_driver.specs.Fits.{call_of, entries_of, replies_of}
use Rattle.aim_driver.specs.Follows.{Call}
use Rattle.aim_driver.proofs.CountLemmas.{follows_few}
use Rattle.aim_driver.proofs.SmallFacts.{none_some, some_is}
use Rattle.aim_drive_script.specs.Said.{Drive}
use Rattle.aim_grid.specs.Headline.{IsFollowed, VehicleLog}
use Rattle.aim_grid.specs.Acked.{acked}
use Rattle.aim_grid.specs.Travelled.{AreLegs, AreTravelled, IsLeg, Ride, drive_behind, journal_in, logs_at, rides_of, told_by}

abbrev FewOf : List Entry → ℕ → Type 0
FewOf h v = length (entries_of h v) ≤ 128

followed_few : (until : ℕ) (h : List Entry) (d : Drive) (log : List LogItem) → IsFollowed until h d log → FewOf h d.vehicle
followed_few until h d log f =
    let most : length f.calls ≤ 128 = subst (λ (r : List LogItem × List Call). length r.1 ≤ 128) f.course (follows_few d.plan d.up d.down 0 until (replies_of h d.vehicle)) in
    let same : length (map call_of (entries_of h d.vehicle)) ≡ length (map (λ (c : Call). Some c) f.calls) = ap (λ (cs : List (Option Call)). length cs) f.carried in
    let size : length (map call_of (entries_of h d.vehicle)) ≡ length (entries_of h d.vehicle) = length-map (entries_of h d.vehicle) call_of in
    let told : length (map (λ (c : Call). Some c) f.calls) ≡ length f.calls = length-map f.calls (λ (c : Call). Some c) in
    omega (arith, most, same, size, told)

leg_few : (until : ℕ) (h : List Entry) (begun : Option ℕ) (r : Ride) → IsLeg until h begun r → FewOf h r.vehicle
leg_few until h None r l = let none : length (entries_of h r.vehicle) ≡ 0 = ap (λ (es : List Entry). length es) l.1 in omega (arith, none)
leg_few until h (Some step) r l = followed_few until h (drive_behind step r) r.log l

legs_few : (until : ℕ) (journal : ℕ → List Entry) (begun : Option ℕ) (rs : List Ride) → AreLegs until journal begun rs → (r : Ride) → IsIn r rs → FewOf (journal r.crossing) r.vehicle
legs_few until journal begun [] legs r m = absurd m
legs_few until journal begun (q ∷ rs) legs r (inl is) = subst (λ (x : Ride). FewOf (journal x.crossing) x.vehicle) (sym is) (leg_few until (journal q.crossing) begun q legs.0)
legs_few until journal begun (q ∷ rs) legs r (inr m) = legs_few until journal (acked q.log) rs legs.1 r m

in_filter : (test : Ride → Bool) (rs : List Ride) (r : Ride) → IsIn r rs → test r ≡ true → IsIn r (filter test rs)
in_filter test [] r m pass = absurd m
in_filter test (q ∷ rs) r (inl is) pass = rw (ap test (sym is) ∙ pass) (inl is)
in_filter test (q ∷ rs) r (inr m) pass = elim (cases_Bool (test q)) [
  | inl t ↦ rw t (inr (in_filter test rs r m pass))
  | inr f ↦ rw f (in_filter test rs r m pass)
]

-- a ride of the vehicle at the crossing
record Rides (c v : ℕ) (rides : List Ride) : Type 0 where
  ride : Ride
  there : IsIn ride rides
  vehicle : ride.vehicle ≡ v
  crossing : ride.crossing ≡ c

abbrev NoneOf : ℕ → ℕ → List Ride → Type 0
NoneOf c v rides = (k : ℕ) (x : VehicleLog) → slice_get (logs_at c rides) k ≡ Some x → x.0 ≢ v

some_ride : (c v : ℕ) (rides : List Ride) → Rides c v rides ⊎ NoneOf c v rides
some_ride c v [] = inr (λ k x at. absurd (none_some x at))
some_ride c v (r ∷ rides) = elim (some_ride c v rides) [
  | inl f ↦ inl (record { ride = f.ride; there = inr f.there; vehicle = f.vehicle; crossing = f.crossing })
  | inr none ↦ elim (cases_Bool (r.crossing == c)) [
    | inr elsewhere ↦ inr (rw elsewhere none)
    | inl here ↦ elim (cases_Bool (r.vehicle == v)) [
      | inl own ↦ inl (record { ride = r; there = inl refl; vehicle = eqb-true r.vehicle v own; crossing = eqb-true r.crossing c here })
      | inr other ↦ inr (rw here (others other none))
    ]
  ]
]
  where
    others : (r.vehicle == v) ≡ false → NoneOf c v rides → (k : ℕ) (x : VehicleLog) → slice_get (told_by r ∷ logs_at c rides) k ≡ Some x → x.0 ≢ v
    others other none zero x at = λ own. true≢false (sym (eq-eqb r.vehicle v (ap (λ (y : VehicleLog). y.0) (some_is (told_by r) x at) ∙ own)) ∙ other)
    others other none (suc k) x at = none k x at

journal_is : (hs : List (List Entry)) (c : ℕ) (h : List Entry) → slice_get hs c ≡ Some h → journal_in hs c ≡ h
journal_is [] c h at = absurd (none_some h at)
journal_is (g ∷ hs) zero h at = some_is g h at
journal_is (g ∷ hs) (suc c) h at = journal_is hs c h at

pub few_at : (layouts : List Intersection) (vehicles until : ℕ) (hs : List (List Entry)) (rides : List Ride) → AreTravelled layouts vehicles until hs rides → (c : ℕ) (i : Intersection) (h : List Entry) → slice_get layouts c ≡ Some i → slice_get hs c ≡ Some h
    → (v : ℕ) → length (entries_of h v) ≤ 128
few_at layouts vehicles until hs rides t c i h layout journal v = elim (some_ride c v rides) [
  | inl f ↦ (
      let among : IsIn f.ride (rides_of v rides) = in_filter (λ r. r.vehicle == v) rides f.ride f.there (eq-eqb f.ride.vehicle v f.vehicle) in
      let few = legs_few until (journal_in hs) (Some 0) (rides_of v rides) (t.legs v) f.ride among in
      let here : journal_in hs f.ride.crossing ≡ h = ap (journal_in hs) f.crossing ∙ journal_is hs c h journal in
      subst (λ n. FewOf h n) f.vehicle (subst (λ (g : List Entry). FewOf g f.ride.vehicle) here few))
  | inr none ↦ (let e : length (entries_of h v) ≡ 0 = ap (λ (es : List Entry). length es) ((t.crossings c i h layout journal).others v none) in omega (arith, e))
]
