-- A run that is over: its journals and logs are those of travels on its legs.
use Rattle.std.proofs.Common.{◌≡◌, ◌≢◌, ℕ, ◌+◌, ◌*◌, ◌<◌, ◌≤◌, ◌⊎◌, inl, inr, List, [], ◌∷◌, length, map, get_or, Some, None, true, false, sym, ap, ◌∙◌, subst, arith}
use Rattle.std.specs.Prelude.{All, slice_get}
use Rattle.std.specs.List.{AllByRecursion}
use Rattle.std.proofs.lemmas.List.{get_or-map, length-map}
use Rattle.std.proofs.lemmas.Option.{get_or_from_slice_get, slice_get_within, slice_get-get_or}
use Rattle.aim_messages.specs.declared.entries.Entry.{Entry}
use Rattle.aim_geometry.specs.Cells.{Cell}
use Rattle.aim_layout.specs.Intersection.{Intersection}
use Rattle.aim_layout.specs.Valid.{IsValid}
use Rattle.aim_rules.specs.Claims.{green}
use Rattle.aim_rules.specs.Legal.{IsLegal}
use Rattle.aim_safety.specs.Occupied.{Passage, passage, is_on, is_occupied}
use Rattle.aim_safety.specs.Reserved.{Crosses, IsReserved}
use Rattle.aim_driver.specs.declared.logs.Entrance.{Entrance}
use Rattle.aim_driver.specs.Crossings.{first_entrance}
use Rattle.aim_safety.specs.Tiles.{EntersBy}
use Rattle.aim_turnstile.specs.History.{entries_of}
use Rattle.aim_turnstile.specs.Models.{TurnstileModel}
use Rattle.aim_grid.specs.BookSetting.{BookSetting}
use Rattle.aim_grid.specs.Seen.{caller_of}
use Rattle.aim_grid.specs.Route.{IsRoute}
use Rattle.aim_grid.specs.Models.{TravellerModel}
use Rattle.aim_grid.specs.Rode.{Managers}
use Rattle.aim_drive.specs.Headline.{VehicleLog}
use Rattle.aim_drive.specs.Making.{log_of}
use Rattle.aim_drive.specs.declared.running.Drove.{Drove}
use Rattle.aim_drive.specs.declared.running.Logged.{Logged}
use Rattle.aim_grid_script.specs.declared.routes.PlannedLeg.{PlannedLeg}
use Rattle.aim_grid.specs.Travelled.{Ride, AreLate, AreLegs, AreTravelled, IsCrossing, IsLeg, journal_in, logs_at, rides_of}
use Rattle.aim_grid.specs.Travelled as grid
use Rattle.aim_grid.proofs.Orders.{in_order}
use Rattle.aim_grid.proofs.Safe.{crosses, reserved, apart, clear}
use Rattle.aim_grid.specs.Runs.{IsRunOf, journal_left, logs_left, legs_for, planned_of}
use Rattle.aim_grid.specs.Making.{vehicles_of}
use Rattle.aim_grid.specs.Closing.{all_gone, logs_gone}
use Rattle.aim_grid.proofs.Places.{AreDistinctNumbers, each_append, each_weaker}
use Rattle.aim_grid.proofs.Rides.{AreRidesOf, AreToldAt, all_rides, logs_of_all, no_plans, rides_in, who_rides}
use Rattle.aim_grid.proofs.Followed.{IsRide, IsRideOf, ride_at, ride_enters}
use Rattle.aim_grid.proofs.Zips.{map_at, map_from, same_some, there}

-- what is known of a traveller's rides in the end
pub record IsDone (until : ℕ) (legs : List PlannedLeg) (journal : ℕ → List Entry) (u : TravellerModel) : Type 0 where
  pub follow : AreLegs until journal (Some 0) (rides_in legs u)
  pub late : AreLate (rides_in legs u)
  pub each : AllByRecursion (IsRide until journal) (rides_in legs u)
  pub planned : map planned_of (rides_in legs u) ≡ legs_for u.vehicle legs

-- what is known of a crossing with these logs
pub record IsLeftAt (vehicles : ℕ) (logs : List VehicleLog) (m : TurnstileModel BookSetting) (d : Drove) : Type 0 where
  pub vehicles_is : m.setting.vehicles ≡ vehicles
  pub legal : IsLegal m.setting.layout m.setting.vehicles d.journal.items
  pub fits : length d.journal.items ≤ 128 * vehicles + 1
  pub others : (n : ℕ) → ((k : ℕ) (x : VehicleLog) → slice_get logs k ≡ Some x → x.0 ≢ n) → entries_of caller_of n d.journal.items ≡ []
  pub logs_are : map log_of d.logs.items ≡ logs

module _ (layouts : List Intersection) (vehicles until : ℕ) (legs : List PlannedLeg) (ms : Managers) (us : List TravellerModel) (ds : List Drove) where
  -- the journal of a crossing
  abbrev pub journal : ℕ → List Entry
  journal c = journal_in (map journal_left ds) c

  -- all that is known in the end
  pub record IsOver : Type 0 where
    pub layouts_are : (c : ℕ) (m : TurnstileModel BookSetting) → slice_get ms c ≡ Some m → slice_get layouts c ≡ Some m.setting.layout
    pub count_managers : length ms ≡ length layouts
    pub count : length ds ≡ length ms
    pub valid : All (λ (m : TurnstileModel BookSetting). IsValid m.setting.layout) ms
    pub distinct : AreDistinctNumbers (vehicles_of us)
    pub told : AllByRecursion (AreToldAt legs) us
    pub everyone : AllByRecursion (λ (p : PlannedLeg). AllByRecursion (λ w. w ≢ p.vehicle) (vehicles_of us) → ⊥) legs
    pub done : AllByRecursion (IsDone until legs journal) us
    pub left : (c : ℕ) (m : TurnstileModel BookSetting) (d : Drove) → slice_get ms c ≡ Some m → slice_get ds c ≡ Some d → IsLeftAt vehicles (logs_gone c (all_gone us)) m d

  module _ (o : IsOver) where
    journal_is : (c : ℕ) (d : Drove) → slice_get ds c ≡ Some d → journal c ≡ d.journal.items
    journal_is c d at = get_or_from_slice_get (map journal_left ds) c (journal_left d) [] (map_at journal_left ds c d at)

    rides_each : AllByRecursion (IsRide until journal) (all_rides legs us)
    rides_each = go us (each_weaker (IsDone until legs journal) (λ (u : TravellerModel). AllByRecursion (IsRide until journal) (rides_in legs u)) us (λ u d. d.each) o.done)
      where
        go : (ts : List TravellerModel) → AllByRecursion (λ (u : TravellerModel). AllByRecursion (IsRide until journal) (rides_in legs u)) ts → AllByRecursion (IsRide until journal) (all_rides legs ts)
        go [] h = tt
        go (t ∷ ts) h = each_append (IsRide until journal) (rides_in legs t) (all_rides legs ts) h.0 (go ts h.1)

    who : (v : ℕ) → AreRidesOf legs (IsDone until legs journal) v (all_rides legs us) ⊎ ((rides_of v (all_rides legs us) ≡ []) × AllByRecursion (λ w. w ≢ v) (vehicles_of us))
    who v = who_rides legs (IsDone until legs journal) v us o.distinct o.done

    follow : (v : ℕ) → AreLegs until journal (Some 0) (rides_of v (all_rides legs us))
    follow v = elim (who v) [
      | inl a ↦ subst (λ (l : List Ride). AreLegs until journal (Some 0) l) (sym a.are) a.known.follow
      | inr none ↦ subst (λ (l : List Ride). AreLegs until journal (Some 0) l) (sym none.0) tt
    ]

    routes : (v : ℕ) → IsRoute (map grid.log_of (rides_of v (all_rides legs us)))
    routes v = elim (who v) [
      | inl a ↦ subst (λ (l : List Ride). IsRoute (map grid.log_of l)) (sym a.are) (in_order until journal (Some 0) (rides_in legs a.traveller) a.known.late a.known.follow)
      | inr none ↦ subst (λ (l : List Ride). IsRoute (map grid.log_of l)) (sym none.0) tt
    ]

    planned : (v : ℕ) → map planned_of (rides_of v (all_rides legs us)) ≡ legs_for v legs
    planned v = elim (who v) [
      | inl a ↦ ap (map planned_of) a.are ∙ a.known.planned ∙ ap (λ w. legs_for w legs) a.vehicle
      | inr none ↦ ap (map planned_of) none.0 ∙ sym (no_plans legs v (vehicles_of us) none.1 o.everyone)
    ]

    -- the logs at a crossing
    logs_are : (c : ℕ) → logs_at c (all_rides legs us) ≡ logs_gone c (all_gone us)
    logs_are c = logs_of_all c legs us o.told

    module _ (c : ℕ) (m : TurnstileModel BookSetting) (d : Drove) (at : slice_get ms c ≡ Some m) (at' : slice_get ds c ≡ Some d) where
      left : IsLeftAt vehicles (logs_gone c (all_gone us)) m d
      left = o.left c m d at at'

      legal : IsLegal m.setting.layout vehicles d.journal.items
      legal = subst (λ n. IsLegal m.setting.layout n d.journal.items) left.vehicles_is left.legal

      valid : IsValid m.setting.layout
      valid = subst (λ (k : TurnstileModel BookSetting). IsValid k.setting.layout) (get_or_from_slice_get ms c m m at) (o.valid c m (slice_get_within ms c m at))

      leg_of : (x : VehicleLog) (q : IsRideOf until journal c x) → IsLeg until d.journal.items q.known.begun q.ride
      leg_of x q = subst (λ (h : List Entry). IsLeg until h q.known.begun q.ride) (ap journal q.at ∙ journal_is c d at') q.known.leg

      who_crosses : (x : VehicleLog) (t : Entrance) → IsRideOf until journal c x → first_entrance x.1 ≡ Some t → Crosses m.setting.layout d.journal.items x.0 x.1 t
      who_crosses x t p =
          subst (λ (z : VehicleLog). first_entrance z.1 ≡ Some t → Crosses m.setting.layout d.journal.items z.0 z.1 t) p.log
          (λ entered. crosses m.setting.layout vehicles until d.journal.items p.known.begun p.ride t legal p.known.lead (leg_of x p) entered)

      are_reserved : (x : VehicleLog) (cell : Cell) → IsRideOf until journal c x → is_occupied m.setting.layout d.journal.items x.1 cell ≡ true → IsReserved m.setting.layout d.journal.items x.0 x.1 cell
      are_reserved x cell p =
          subst (λ (z : VehicleLog). is_occupied m.setting.layout d.journal.items z.1 cell ≡ true → IsReserved m.setting.layout d.journal.items z.0 z.1 cell) p.log
          (λ on. reserved m.setting.layout vehicles until d.journal.items p.known.begun p.ride cell valid legal p.known.lead (leg_of x p) on)

      are_apart : (x y : VehicleLog) (cell : Cell) → IsRideOf until journal c x → IsRideOf until journal c y → x.0 ≢ y.0 → is_occupied m.setting.layout d.journal.items x.1 cell ≡ true → is_occupied m.setting.layout d.journal.items y.1 cell ≡ false
      are_apart x y cell p q =
          subst (λ (z : VehicleLog). x.0 ≢ z.0 → is_occupied m.setting.layout d.journal.items x.1 cell ≡ true → is_occupied m.setting.layout d.journal.items z.1 cell ≡ false) q.log
          (subst (λ (z : VehicleLog). z.0 ≢ q.ride.vehicle → is_occupied m.setting.layout d.journal.items z.1 cell ≡ true → is_occupied m.setting.layout d.journal.items q.ride.log cell ≡ false) p.log
          (λ ne on. apart m.setting.layout vehicles until d.journal.items p.known.begun q.known.begun p.ride q.ride cell valid legal ne p.known.lead q.known.lead (leg_of x p) (leg_of y q) on))

      are_clear : (x : VehicleLog) (t : Passage) (cell : Cell) → IsRideOf until journal c x → passage m.setting.layout d.journal.items x.1 ≡ Some t → is_on m.setting.layout t cell ≡ true
          → green m.setting.layout d.journal.items cell t.grant.params.lane ≡ None
      are_clear x t cell p =
          subst (λ (z : VehicleLog). passage m.setting.layout d.journal.items z.1 ≡ Some t → is_on m.setting.layout t cell ≡ true → green m.setting.layout d.journal.items cell t.grant.params.lane ≡ None) p.log
          (λ passes on. clear m.setting.layout vehicles until d.journal.items p.known.begun p.ride t cell valid legal p.known.lead (leg_of x p) passes on)

      crossing_is : IsCrossing m.setting.layout vehicles d.journal.items (logs_at c (all_rides legs us))
      crossing_is = record {
        legal = legal;
        others = λ n none. left.others n (subst (λ (l : List VehicleLog). (k : ℕ) (x : VehicleLog) → slice_get l k ≡ Some x → x.0 ≢ n) (logs_are c) none);
        crosses = λ k x t ex entered. who_crosses x t (ride_at until journal c (all_rides legs us) k x rides_each ex) entered;
        reserved = λ k x cell ex on. are_reserved x cell (ride_at until journal c (all_rides legs us) k x rides_each ex) on;
        apart = λ j k x y ex ey ne cell on.
            are_apart x y cell (ride_at until journal c (all_rides legs us) j x rides_each ex) (ride_at until journal c (all_rides legs us) k y rides_each ey) ne on;
        clear = λ k x t cell ex passes on. are_clear x t cell (ride_at until journal c (all_rides legs us) k x rides_each ex) passes on;
      }

      logs_is : map log_of d.logs.items ≡ logs_at c (all_rides legs us)
      logs_is = left.logs_are ∙ sym (logs_are c)

      enter : until ≤ 65536 → All (λ (l : Logged). EntersBy 2147483648 l.driver.log) d.logs.items
      enter below k e l =
          let n : length (map log_of d.logs.items) ≡ length d.logs.items = length-map d.logs.items log_of in
          let x : VehicleLog = get_or (map log_of d.logs.items) k (log_of e) in
          let read : slice_get (logs_at c (all_rides legs us)) k ≡ Some x = ap (λ (xs : List VehicleLog). slice_get xs k) (sym logs_is) ∙ slice_get-get_or (map log_of d.logs.items) k (log_of e) (omega arith) in
          let q = ride_at until journal c (all_rides legs us) k x rides_each read in
          subst (λ (y : VehicleLog). EntersBy 2147483648 y.1) (q.log ∙ get_or-map log_of d.logs.items k e (log_of e) l) (ride_enters until journal q.ride below q.known)

    -- of the crossing at a place of what is left
    manager_at : (c : ℕ) (d : Drove) → slice_get ds c ≡ Some d → (m : TurnstileModel BookSetting) × (slice_get ms c ≡ Some m)
    manager_at c d at = let l : c < length ds = slice_get_within ds c d at in let n : length ds ≡ length ms = o.count in there ms c (omega arith)

    crossings : (c : ℕ) (i : Intersection) (h : List Entry) → slice_get layouts c ≡ Some i → slice_get (map journal_left ds) c ≡ Some h → IsCrossing i vehicles h (logs_at c (all_rides legs us))
    crossings c i h at at' =
        let d = map_from journal_left ds c h at' in
        let m = manager_at c d.of d.at in
        subst (λ (es : List Entry). IsCrossing i vehicles es (logs_at c (all_rides legs us))) d.is
        (subst (λ (j : Intersection). IsCrossing j vehicles (journal_left d.of) (logs_at c (all_rides legs us))) (same_some (sym (o.layouts_are c m.0 m.1) ∙ at)) (crossing_is c m.0 d.of m.1 d.at))

    logs_there : (c : ℕ) (xs : List VehicleLog) → slice_get (map logs_left ds) c ≡ Some xs → xs ≡ logs_at c (all_rides legs us)
    logs_there c xs at = let d = map_from logs_left ds c xs at in let m = manager_at c d.of d.at in sym d.is ∙ logs_is c m.0 d.of m.1 d.at

    pub run_is : IsRunOf layouts vehicles until legs (map journal_left ds) (map logs_left ds)
    run_is = record {
      rides = all_rides legs us;
      travelled = record {
        count = length-map ds journal_left ∙ o.count ∙ o.count_managers;
        crossings = crossings;
        legs = follow;
        routes = routes;
      };
      planned = planned;
      count = length-map ds logs_left ∙ o.count ∙ o.count_managers;
      there = logs_there;
    }

    pub few_is : All (λ (d : Drove). length d.journal.items ≤ 128 * vehicles + 1) ds
    few_is k e l = let at = slice_get-get_or ds k e l in let m = manager_at k (get_or ds k e) at in (o.left k m.0 (get_or ds k e) m.1 at).fits

    pub enters_is : until ≤ 65536 → All (λ (d : Drove). All (λ (l : Logged). EntersBy 2147483648 l.driver.log) d.logs.items) ds
    enters_is below k e l = let at = slice_get-get_or ds k e l in let m = manager_at k (get_or ds k e) at in enter k m.0 (get_or ds k e) m.1 at below
