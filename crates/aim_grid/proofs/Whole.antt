-- A whole run, over values.
use Rattle.std.proofs.Common.{◌≡◌, ◌≢◌, ℕ, zero, suc, ◌+◌, ◌*◌, ◌<◌, ◌≤◌, List, [], ◌∷◌, ◌++◌, length, map, get_or, Option, Some, None, refl, sym, ap, ◌∙◌, subst, arith}
use Rattle.std.specs.Prelude.{All, Contains, slice_get}
use Rattle.std.specs.List.{AllByRecursion, AllZip}
use Rattle.std.proofs.lemmas.List.{get_or_default}
use Rattle.std.proofs.lemmas.List.Elements.{recursion_from_All}
use Rattle.std.proofs.lemmas.Option.{slice_get_within, get_or_from_slice_get}
use Rattle.aim_messages.specs.declared.entries.Entry.{Entry}
use Rattle.aim_layout.specs.Intersection.{Intersection}
use Rattle.aim_driver.specs.Fits as driver_fits
use Rattle.aim_turnstile.specs.Models.{TurnstileModel, HasPass}
use Rattle.aim_grid.specs.BookSetting.{BookSetting}
use Rattle.aim_grid.specs.Seen.{caller_of}
use Rattle.aim_grid.specs.Agents.{AgentPass}
use Rattle.aim_grid.specs.Models.{LegModel, TravellerModel}
use Rattle.aim_grid.specs.Rode.{Managers, Rode}
use Rattle.aim_grid.specs.Travels.{IsReady, Travels}
use Rattle.aim_grid.specs.Legs.{LegTold, legs_told, told, told_unbegun}
use Rattle.aim_grid.proofs.Legs.{legs_followed, set_out}
use Rattle.aim_drive.specs.Making.{log_of}
use Rattle.aim_drive.specs.declared.running.Drove.{Drove}
use Rattle.aim_drive.proofs.Closings.{is_calm}
use Rattle.aim_drive.proofs.Lists.{same_maps}
use Rattle.aim_grid_script.specs.declared.routes.PlannedLeg.{PlannedLeg}
use Rattle.aim_grid_script.specs.Fits.{AreLegs}
use Rattle.aim_grid.specs.Travelled.{journal_in}
use Rattle.aim_grid.specs.declared.seats.Seats.{Seats}
use Rattle.aim_grid.specs.Runs.{journal_left, legs_for}
use Rattle.aim_grid.specs.Making.{AllKeep, AreNew, AreOpen, AreSetOut, IsMadeLeg, IsSetOut, Keeps, legs_of_all, held, seat_of, vehicles_of}
use Rattle.aim_grid.specs.Closing.{AllGive, AreBack, AreLeft, Gives, Gone, HasMemory, IsSeated, all_gone, gone, gone_of, held_after, logs_gone, seat_gone}
use Rattle.aim_grid.proofs.Ends.{are_back, few_entries, gone_here, has_held, kept_many, no_others}
use Rattle.aim_grid.proofs.Fewness.{IsGone, IsPlannedGone, all_legs_gone, legs_fresh, legs_gone}
use Rattle.aim_grid.proofs.Held.{held_each}
use Rattle.aim_grid.proofs.Openings.{count_layouts, count_seats, fit_for, new_at, open_at, set_ready}
use Rattle.aim_grid.proofs.Places.{AreDistinct, AreDistinctNumbers, distinct_all, distinct_legs, distinct_numbers, each_append, each_both, each_left, each_right, each_weaker}
use Rattle.aim_grid.proofs.Rides.{AreToldAt, IsToldAt, rides_planned, seats_of_all, vehicle_for}
use Rattle.aim_grid.proofs.Followed.{IsInJournal, rides_each, rides_follow, rides_late}
use Rattle.aim_grid.proofs.Told.{IsDone, IsLeftAt, IsOver}
use Rattle.aim_grid.proofs.Zips.{map_at, same_some, there, zip_from, zip_weaker}

-- of all travellers' legs, each traveller's

by_travellers : (P : Gone → Type 0) (ts : List TravellerModel) → AllByRecursion P (all_gone ts) → AllByRecursion (λ (t : TravellerModel). AllByRecursion P (gone_of t)) ts
by_travellers P [] h = tt
by_travellers P (t ∷ ts) h = (each_left P (gone_of t) (all_gone ts) h, by_travellers P ts (each_right P (gone_of t) (all_gone ts) h))

of_travellers : (P : Gone → Type 0) (ts : List TravellerModel) → AllByRecursion (λ (t : TravellerModel). AllByRecursion P (gone_of t)) ts → AllByRecursion P (all_gone ts)
of_travellers P [] h = tt
of_travellers P (t ∷ ts) h = each_append P (gone_of t) (all_gone ts) h.0 (of_travellers P ts h.1)

-- what holds of all legs of a traveller holds of the one that it is on
current : (P : Gone → Type 0) (v : ℕ) (xs : List LegTold) (x : LegTold) (ys : List LegTold) → AllByRecursion P (map (gone v) (xs ++ x ∷ ys)) → P (gone v x)
current P v [] x ys h = h.0
current P v (y ∷ xs) x ys h = current P v xs x ys h.1

contained : (v : ℕ) (vs : List ℕ) → Contains vs v → AllByRecursion (λ w. w ≢ v) vs → ⊥
contained v vs has none = go vs has.0 has.1 has.2 none
  where
    go : (ws : List ℕ) (k : ℕ) → k < length ws → get_or ws k v ≡ v → AllByRecursion (λ w. w ≢ v) ws → ⊥
    go [] k l is h = absurd (omega arith)
    go (w ∷ ws) zero l is h = h.0 is
    go (w ∷ ws) (suc k) l is h = go ws k (omega arith) is h.1

module _ (layouts : List Intersection) (vehicles until : ℕ) (legs : List PlannedLeg) (ms : Managers) (seats : List Seats) (ts us : List TravellerModel) where
  -- the crossings were opened, and the travellers set out and took their turns
  pub record IsTravelled : Type 0 where
    pub fit : AreLegs vehicles (length ms) legs
    pub open_are : AreOpen layouts vehicles ms seats
    pub out : AreSetOut ms legs legs ts
    pub travels : Travels ms 0 until ts us
    pub memory : All HasMemory us

  -- what is known of each traveller
  record IsTraveller (u : TravellerModel) : Type 0 where
    pub made : List LegModel
    pub legs_are : AllZip (IsMadeLeg ms) (legs_for u.vehicle legs) made
    pub rode : Rode ms 0 until made u
    pub gone_are : AllZip (IsPlannedGone ms) (legs_for u.vehicle legs) (legs_told u)
    pub memory : HasMemory u

  module _ (r : IsTravelled) where
    traveller_is : (t u : TravellerModel) (s : IsSetOut ms legs t) → u.vehicle ≡ t.vehicle → Rode ms 0 until s.made u → HasMemory u → IsTraveller u
    traveller_is t u s same rode memory =
        let are : AllZip (IsMadeLeg ms) (legs_for u.vehicle legs) s.made = subst (λ v. AllZip (IsMadeLeg ms) (legs_for v legs) s.made) (sym same) s.legs_are in
        record {
          made = s.made;
          legs_are = are;
          rode = rode;
          gone_are = legs_gone ms vehicles (length ms) until (legs_for u.vehicle legs) s.made u (fit_for vehicles (length ms) u.vehicle legs r.fit) are memory.0 rode;
          memory = memory;
        }

    travellers : AllByRecursion IsTraveller us
    travellers = recursion_from_All IsTraveller us each
      where
        each : All IsTraveller us
        each k d l =
            let n : length us ≡ length ts = r.travels.len in
            let lt : k < length ts = omega arith in
            let s = r.out.each k d lt in
            let m = r.travels.each k d lt in
            let ready = set_ready ms layouts vehicles (length ms) seats legs (get_or ts k d) r.open_are r.fit s in
            traveller_is (get_or ts k d) (get_or us k d) s m.vehicle (m.rode 0 s.made (set_out ms 0 (get_or ts k d).vehicle s.made (get_or ts k d) s.out ready.own)) (r.memory k d l)

    same_vehicles : vehicles_of us ≡ vehicles_of ts
    same_vehicles = same_maps (λ (t : TravellerModel). t.vehicle) (λ (t : TravellerModel). t.vehicle) ts us r.travels.len same
      where
        same : (k : ℕ) (a b : TravellerModel) → k < length ts → (get_or us k b).vehicle ≡ (get_or ts k a).vehicle
        same k a b l =
            let n : length us ≡ length ts = r.travels.len in
            ap (λ (t : TravellerModel). t.vehicle) (get_or_default us k b a (omega arith)) ∙ (r.travels.each k a l).vehicle

    told_at : AllByRecursion (AreToldAt legs) us
    told_at = each_weaker IsTraveller (AreToldAt legs) us (λ u t. zip_weaker (IsPlannedGone ms) IsToldAt (legs_for u.vehicle legs) (legs_told u) (λ p x g. g.crossing) t.gone_are) travellers

    seats_same : map seat_gone (all_gone us) ≡ map seat_of (legs_of_all legs (vehicles_of ts))
    seats_same = seats_of_all legs us told_at ∙ ap (λ vs. map seat_of (legs_of_all legs vs)) same_vehicles

    distinct_vehicles : AreDistinctNumbers (vehicles_of us)
    distinct_vehicles = subst AreDistinctNumbers (sym same_vehicles) (distinct_numbers (λ (t : TravellerModel). t.vehicle) ts r.out.one_each)

    distinct : AreDistinct (map seat_gone (all_gone us))
    distinct =
        subst AreDistinct (sym seats_same)
        (distinct_all legs (vehicles_of ts) (distinct_legs legs r.fit.apart) (distinct_numbers (λ (t : TravellerModel). t.vehicle) ts r.out.one_each))

    gone_each : AllByRecursion (IsGone ms vehicles) (all_gone us)
    gone_each =
        of_travellers (IsGone ms vehicles) us
        (each_weaker IsTraveller (λ (u : TravellerModel). AllByRecursion (IsGone ms vehicles) (gone_of u)) us
        (λ u t. all_legs_gone ms vehicles (length ms) u.vehicle (legs_for u.vehicle legs) (legs_told u) (vehicle_for u.vehicle legs) (fit_for vehicles (length ms) u.vehicle legs r.fit) t.gone_are) travellers)

    count_managers : length seats ≡ length ms
    count_managers = count_seats layouts vehicles ms seats r.open_are

    module _ (taken : List Seats) (keeps : AllKeep (map seat_of (legs_of_all legs (vehicles_of ts))) seats taken) where
      kept : AllKeep (map seat_gone (all_gone us)) seats taken
      kept = subst (λ ss. AllKeep ss seats taken) (sym seats_same) keeps

      -- all legs have seats
      pub all_seated : AllByRecursion (IsSeated taken) (all_gone us)
      all_seated = each_weaker (IsGone ms vehicles) (IsSeated taken) (all_gone us) seated gone_each
        where
          seated : (g : Gone) → IsGone ms vehicles g → IsSeated taken g
          seated g h =
              let l : g.crossing < length ms = slice_get_within ms g.crossing h.manager h.stands in
              let n : length seats ≡ length ms = count_managers in
              let n' : length taken ≡ length seats = keeps.count in
              let s = there seats g.crossing (omega arith) in
              let t = there taken g.crossing (omega arith) in
              let many : length t.0.passes.items ≡ h.manager.setting.vehicles =
              kept_many g.crossing h.manager (map seat_gone (all_gone us)) s.0 t.0 (new_at layouts vehicles ms seats g.crossing h.manager s.0 r.open_are h.stands s.1) (kept.each g.crossing s.0 t.0 s.1 t.1) in
              let v : h.manager.setting.vehicles ≡ vehicles = (open_at layouts vehicles ms seats g.crossing h.manager r.open_are h.stands).vehicles_is in
              let low : g.vehicle < vehicles = h.low in
              record { there = t.0; at = t.1; seat = omega arith }

      module _ (back : List Seats) (gives : AllGive (all_gone us) taken back) where
        -- what stands at a crossing
        record IsPlace (c : ℕ) (m : TurnstileModel BookSetting) : Type 0 where
          pub first : Seats
          pub mid : Seats
          pub last : Seats
          pub at_last : slice_get back c ≡ Some last
          pub new : AreNew m first
          pub kept_at : Keeps c (map seat_gone (all_gone us)) first mid
          pub given_at : Gives c (all_gone us) mid last

        place : (c : ℕ) (m : TurnstileModel BookSetting) → slice_get ms c ≡ Some m → IsPlace c m
        place c m at =
            let l : c < length ms = slice_get_within ms c m at in
            let n : length seats ≡ length ms = count_managers in
            let n' : length taken ≡ length seats = keeps.count in
            let n'' : length back ≡ length taken = gives.count in
            let s = there seats c (omega arith) in
            let t = there taken c (omega arith) in
            let u = there back c (omega arith) in
            record {
              first = s.0;
              mid = t.0;
              last = u.0;
              at_last = u.1;
              new = new_at layouts vehicles ms seats c m s.0 r.open_are at s.1;
              kept_at = kept.each c s.0 t.0 s.1 t.1;
              given_at = gives.each c t.0 u.0 t.1 u.1;
            }

        count_back : length back ≡ length ms
        count_back = gives.count ∙ keeps.count ∙ count_managers

        -- all passes are back
        pub all_back : AllZip AreBack ms back
        all_back = zip_from AreBack ms back count_back each
          where
            each : (c : ℕ) (m : TurnstileModel BookSetting) (u : Seats) → slice_get ms c ≡ Some m → slice_get back c ≡ Some u → AreBack m u
            each c m u at at' =
                let p = place c m at in
                subst (λ (x : Seats). AreBack m x) (same_some (sym p.at_last ∙ at')) (are_back ms vehicles c m (all_gone us) p.first p.mid p.last at p.new p.kept_at p.given_at gone_each)

        module _ (ds : List Drove) (left : AreLeft ms back ds) where
          abbrev journal : ℕ → List Entry
          journal c = journal_in (map journal_left ds) c

          journal_is : (c : ℕ) (d : Drove) → slice_get ds c ≡ Some d → journal c ≡ d.journal.items
          journal_is c d at = get_or_from_slice_get (map journal_left ds) c (journal_left d) [] (map_at journal_left ds c d at)

          -- a leg's entries are those of its pass, at a crossing whose journal has room left
          record IsEnded (g : Gone) : Type 0 where
            pub manager : TurnstileModel BookSetting
            pub number : g.pass.number ≡ g.vehicle
            pub setting : g.pass.setting ≡ Some manager.setting
            pub has : HasPass caller_of (journal g.crossing) g.pass
            pub room : length (journal g.crossing) < manager.setting.room

          ended : (g : Gone) → IsGone ms vehicles g → ((o : Option AgentPass) → held_after g.vehicle g.crossing (all_gone us) o ≡ Some g.pass) → IsEnded g
          ended g h is =
              let m = h.manager in
              let p = place g.crossing m h.stands in
              let v = open_at layouts vehicles ms seats g.crossing m r.open_are h.stands in
              let vehicles_is : m.setting.vehicles ≡ vehicles = v.vehicles_is in
              let room_is : m.setting.room ≡ 128 * vehicles + 1 = v.room_is in
              let most : 128 * m.setting.vehicles ≡ 128 * vehicles = ap (λ n. 128 * n) v.vehicles_is in
              let low : g.vehicle < vehicles = h.low in
              let many : length p.mid.passes.items ≡ m.setting.vehicles = kept_many g.crossing m (map seat_gone (all_gone us)) p.first p.mid p.new p.kept_at in
              let own = gone_here ms vehicles g.crossing m (all_gone us) p.first p.mid p.last h.stands p.new p.kept_at p.given_at gone_each g refl h in
              let n : length ds ≡ length ms = left.count in
              let l : g.crossing < length ms = slice_get_within ms g.crossing m h.stands in
              let d = there ds g.crossing (omega arith) in
              let x = left.each g.crossing m p.last d.0 h.stands p.at_last d.1 in
              let held_is = p.given_at.after g.vehicle (omega arith) ∙ is (held p.mid g.vehicle) in
              let few : length d.0.journal.items ≤ 128 * m.setting.vehicles = few_entries ms vehicles g.crossing m (all_gone us) p.first p.mid p.last h.stands p.new p.kept_at p.given_at gone_each d.0 x in
              record {
                manager = m;
                number = own.number;
                setting = own.setting;
                has =
                    subst (λ (es : List Entry). HasPass caller_of es g.pass) (sym (journal_is g.crossing d.0 d.1))
                    (has_held ms vehicles g.crossing m (all_gone us) p.first p.mid p.last h.stands p.new p.kept_at p.given_at gone_each d.0 x g.vehicle g.pass (omega arith) held_is);
                room = subst (λ (es : List Entry). length es < m.setting.room) (sym (journal_is g.crossing d.0 d.1)) (omega arith);
              }

          ended_each : AllByRecursion (λ (u : TravellerModel). AllByRecursion IsEnded (gone_of u)) us
          ended_each =
              by_travellers IsEnded us
              (each_both (IsGone ms vehicles) (λ (g : Gone). (o : Option AgentPass) → held_after g.vehicle g.crossing (all_gone us) o ≡ Some g.pass) IsEnded (all_gone us) ended gone_each (held_each (all_gone us) distinct))

          -- no traveller is in trouble
          calm : (u : TravellerModel) → IsTraveller u → AllByRecursion IsEnded (gone_of u) → u.agent.trouble ≡ None
          calm u t each =
              let e = current IsEnded u.vehicle (map told u.over) (u.crossing, u.agent.driver.log, u.agent.pass) (map told_unbegun u.waiting) each in
              is_calm e.manager.setting (journal u.crossing) u.agent e.has e.setting e.room t.memory.0 t.memory.1

          done : (u : TravellerModel) → IsTraveller u → AllByRecursion IsEnded (gone_of u) → IsDone until legs journal u
          done u t each =
              let ps = legs_for u.vehicle legs in
              let fit = fit_for vehicles (length ms) u.vehicle legs r.fit in
              let told_is = zip_weaker (IsPlannedGone ms) IsToldAt ps (legs_told u) (λ p x g. g.crossing) t.gone_are in
              let followed = legs_followed ms until t.made u (legs_fresh ms vehicles (length ms) ps t.made fit t.legs_are) t.rode (calm u t each) in
              let has = each_weaker IsEnded (IsInJournal until journal) (gone_of u) (λ g e. ap (λ n. driver_fits.entries_of (journal g.crossing) n) (sym e.number) ∙ e.has.1) each in
              let follow = rides_follow until journal ms (Some 0) u.vehicle ps t.made (legs_told u) (vehicle_for u.vehicle legs) t.legs_are told_is has followed in
              record {
                follow = follow;
                late = rides_late vehicles (length ms) ps (legs_told u) fit;
                each = rides_each until journal vehicles (length ms) (Some 0) ps (legs_told u) fit follow;
                planned = rides_planned ps (legs_told u) told_is;
              }

          all_done : AllByRecursion (IsDone until legs journal) us
          all_done = each_both IsTraveller (λ (u : TravellerModel). AllByRecursion IsEnded (gone_of u)) (IsDone until legs journal) us done travellers ended_each

          everyone : AllByRecursion (λ (p : PlannedLeg). AllByRecursion (λ w. w ≢ p.vehicle) (vehicles_of us) → ⊥) legs
          everyone =
              subst (λ vs. AllByRecursion (λ (p : PlannedLeg). AllByRecursion (λ w. w ≢ p.vehicle) vs → ⊥) legs) (sym same_vehicles)
              (each_weaker (λ (p : PlannedLeg). Contains (vehicles_of ts) p.vehicle) (λ (p : PlannedLeg). AllByRecursion (λ w. w ≢ p.vehicle) (vehicles_of ts) → ⊥) legs
              (λ p has. contained p.vehicle (vehicles_of ts) has) (recursion_from_All (λ (p : PlannedLeg). Contains (vehicles_of ts) p.vehicle) legs r.out.everyone))

          -- the logs that are left at a crossing, and who has none there
          ended_at : (c : ℕ) (m : TurnstileModel BookSetting) (d : Drove) → slice_get ms c ≡ Some m → slice_get ds c ≡ Some d → IsLeftAt vehicles (logs_gone c (all_gone us)) m d
          ended_at c m d at at' =
              let p = place c m at in
              let v = open_at layouts vehicles ms seats c m r.open_are at in
              let x = left.each c m p.last d at p.at_last at' in
              record {
                vehicles_is = v.vehicles_is;
                legal = x.legal;
                fits = subst (λ n. length d.journal.items ≤ n) v.room_is x.fits;
                others = no_others ms vehicles c m (all_gone us) p.first p.mid p.last at p.new p.kept_at p.given_at gone_each d x;
                logs_are = ap (map log_of) x.logs ∙ p.given_at.logs ∙ ap (λ l. l ++ logs_gone c (all_gone us)) (ap (map log_of) (p.kept_at.logs ∙ p.new.logs));
              }

          pub run_over : IsOver layouts vehicles until legs ms us ds
          run_over = record {
            layouts_are = λ c m at. (open_at layouts vehicles ms seats c m r.open_are at).layout;
            count_managers = count_layouts layouts vehicles ms seats r.open_are;
            count = left.count;
            valid = r.open_are.valid;
            distinct = distinct_vehicles;
            told = told_at;
            everyone = everyone;
            done = all_done;
            left = ended_at;
          }

-- by other names of what is equal

pub fit_here : (layouts : List Intersection) (vehicles : ℕ) (legs : List PlannedLeg) (ms : Managers) (seats : List Seats) → AreLegs vehicles (length layouts) legs → AreOpen layouts vehicles ms seats → AreLegs vehicles (length ms) legs
fit_here layouts vehicles legs ms seats fit open_are = subst (λ n. AreLegs vehicles n legs) (sym (count_layouts layouts vehicles ms seats open_are)) fit

pub ready_by : (layouts : List Intersection) (vehicles : ℕ) (legs legs' : List PlannedLeg) (ms ms' : Managers) (seats : List Seats) (ts ts' : List TravellerModel) → AreLegs vehicles (length layouts) legs → AreOpen layouts vehicles ms seats
    → legs' ≡ legs → AreSetOut ms legs' legs' ts → ms' ≡ ms → ts' ≡ ts → All (IsReady ms' 0) ts'
ready_by layouts vehicles legs legs' ms ms' seats ts ts' fit open_are el out em et =
    subst (λ (k : Managers). All (IsReady k 0) ts') (sym em) (subst (λ (l : List TravellerModel). All (IsReady ms 0) l) (sym et) each)
  where
    each : All (IsReady ms 0) ts
    each k d l = set_ready ms layouts vehicles (length ms) seats legs (get_or ts k d) open_are (fit_here layouts vehicles legs ms seats fit open_are) (subst (λ (ps : List PlannedLeg). IsSetOut ms ps (get_or ts k d)) el (out.each k d l))

pub travelled_by : (layouts : List Intersection) (vehicles until : ℕ) (legs legs' : List PlannedLeg) (ms ms' : Managers) (seats : List Seats) (ts ts' us us' : List TravellerModel) → AreLegs vehicles (length layouts) legs → AreOpen layouts vehicles ms seats
    → legs' ≡ legs → AreSetOut ms legs' legs' ts → ms' ≡ ms → ts' ≡ ts → Travels ms' 0 until ts' us → us' ≡ us → All HasMemory us' → IsTravelled layouts vehicles until legs ms seats ts us
travelled_by layouts vehicles until legs legs' ms ms' seats ts ts' us us' fit open_are el out em et travels eu memory = record {
  fit = fit_here layouts vehicles legs ms seats fit open_are;
  open_are = open_are;
  out = subst (λ (ps : List PlannedLeg). AreSetOut ms ps ps ts) el out;
  travels = subst (λ (l : List TravellerModel). Travels ms 0 until l us) et (subst (λ (k : Managers). Travels k 0 until ts' us) em travels);
  memory = subst (λ (l : List TravellerModel). All HasMemory l) eu memory;
}
