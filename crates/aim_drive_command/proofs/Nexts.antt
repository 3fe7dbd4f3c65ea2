-- The next call of each caller, as the entries before it tell.
use Rattle.std.proofs.Common.{◌≡◌, ◌≢◌, ◌⊎◌, inl, inr, ℕ, zero, suc, ◌==◌, Bool, true, false, cond, List, [], ◌∷◌, ◌++◌, length, map, slice_get, Option, Some, None, option_map, refl, sym, ◌∙◌, ap, subst}
use Rattle.std.proofs.lemmas.Bool.{cases_eq, eqb-true}
use Rattle.std.proofs.lemmas.List.{map-append, length-map}
use Rattle.std.proofs.lemmas.List.Elements.{filter-append}
use Rattle.std.proofs.lemmas.Option.{slice_get-map}
use Rattle.aim_messages.specs.declared.replies.Reply.{Reply}
use Rattle.aim_messages.specs.declared.entries.Act.{Act}
use Rattle.aim_messages.specs.declared.entries.Act.TheVariants as act
use Rattle.aim_messages.specs.declared.entries.Entry.{Entry}
use Rattle.aim_messages.specs.declared.entries.TheConstants.{OPERATOR}
use Rattle.aim_layout.specs.Intersection.{Intersection}
use Rattle.aim_driver.specs.declared.logs.LogItem.{LogItem}
use Rattle.aim_driver.specs.Fits.{entries_of, call_at, call_of, reply_of, replies_of}
use Rattle.aim_driver.specs.Follows.{Call, follows}
use Rattle.aim_driver.proofs.SmallFacts.{same, some_is, none_some}
use Rattle.aim_driver.specs.declared.orders.Ordered.{Ordered}
use Rattle.aim_drive_script.specs.Said.{Drive}
use Rattle.aim_drive.specs.Places.{At}
use Rattle.aim_drive.specs.Orders.{order_at, order_of}
use Rattle.aim_drive.specs.Headline.{VehicleLog, Headline}
use Rattle.aim_drive_command.proofs.Lists.{get_behind, right_none, tails}
use Rattle.aim_drive_command.proofs.Courses.{next_call}

-- a moment and an act
abbrev pub Done : Type 0
Done = ℕ × Act

abbrev pub done_by : Entry → Done
done_by e = (e.moment, e.act)

abbrev ordered : Ordered → Done
ordered x = (x.moment, act.Order x.order)

abbrev called : Call → Done
called x = (x.moment, act.Message x.message)

-- what the caller's first entry does, if it has one
abbrev pub first_of : List Entry → ℕ → Option Done
first_of es v = option_map done_by (slice_get (entries_of es v) 0)

order_told : (e : Entry) (x : Ordered) → order_of e ≡ Some x → done_by e ≡ ordered x
order_told e x is = go e.act refl is
  where
    go : (a : Act) → e.act ≡ a → order_at e.moment a ≡ Some x → done_by e ≡ ordered x
    go (act.Message m) at is = none_some x is
    go (act.Order o) at is =
        let y : Ordered = record { moment = e.moment; order = o } in
        let path : y ≡ x = some_is y x is in
        λ i. ((path i).moment, (at ∙ ap (λ (z : Ordered). act.Order z.order) path) i)

call_told : (e : Entry) (x : Call) → call_of e ≡ Some x → done_by e ≡ called x
call_told e x is = go e.act refl is
  where
    go : (a : Act) → e.act ≡ a → call_at e.moment a ≡ Some x → done_by e ≡ called x
    go (act.Message m) at is =
        let y : Call = record { moment = e.moment; message = m } in
        let path : y ≡ x = some_is y x is in
        λ i. ((path i).moment, (at ∙ ap (λ (z : Call). act.Message z.message) path) i)
    go (act.Order o) at is = none_some x is

module _ {X : Type 0} (carried : Entry → Option X) (does : X → Done) (told : (e : Entry) (x : X) → carried e ≡ Some x → done_by e ≡ does x) where
  both : (o : Option Entry) (p : Option X) → option_map carried o ≡ option_map (λ x. Some x) p → option_map done_by o ≡ option_map does p
  both None None is = refl
  both None (Some x) is = none_some (Some x) is
  both (Some e) None is = none_some (carried e) (sym is)
  both (Some e) (Some x) is = ap (λ z. Some z) (told e x (some_is (carried e) (Some x) is))

  -- where the caller's entries carry these things, its first entry behind some entries does what stands at that place
  first_is : (before rest : List Entry) (v : ℕ) (xs : List X) → map carried (entries_of (before ++ rest) v) ≡ map (λ x. Some x) xs
      → first_of rest v ≡ option_map does (slice_get xs (length (entries_of before v)))
  first_is before rest v xs is = both (slice_get (entries_of rest v) 0) (slice_get xs place) here
    where
      place : ℕ
      place = length (entries_of before v)

      parts : entries_of (before ++ rest) v ≡ entries_of before v ++ entries_of rest v
      parts = filter-append (λ e. e.caller == v) before rest

      here : option_map carried (slice_get (entries_of rest v) 0) ≡ option_map (λ x. Some x) (slice_get xs place)
      here =
          ap (λ o. option_map carried o) (sym (get_behind (entries_of before v) (entries_of rest v)))
          ∙ ap (λ (l : List Entry). option_map carried (slice_get l place)) (sym parts)
          ∙ sym (slice_get-map carried (entries_of (before ++ rest) v) place)
          ∙ ap (λ (l : List (Option X)). slice_get l place) is
          ∙ slice_get-map (λ x. Some x) xs place

-- the drive of a vehicle, if it has one
pub record HasDrive (drives : List Drive) (v : ℕ) : Type 0 where
  pub place : ℕ
  pub drive : Drive
  pub stands : slice_get drives place ≡ Some drive
  pub vehicle : drive.vehicle ≡ v

abbrev pub HasNone : List Drive → ℕ → Type 0
HasNone drives v = (k : ℕ) (d : Drive) → slice_get drives k ≡ Some d → d.vehicle ≢ v

none_more : (x : Drive) (xs : List Drive) (v : ℕ) → (x.vehicle ≡ v → ⊥) → HasNone xs v → HasNone (x ∷ xs) v
none_more x xs v ne none zero d is = λ e. ne (ap (λ (z : Drive). z.vehicle) (some_is x d is) ∙ e)
none_more x xs v ne none (suc k) d is = none k d is

pub drive_of : (drives : List Drive) (v : ℕ) → HasDrive drives v ⊎ HasNone drives v
drive_of [] v = inr (λ k d is. none_some d is)
drive_of (x ∷ xs) v =
    elim (cases_eq x.vehicle v) [
      | inl e ↦ inl (record { place = 0; drive = x; stands = refl; vehicle = e })
      | inr ne ↦ elim (drive_of xs v) [
        | inl r ↦ inl (record { place = suc r.place; drive = r.drive; stands = r.stands; vehicle = r.vehicle })
        | inr none ↦ inr (none_more x xs v ne none)
      ]
    ]

-- a drive has a log at its place
log_at : (drives : List Drive) (logs : List VehicleLog) (k : ℕ) (d : Drive) → map (λ (x : VehicleLog). x.0) logs ≡ map (λ (d : Drive). d.vehicle) drives → slice_get drives k ≡ Some d
    → (x : VehicleLog) × (slice_get logs k ≡ Some x)
log_at [] logs k d whose is = none_some d is
log_at (c ∷ cs) [] k d whose is = absurd (cc whose)
log_at (c ∷ cs) (x ∷ xs) zero d whose is = (x, refl)
log_at (c ∷ cs) (x ∷ xs) (suc k) d whose is = log_at cs xs k d (tails x.0 c.vehicle (map (λ (x : VehicleLog). x.0) xs) (map (λ (d : Drive). d.vehicle) cs) whose) is

module _ (i : Intersection) (vehicles until size : ℕ) (drives : List Drive) (orders : List Ordered) where
  abbrev pub Holds : List Entry → List VehicleLog → Type 0
  Holds h logs = Headline i vehicles until size drives orders h logs

  operator_next : (before rest : List Entry) (logs : List VehicleLog) → Holds (before ++ rest) logs
      → first_of rest OPERATOR ≡ option_map ordered (slice_get orders (length (entries_of before OPERATOR)))
  operator_next before rest logs x = first_is order_of ordered order_told before rest OPERATOR orders x.given

  driver_next : (before rest : List Entry) (logs : List VehicleLog) (k : ℕ) (d : Drive) → slice_get drives k ≡ Some d → Holds (before ++ rest) logs
      → first_of rest d.vehicle ≡ option_map called (slice_get (follows d.plan d.up d.down until (replies_of before d.vehicle)).1 (length (entries_of before d.vehicle)))
  driver_next before rest logs k d stands x =
      let v : ℕ = d.vehicle in
      let l = log_at drives logs k d x.whose stands in
      let f = x.followed k d l.0 stands l.1 in
      let place : ℕ = length (entries_of before v) in
      let was : List Reply = replies_of before v in
      let more : List Reply = replies_of rest v in
      let parts : replies_of (before ++ rest) v ≡ was ++ more = ap (λ (l : List Entry). map reply_of l) (filter-append (λ e. e.caller == v) before rest) ∙ map-append reply_of (entries_of before v) (entries_of rest v) in
      let count : length was ≡ place = length-map (entries_of before v) reply_of in
      let calls : f.calls ≡ (follows d.plan d.up d.down until (was ++ more)).1 =
      ap (λ (r : List LogItem × List Call). r.1) (sym f.course) ∙ ap (λ (l : List Reply). (follows d.plan d.up d.down until l).1) parts in
      let next : slice_get f.calls place ≡ slice_get (follows d.plan d.up d.down until was).1 place =
      ap (λ (l : List Call). slice_get l place) calls
      ∙ subst (λ n. slice_get (follows d.plan d.up d.down until (was ++ more)).1 n ≡ slice_get (follows d.plan d.up d.down until was).1 n) count (next_call d.plan d.up d.down until was more) in
      first_is call_of called call_told before rest v f.calls f.carried ∙ ap (λ o. option_map called o) next

  pub stranger_next : (before rest : List Entry) (logs : List VehicleLog) (n : ℕ) → n ≢ OPERATOR → HasNone drives n → Holds (before ++ rest) logs → first_of rest n ≡ None
  stranger_next before rest logs n ne none x =
      let parts : entries_of (before ++ rest) n ≡ entries_of before n ++ entries_of rest n = filter-append (λ e. e.caller == n) before rest in
      ap (λ (l : List Entry). option_map done_by (slice_get l 0)) (right_none (entries_of before n) (entries_of rest n) (sym parts ∙ x.others n ne none))

  -- behind the same entries each caller's next entry does the same
  pub same_next : (before rest rest' : List Entry) (logs logs' : List VehicleLog) → Holds (before ++ rest) logs → Holds (before ++ rest') logs' → (n : ℕ) → first_of rest n ≡ first_of rest' n
  same_next before rest rest' logs logs' x y n =
      elim (cases_eq n OPERATOR) [
        | inl e ↦ subst (λ v. first_of rest v ≡ first_of rest' v) (sym e) (operator_next before rest logs x ∙ sym (operator_next before rest' logs' y))
        | inr ne ↦ elim (drive_of drives n) [
          | inl r ↦ subst (λ v. first_of rest v ≡ first_of rest' v) r.vehicle
              (driver_next before rest logs r.place r.drive r.stands x ∙ sym (driver_next before rest' logs' r.place r.drive r.stands y))
          | inr none ↦ stranger_next before rest logs n ne none x ∙ sym (stranger_next before rest' logs' n ne none y)
        ]
      ]

-- an entry of the caller that does so stands in the list
pub record Stands (es : List Entry) (n : ℕ) (c : Done) : Type 0 where
  pub place : ℕ
  pub entry : Entry
  pub there : At es place entry
  pub own : entry.caller ≡ n
  pub is : done_by entry ≡ c

pub stands_first : (es : List Entry) (n : ℕ) (c : Done) → first_of es n ≡ Some c → Stands es n c
stands_first [] n c is = none_some c is
stands_first (e ∷ es) n c is = go (e.caller == n) refl is (λ later. stands_first es n c later)
  where
    go : (b : Bool) → (e.caller == n) ≡ b → option_map done_by (slice_get (cond b (e ∷ entries_of es n) (entries_of es n)) 0) ≡ Some c → (first_of es n ≡ Some c → Stands es n c) → Stands (e ∷ es) n c
    go true own is later = record { place = 0; entry = e; there = refl; own = eqb-true e.caller n own; is = some_is (done_by e) c is }
    go false own is later = let s = later is in record { place = suc s.place; entry = s.entry; there = s.there; own = s.own; is = s.is }

pub first_here : (e : Entry) (es : List Entry) → first_of (e ∷ es) e.caller ≡ Some (done_by e)
first_here e es = ap (λ b. option_map done_by (slice_get (cond b (e ∷ entries_of es e.caller) (entries_of es e.caller)) 0)) (same e.caller)
