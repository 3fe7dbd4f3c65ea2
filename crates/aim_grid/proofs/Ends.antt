-- A crossing whose passes are all back: what is held there, and what its journal has.
use Rattle.std.proofs.Common.{◌≡◌, ◌≢◌, ℕ, suc, ◌+◌, ◌*◌, ◌<◌, ◌≤◌, ◌==◌, Bool, true, false, ◌⊎◌, inl, inr, List, [], ◌∷◌, ◌++◌, length, length-append, map, get_or, Option, Some, None, if◌then◌else◌, refl, sym, ap, ◌∙◌, subst, arith}
use Rattle.std.specs.Prelude.{All, Contains, slice_get, IsSomeAnd, sum_by}
use Rattle.std.specs.List.{AllByRecursion, filter, range_with_len}
use Rattle.std.proofs.lemmas.Bool.{cases_lt, cases_eq, eq-eqb}
use Rattle.std.proofs.lemmas.List.{get_or_append_left, get_or_default, get_or-map, get_or_push, length-map}
use Rattle.std.proofs.lemmas.List.Elements.{Contains-push_cases}
use Rattle.std.proofs.lemmas.List.FromFn.{get_or-range_with_len, get_or-map-range_with_len, length-range_with_len}
use Rattle.std.proofs.lemmas.List.Sums.{sum_by-le, sum_by-append}
use Rattle.aim_messages.specs.declared.entries.Entry.{Entry}
use Rattle.aim_messages.specs.declared.entries.TheConstants.{OPERATOR}
use Rattle.aim_turnstile.specs.History.{entries_of}
use Rattle.aim_turnstile.specs.Models.{TurnstileModel, IsSamePass, HasPass, new_pass}
use Rattle.aim_grid.specs.BookSetting.{BookSetting}
use Rattle.aim_grid.specs.Seen.{caller_of, callers}
use Rattle.aim_grid.specs.Agents.{AgentPass}
use Rattle.aim_grid.specs.Rode.{Managers}
use Rattle.aim_drive.specs.Headline.{VehicleLog}
use Rattle.aim_drive.specs.declared.running.Drove.{Drove}
use Rattle.aim_grid.specs.declared.seats.Seats.{Seats}
use Rattle.aim_grid.specs.Making.{AreNew, AreOthers, Keeps, Seat, held}
use Rattle.aim_grid.specs.Closing.{AreBack, Gives, Gone, IsLeft, held_after, logs_gone, seat_gone}
use Rattle.aim_grid.proofs.Fewness.{IsGone}
use Rattle.aim_grid.proofs.Held.{IsGiven, held_cases}
use Rattle.aim_grid.proofs.Places.{each_weaker, each_both}

-- a pass at its vehicle's seat
pub record IsHere (m : TurnstileModel BookSetting) (v : ℕ) (p : AgentPass) : Type 0 where
  pub number : p.number ≡ v
  pub table : p.table ≡ m.table
  pub setting : p.setting ≡ Some m.setting
  pub few : length p.mine ≤ 128

-- each leg at the crossing has its log there
pub logs_found : (c : ℕ) (gs : List Gone) → AllByRecursion (λ (g : Gone). g.crossing ≡ c → (k : ℕ) × (slice_get (logs_gone c gs) k ≡ Some (g.vehicle, g.log))) gs
logs_found c [] = tt
logs_found c (g ∷ gs) = (
  λ is. (0, ap (λ b. slice_get (map (λ (h : Gone). (h.vehicle, h.log)) (if b then g ∷ filter (λ (h : Gone). h.crossing == c) gs else filter (λ (h : Gone). h.crossing == c) gs)) 0) (eq-eqb g.crossing c is)),
  each_weaker (λ (h : Gone). h.crossing ≡ c → (k : ℕ) × (slice_get (logs_gone c gs) k ≡ Some (h.vehicle, h.log))) (λ (h : Gone). h.crossing ≡ c → (k : ℕ) × (slice_get (logs_gone c (g ∷ gs)) k ≡ Some (h.vehicle, h.log))) gs
      (λ h found is. later (g.crossing == c) (h.vehicle, h.log) (found is).0 (found is).1) (logs_found c gs),
)
  where
    later : (b : Bool) (x : VehicleLog) (k : ℕ) → slice_get (logs_gone c gs) k ≡ Some x
        → (j : ℕ) × (slice_get (map (λ (h : Gone). (h.vehicle, h.log)) (if b then g ∷ filter (λ (h : Gone). h.crossing == c) gs else filter (λ (h : Gone). h.crossing == c) gs)) j ≡ Some x)
    later true x k at = (suc k, at)
    later false x k at = (k, at)

-- the callers are the vehicles and the operator
caller_is : (vehicles n : ℕ) → Contains (callers vehicles) n → (n < vehicles) ⊎ (n ≡ OPERATOR)
caller_is vehicles n has =
    elim (Contains-push_cases (range_with_len 0 vehicles) OPERATOR n has) [
      | inl r ↦ inl (vehicle r.0 r.1 r.2)
      | inr e ↦ inr (sym e)
    ]
  where
    vehicle : (k : ℕ) → k < length (range_with_len 0 vehicles) → get_or (range_with_len 0 vehicles) k n ≡ n → n < vehicles
    vehicle k l is =
        let many : length (range_with_len 0 vehicles) ≡ vehicles = length-range_with_len 0 vehicles in
        let at : get_or (range_with_len 0 vehicles) k n ≡ 0 + k = get_or-range_with_len 0 vehicles k n (omega arith) in
        omega arith

-- there is a seat for each vehicle, also after passes were taken
pub kept_many : (c : ℕ) (m : TurnstileModel BookSetting) (xs : List Seat) (s t : Seats) → AreNew m s → Keeps c xs s t → length t.passes.items ≡ m.setting.vehicles
kept_many c m xs s t new keeps =
    keeps.many ∙ ap length new.passes ∙ length-map (range_with_len 0 m.setting.vehicles) (λ v. Some (new_pass {E = Entry} m v)) ∙ length-range_with_len 0 m.setting.vehicles

pub new_held : (m : TurnstileModel BookSetting) (s : Seats) (v : ℕ) → AreNew m s → v < m.setting.vehicles → held s v ≡ Some (new_pass m v)
new_held m s v new l = ap (λ (os : List (Option AgentPass)). get_or os v None) new.passes ∙ get_or-map-range_with_len (λ n. Some (new_pass {E = Entry} m n)) 0 m.setting.vehicles v v None l (omega arith)

module _ (ms : Managers) (vehicles c : ℕ) (m : TurnstileModel BookSetting) (gs : List Gone) (s t u : Seats) (stands : slice_get ms c ≡ Some m) (new : AreNew m s) (keeps : Keeps c (map seat_gone gs) s t) (gives : Gives c gs t u)
    (gone : AllByRecursion (IsGone ms vehicles) gs) where
  -- a leg that came back, and its log at the crossing
  pub record IsBackWith (g : Gone) : Type 0 where
    pub leg : IsGone ms vehicles g
    pub log : g.crossing ≡ c → (k : ℕ) × (slice_get (logs_gone c gs) k ≡ Some (g.vehicle, g.log))

  all_back_with : AllByRecursion IsBackWith gs
  all_back_with = each_both (IsGone ms vehicles) (λ (g : Gone). g.crossing ≡ c → (k : ℕ) × (slice_get (logs_gone c gs) k ≡ Some (g.vehicle, g.log))) IsBackWith gs (λ g a b. record { leg = a; log = b }) gone (logs_found c gs)

  pub seats_many : length u.passes.items ≡ m.setting.vehicles
  seats_many = gives.many ∙ kept_many c m (map seat_gone gs) s t new keeps

  pub seats_operator : u.operator ≡ new_pass m OPERATOR
  seats_operator = gives.operator ∙ keeps.operator ∙ new.operator

  -- what is held for a vehicle: its new pass, where it has no leg at the crossing, and otherwise that of such a leg
  pub at_seat : (v : ℕ) → v < m.setting.vehicles → (AreOthers v c (map seat_gone gs) × (held u v ≡ Some (new_pass m v))) ⊎ IsGiven v c IsBackWith (held u v)
  at_seat v l =
      let n : length t.passes.items ≡ m.setting.vehicles = sym gives.many ∙ seats_many in
      let after : held u v ≡ held_after v c gs (held t v) = gives.after v (omega arith) in
      elim (held_cases v c IsBackWith gs (held t v) all_back_with) [
        | inl h ↦ inl (h.0, after ∙ h.1 ∙ keeps.others v h.0 ∙ new_held m s v new l)
        | inr h ↦ inr (record { leg = h.leg; known = h.known; vehicle = h.vehicle; crossing = h.crossing; given = after ∙ h.given })
      ]

  same_manager : (k : TurnstileModel BookSetting) (g : Gone) → g.crossing ≡ c → slice_get ms g.crossing ≡ Some k → k ≡ m
  same_manager k g is at = some_is k (sym at ∙ ap (slice_get ms) is ∙ stands)
    where
      some_is : (k : TurnstileModel BookSetting) → Some k ≡ Some m → k ≡ m
      some_is k e = cc e

  pub gone_here : (g : Gone) → g.crossing ≡ c → IsGone ms vehicles g → IsHere m g.vehicle g.pass
  gone_here g is h =
      let same : IsSamePass (new_pass m g.vehicle) g.pass = subst (λ (k : TurnstileModel BookSetting). IsSamePass (new_pass k g.vehicle) g.pass) (same_manager h.manager g is h.stands) h.same in
      record { number = same.number; table = same.table; setting = same.setting; few = h.few }

  pub here : (v : ℕ) → v < m.setting.vehicles → (p : AgentPass) × (held u v ≡ Some p) × IsHere m v p
  here v l =
      elim (at_seat v l) [
        | inl h ↦ (new_pass m v, h.1, record { number = refl; table = refl; setting = refl; few = omega arith })
        | inr h ↦ (h.leg.pass, h.given, subst (λ n. IsHere m n h.leg.pass) h.vehicle (gone_here h.leg h.crossing h.known.leg))
      ]

  pub are_back : AreBack m u
  are_back = record {
    many = seats_many;
    back = λ k d l.
        let n : length u.passes.items ≡ m.setting.vehicles = seats_many in
        let h = here k (omega arith) in
        subst (λ o. IsSomeAnd o (λ (p : AgentPass). p.table ≡ m.table)) (sym (get_or_default u.passes.items k d None l ∙ h.1)) h.2.table;
    operator = ap (λ (p : AgentPass). p.table) seats_operator;
  }

  module _ (d : Drove) (left : IsLeft m u d) where
    abbrev h : List Entry
    h = d.journal.items

    passes_many : length left.passes ≡ m.setting.vehicles
    passes_many = sym (length-map left.passes (λ (p : AgentPass). Some p)) ∙ ap length (sym left.seats) ∙ seats_many

    -- the pass that is held is the one that was given to the manager
    given : (v : ℕ) (p e : AgentPass) → v < m.setting.vehicles → held u v ≡ Some p → get_or left.passes v e ≡ p
    given v p e l is =
        let n : length left.passes ≡ m.setting.vehicles = passes_many in
        let at : get_or (map (λ (q : AgentPass). Some q) left.passes) v None ≡ Some (get_or left.passes v e) = get_or-map (λ (q : AgentPass). Some q) left.passes v e None (omega arith) in
        cc (at, ap (λ (os : List (Option AgentPass)). get_or os v None) left.seats, is)

    pub has_held : (v : ℕ) (p : AgentPass) → v < m.setting.vehicles → held u v ≡ Some p → HasPass caller_of h p
    has_held v p l is =
        let n : length left.passes ≡ m.setting.vehicles = passes_many in
        let many : length (left.passes ++ u.operator ∷ []) ≡ length left.passes + 1 = length-append left.passes (u.operator ∷ []) in
        subst (λ (q : AgentPass). HasPass caller_of h q) (get_or_append_left left.passes (u.operator ∷ []) p v (omega arith) ∙ given v p p l is) (left.has v p (omega arith))

    has_operator : HasPass caller_of h u.operator
    has_operator =
        let many : length (left.passes ++ u.operator ∷ []) ≡ length left.passes + 1 = length-append left.passes (u.operator ∷ []) in
        subst (λ (q : AgentPass). HasPass caller_of h q) (get_or_push left.passes u.operator u.operator (length left.passes) refl) (left.has (length left.passes) u.operator (omega arith))

    -- the journal is shorter than its room
    pub few_entries : length h ≤ 128 * m.setting.vehicles
    few_entries =
        let count : length h ≡ sum_by (λ (p : AgentPass). length p.mine) left.passes + sum_by (λ (p : AgentPass). length p.mine) (u.operator ∷ []) =
        left.count ∙ sum_by-append (λ (p : AgentPass). length p.mine) left.passes (u.operator ∷ []) in
        let most : sum_by (λ (p : AgentPass). length p.mine) left.passes ≤ length left.passes * 128 = sum_by-le (λ (p : AgentPass). length p.mine) 128 left.passes each in
        let n : length left.passes * 128 ≡ m.setting.vehicles * 128 = ap (λ i. i * 128) passes_many in
        let none : length u.operator.mine ≡ 0 = ap (λ (p : AgentPass). length p.mine) seats_operator in
        let own : sum_by (λ (p : AgentPass). length p.mine) (u.operator ∷ []) ≡ length u.operator.mine = omega arith in
        omega arith
      where
        each : All (λ (p : AgentPass). length p.mine ≤ 128) left.passes
        each k e l =
            let n : length left.passes ≡ m.setting.vehicles = passes_many in
            let k_is = here k (omega arith) in
            subst (λ (p : AgentPass). length p.mine ≤ 128) (sym (given k k_is.0 e (omega arith) k_is.1)) k_is.2.few

    -- who has no log at the crossing has no entry there
    pub no_others : (n : ℕ) → ((k : ℕ) (x : VehicleLog) → slice_get (logs_gone c gs) k ≡ Some x → x.0 ≢ n) → entries_of caller_of n h ≡ []
    no_others n none =
        elim (cases_lt n m.setting.vehicles) [
          | inl l ↦ vehicle l (at_seat n l)
          | inr ge ↦
              elim (cases_eq n OPERATOR) [
                | inl e ↦ (
                    let o = seats_operator in
                    ap (λ i. entries_of caller_of i h) (e ∙ sym (ap (λ (p : AgentPass). p.number) o)) ∙ has_operator.1 ∙ ap (λ (p : AgentPass). p.mine) o)
                | inr ne ↦ left.others n (λ has. elim (caller_is m.setting.vehicles n has) [ inl l ↦ absurd (omega arith) | inr e ↦ ne e ])
              ]
        ]
      where
        vehicle : n < m.setting.vehicles → (AreOthers n c (map seat_gone gs) × (held u n ≡ Some (new_pass m n))) ⊎ IsGiven n c IsBackWith (held u n) → entries_of caller_of n h ≡ []
        vehicle l (inl is) = (has_held n (new_pass m n) l is.1).1
        vehicle l (inr g) = let found = g.known.log g.crossing in absurd (none found.0 (g.leg.vehicle, g.leg.log) found.1 g.vehicle)
