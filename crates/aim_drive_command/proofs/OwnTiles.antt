-- What a report of logs in order tells, and that its drivers are on tiles of their own.
use Rattle.std.proofs.Common.{◌≡◌, ◌≢◌, ◌⊎◌, inl, inr, ℕ, zero, suc, ◌+◌, ◌<◌, ◌≤◌, ◌==◌, Bool, true, false, true≢false, List, [], ◌∷◌, length, map, if◌then◌else◌, Some, None, refl, sym, ap, ◌∙◌, subst, arith}
use Rattle.std.specs.Prelude.{All, AllPairs, slice_get}
use Rattle.std.proofs.lemmas.Bool.{eqb-true, cases_Bool}
use Rattle.std.proofs.lemmas.Bool.Decides.{nat_tests}
use Rattle.std.proofs.lemmas.List.Elements.{All-nil, All-cons, All-head, All-tail}
use Rattle.std.proofs.lemmas.List.Kept.{AllPairs-cons}
use Rattle.aim_messages.specs.declared.messages.Params.{Params}
use Rattle.aim_messages.specs.declared.entries.Entry.{Entry}
use Rattle.aim_text_entries.specs.Ranges.{IsEntry}
use Rattle.aim_geometry.specs.Cells.{Cell}
use Rattle.aim_layout.specs.Intersection.{Intersection}
use Rattle.aim_rules.specs.Cells.{IsIn}
use Rattle.aim_rules.specs.Claims.{green}
use Rattle.aim_rules.specs.Legal.{IsLegal}
use Rattle.aim_driver.specs.declared.logs.LogItem.{LogItem}
use Rattle.aim_safety.specs.Occupied.{Passage, passage, is_on, is_occupied}
use Rattle.aim_safety.specs.Reserved.{IsReserved}
use Rattle.aim_safety.specs.Tiles.{EntersBy}
use Rattle.aim_safety.proofs.MeetLemmas.{occupied_passage}
use Rattle.aim_safety.proofs.ReservedLemmas.{reserved_params}
use Rattle.aim_report.specs.Apart.{IsOwn, AreOnOwnTiles}
use Rattle.aim_report.specs.Told.{IsTold, IsItem, IsLog, AreTold, log_in}
use Rattle.aim_drive.specs.declared.running.Logged.{Logged}
use Rattle.aim_drive.specs.Headline.{VehicleLog}
use Rattle.aim_drive.specs.Making.{log_of}
use Rattle.aim_drive_command.specs.Ordered.{log_among, logs_from, in_order}

-- what holds of each driver's log holds of what is told of it
pub all_told : (P : List LogItem → Type 0) (ls : List Logged) → All (λ (l : Logged). P l.driver.log) ls → All (λ (x : VehicleLog). P x.1) (map log_of ls)
all_told P [] each = All-nil (λ (x : VehicleLog). P x.1)
all_told P (l ∷ ls) each =
    All-cons (λ (x : VehicleLog). P x.1) (log_of l) (map log_of ls) (All-head (λ (l : Logged). P l.driver.log) l ls each) (all_told P ls (All-tail (λ (l : Logged). P l.driver.log) l ls each))

-- the log of a vehicle is one of them, or empty
log_has : (P : List LogItem → Type 0) (v : ℕ) (logs : List VehicleLog) → P [] → All (λ (x : VehicleLog). P x.1) logs → P (log_among v logs)
log_has P v [] none each = none
log_has P v (x ∷ xs) none each = go (x.0 == v) (All-head (λ (x : VehicleLog). P x.1) x xs each) (log_has P v xs none (All-tail (λ (x : VehicleLog). P x.1) x xs each))
  where
    go : (b : Bool) → P x.1 → P (log_among v xs) → P (if b then x.1 else log_among v xs)
    go true here later = here
    go false here later = later

-- all logs in order
all_in_order : (Q : VehicleLog → Type 0) (first count : ℕ) (logs : List VehicleLog) → ((v : ℕ) → first ≤ v → v < first + count → Q (v, log_among v logs)) → All Q (logs_from first count logs)
all_in_order Q first zero logs each = All-nil Q
all_in_order Q first (suc n) logs each =
    All-cons Q (first, log_among first logs) (logs_from (first + 1) n logs) (each first (omega arith) (omega arith))
    (all_in_order Q (first + 1) n logs (λ v least less. each v (omega (arith, least)) (omega (arith, less))))

abbrev Differ : VehicleLog → VehicleLog → Type 0
Differ x y = x.0 ≢ y.0

one_each : (first count : ℕ) (logs : List VehicleLog) → AllPairs Differ (logs_from first count logs)
one_each first zero logs = λ j k d lt l. absurd (omega arith)
one_each first (suc n) logs =
    AllPairs-cons Differ (first, log_among first logs) (logs_from (first + 1) n logs)
    (all_in_order (Differ (first, log_among first logs)) (first + 1) n logs (λ v least less is. absurd (omega (arith, least, is))))
    (one_each (first + 1) n logs)

-- what a report tells
pub told_of : (i : Intersection) (vehicles : ℕ) (h : List Entry) (logs : List VehicleLog) → IsLegal i vehicles h → vehicles ≤ 65536 → length h ≤ 4294967295
    → All IsEntry h → All (λ (x : VehicleLog). All IsItem x.1) logs → AreTold h (in_order vehicles logs)
told_of i vehicles h logs legal some few entries items = record {
  few = few;
  entries = λ k d lt. record { values = entries k d lt; caller = (legal.well_formed k d lt).caller.0 };
  own = all_in_order IsLog 0 vehicles logs (λ v least less. record { vehicle = omega (arith, less, some); items = log_has (All IsItem) v logs (All-nil IsItem) items });
  one_each = one_each 0 vehicles logs;
}

-- the log that is told of a vehicle
pub log_in_order : (first count v : ℕ) (logs : List VehicleLog) → first ≤ v → v < first + count → log_in (logs_from first count logs) v ≡ log_among v logs
log_in_order first zero v logs least less = absurd (omega arith)
log_in_order first (suc n) v logs least less = elim (cases_Bool (first == v)) [
  | inl is ↦ rw is (ap (λ k. log_among k logs) (eqb-true first v is))
  | inr not ↦ rw not (log_in_order (first + 1) n v logs (behind not) (omega arith))
]
  where
    behind : (first == v) ≡ false → first + 1 ≤ v
    behind not = grind (arith, nat_tests)

-- where a vehicle's log stands
record IsAmong (logs : List VehicleLog) (v : ℕ) (log : List LogItem) : Type 0 where
  place : ℕ
  there : VehicleLog
  at : slice_get logs place ≡ Some there
  own : there.0 ≡ v
  is : there.1 ≡ log

found_log : (v : ℕ) (logs : List VehicleLog) → (log_among v logs ≡ []) ⊎ IsAmong logs v (log_among v logs)
found_log v [] = inl refl
found_log v (x ∷ xs) = go (x.0 == v) refl (found_log v xs)
  where
    go : (b : Bool) → (x.0 == v) ≡ b → (log_among v xs ≡ []) ⊎ IsAmong xs v (log_among v xs)
        → ((if b then x.1 else log_among v xs) ≡ []) ⊎ IsAmong (x ∷ xs) v (if b then x.1 else log_among v xs)
    go true e later = inr (record { place = 0; there = x; at = refl; own = eqb-true x.0 v e; is = refl })
    go false e (inl none) = inl none
    go false e (inr f) = inr (record { place = suc f.place; there = f.there; at = f.at; own = f.own; is = f.is })

log_is : (first count : ℕ) (logs : List VehicleLog) (x : VehicleLog) → IsIn x (logs_from first count logs) → x.1 ≡ log_among x.0 logs
log_is first zero logs x m = absurd m
log_is first (suc n) logs x (inl is) = ap (λ (y : VehicleLog). y.1) is ∙ ap (λ (y : VehicleLog). log_among y.0 logs) (sym is)
log_is first (suc n) logs x (inr m) = log_is (first + 1) n logs x m

module _ (i : Intersection) (h : List Entry) (vehicles : ℕ) (logs : List VehicleLog)
    (apart : (j k : ℕ) (x y : VehicleLog) → slice_get logs j ≡ Some x → slice_get logs k ≡ Some y → x.0 ≢ y.0 → (c : Cell) → is_occupied i h x.1 c ≡ true → is_occupied i h y.1 c ≡ false)
    (clear : (k : ℕ) (x : VehicleLog) (t : Passage) (c : Cell) → slice_get logs k ≡ Some x → passage i h x.1 ≡ Some t → is_on i t c ≡ true → green i h c t.grant.params.lane ≡ None)
    (reserved : (k : ℕ) (x : VehicleLog) (c : Cell) → slice_get logs k ≡ Some x → is_occupied i h x.1 c ≡ true → IsReserved i h x.0 x.1 c) where
  nowhere : (log : List LogItem) (c : Cell) → log ≡ [] → is_occupied i h log c ≡ false
  nowhere log c none = ap (λ (l : List LogItem). is_occupied i h l c) none

  -- a log in order whose driver is on a tile is one of the drive's
  among : (x : VehicleLog) (c : Cell) → IsIn x (in_order vehicles logs) → is_occupied i h x.1 c ≡ true → IsAmong logs x.0 x.1
  among x c m on =
      let is = log_is 0 vehicles logs x m in
      elim (found_log x.0 logs) [
        | inl none ↦ absurd (true≢false (sym on ∙ nowhere x.1 c (is ∙ none)))
        | inr f ↦ subst (IsAmong logs x.0) (sym is) f
      ]

  own_at : (k : ℕ) (y : VehicleLog) (c : Cell) → slice_get logs k ≡ Some y → is_occupied i h y.1 c ≡ true → IsOwn i h y.0 c
  own_at k y c at on =
      let r = reserved k y c at on in
      let t = occupied_passage i h y.1 c on in
      let same = reserved_params i h y.0 y.1 c t.0 r t.1 in
      record {
        id = r.entrance.id;
        entry = r.entry;
        granted = r.granted;
        params = r.params;
        asked = r.asked;
        cell = r.cell;
        clear = subst (λ (p : Params). green i h c p.lane ≡ None) same (clear k y t.0 c at t.1 t.2);
      }

  are_apart : (x y : VehicleLog) (c : Cell) → IsIn x (in_order vehicles logs) → IsIn y (in_order vehicles logs) → x.0 ≢ y.0 → is_occupied i h x.1 c ≡ true → is_occupied i h y.1 c ≡ false
  are_apart x y c mx my ne on =
      let f = among x c mx on in
      let is = log_is 0 vehicles logs y my in
      elim (found_log y.0 logs) [
        | inl none ↦ nowhere y.1 c (is ∙ none)
        | inr g ↦ (
            let here : is_occupied i h f.there.1 c ≡ true = ap (λ (l : List LogItem). is_occupied i h l c) f.is ∙ on in
            let free = apart f.place g.place f.there g.there f.at g.at (λ e. ne (sym f.own ∙ e ∙ g.own)) c here in
            ap (λ (l : List LogItem). is_occupied i h l c) (is ∙ sym g.is) ∙ free)
      ]

  are_own : (x : VehicleLog) (c : Cell) → IsIn x (in_order vehicles logs) → is_occupied i h x.1 c ≡ true → IsOwn i h x.0 c
  are_own x c m on =
      let f = among x c m on in
      subst (λ n. IsOwn i h n c) f.own (own_at f.place f.there c f.at (ap (λ (l : List LogItem). is_occupied i h l c) f.is ∙ on))

  pub on_own_tiles : All (λ (x : VehicleLog). EntersBy 2147483648 x.1) logs → AreOnOwnTiles i h (in_order vehicles logs)
  on_own_tiles enters = record {
    enters = all_in_order (λ (x : VehicleLog). EntersBy 2147483648 x.1) 0 vehicles logs (λ v least less. log_has (EntersBy 2147483648) v logs tt enters);
    apart = are_apart;
    own = are_own;
  }
