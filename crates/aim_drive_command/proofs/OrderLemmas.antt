-- The logs of vehicles, one after another.
use Rattle.std.proofs.Common.{◌≡◌, ℕ, zero, suc, ◌+◌, ◌-◌, ◌<◌, ◌≤◌, ◌==◌, Bool, true, false, List, [], ◌∷◌, ◌++◌, length, map, drop, get_or, if◌then◌else◌, refl, sym, ap, ◌∙◌, arith, append_assoc}
use Rattle.std.proofs.lemmas.List.{append-nil}
use Rattle.std.proofs.Math.Seq.{drop-cons}
use Rattle.std.specs.List.{filter}
use Rattle.aim_driver.specs.declared.logs.LogItem.{LogItem}
use Rattle.aim_drive.specs.declared.running.Logged.{Logged}
use Rattle.aim_drive.specs.Headline.{VehicleLog}
use Rattle.aim_drive.specs.Making.{log_of}
use Rattle.aim_drive_command.specs.Ordered.{log_among, logs_from}

-- of some vehicles more the first, and the others
pub first_log : (first count : ℕ) (logs : List VehicleLog) → 0 < count → logs_from first count logs ≡ (first, log_among first logs) ∷ logs_from (first + 1) (count - 1) logs
first_log first zero logs some = absurd (omega (arith, some))
first_log first (suc count) logs some = let e : count ≡ suc count - 1 = omega arith in ap (λ n. (first, log_among first logs) ∷ logs_from (first + 1) n logs) e

pub no_log : (first count : ℕ) (logs : List VehicleLog) → count ≡ 0 → logs_from first count logs ≡ []
no_log first count logs none = ap (λ n. logs_from first n logs) none

module _ (text : ℕ → List LogItem → List ℕ) (all : List VehicleLog → List ℕ) (empty : all [] ≡ []) (more : (x : VehicleLog) (xs : List VehicleLog) → all (x ∷ xs) ≡ text x.0 x.1 ++ all xs) (logs : List VehicleLog) where
  -- the text of one vehicle more was appended
  pub text_more : (v n : ℕ) (out out' whole : List ℕ) → v < n → out' ≡ out ++ text v (log_among v logs)
      → out ++ all (logs_from v (n - v) logs) ≡ whole → out' ++ all (logs_from (v + 1) (n - (v + 1)) logs) ≡ whole
  text_more v n out out' whole less is before =
      let one : List ℕ = text v (log_among v logs) in
      let rest : List ℕ = all (logs_from (v + 1) (n - (v + 1)) logs) in
      let count : n - v - 1 ≡ n - (v + 1) = omega arith in
      let first : logs_from v (n - v) logs ≡ (v, log_among v logs) ∷ logs_from (v + 1) (n - (v + 1)) logs =
      first_log v (n - v) logs (omega (arith, less)) ∙ ap (λ k. (v, log_among v logs) ∷ logs_from (v + 1) k logs) count in
      let whole_is : out ++ (one ++ rest) ≡ whole =
      sym (ap (λ l. out ++ l) (ap all first ∙ more (v, log_among v logs) (logs_from (v + 1) (n - (v + 1)) logs))) ∙ before in
      ap (λ l. l ++ rest) is ∙ append_assoc out one rest ∙ whole_is

  -- no vehicle is left
  pub text_done : (v n : ℕ) (out whole : List ℕ) → n ≤ v → out ++ all (logs_from v (n - v) logs) ≡ whole → out ≡ whole
  text_done v n out whole least before =
      let none : n - v ≡ 0 = omega (arith, least) in
      sym (ap (λ l. out ++ l) (ap all (no_log v (n - v) logs none) ∙ empty) ∙ append-nil out) ∙ before

-- the vehicle's log is the one at a place where its number stands
pub log_here : (v : ℕ) (ls : List Logged) (k : ℕ) (d : Logged) → k < length ls → ((get_or ls k d).vehicle == v) ≡ true → log_among v (map log_of (drop k ls)) ≡ (get_or ls k d).driver.log
log_here v ls k d less own =
    ap (λ l. log_among v (map log_of l)) (drop-cons ls k d less)
    ∙ ap (λ b. if b then (get_or ls k d).driver.log else log_among v (map log_of (drop (suc k) ls))) own

-- and stands further on where another number does
pub log_later : (v : ℕ) (ls : List Logged) (k : ℕ) (d : Logged) → k < length ls → ((get_or ls k d).vehicle == v) ≡ false
    → log_among v (map log_of (drop k ls)) ≡ log_among v (map log_of (drop (suc k) ls))
log_later v ls k d less other =
    ap (λ l. log_among v (map log_of l)) (drop-cons ls k d less)
    ∙ ap (λ b. if b then (get_or ls k d).driver.log else log_among v (map log_of (drop (suc k) ls))) other

-- how many pass a test of what they tell
pub counted_told : (p : VehicleLog → Bool) (ls : List Logged) → length (filter p (map log_of ls)) ≡ length (filter (λ l. p (log_of l)) ls)
counted_told p [] = refl
counted_told p (l ∷ ls) = go (p (log_of l)) (counted_told p ls)
  where
    go : (b : Bool) → length (filter p (map log_of ls)) ≡ length (filter (λ x. p (log_of x)) ls) → length (if b then log_of l ∷ filter p (map log_of ls) else filter p (map log_of ls)) ≡ length (if b then l ∷ filter (λ x. p (log_of x)) ls else filter (λ x. p (log_of x)) ls)
    go true rest = ap suc rest
    go false rest = rest
