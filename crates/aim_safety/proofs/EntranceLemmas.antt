-- A driver that keeps the rules enters at most once, so where it entered first is where it crosses.
use Rattle.aim_driver.specs.Crossings.{first_entrance}
use Rattle.std.proofs.Common.{◌≡◌, true, ◌&&◌, not, nat_le, List, [], ◌∷◌, ◌++◌, reverse, Option, Some, None, is_none, refl, sym, subst}
use Rattle.std.proofs.lemmas.List.{reverse-append}
use Rattle.aim_driver.specs.declared.logs.Entrance.{Entrance}
use Rattle.aim_driver.specs.declared.logs.LogItem.{LogItem}
use Rattle.aim_driver.specs.declared.logs.LogItem.TheVariants as item
use Rattle.aim_driver.specs.Replies.{is}
use Rattle.aim_driver.specs.Logs.{last_step, active, granted, has_stopped, Crossing, crossing}
use Rattle.aim_driver.specs.Keeps.{may_follow, may_enter, is_in_window, keeps_rules, keeps}
use Rattle.aim_driver.specs.Crossings.{crossing_of}
use Rattle.aim_rules.proofs.Lists.{from_front}
use Rattle.aim_rules.proofs.TestLemmas.{and_left, and_right}

-- an first_entrance and a crossing that begin in one step under one id, or neither
abbrev Same : Option Entrance → Option Crossing → Type 0
Same None None = Unit {0}
Same None (Some c) = ⊥
Same (Some t) None = ⊥
Same (Some t) (Some c) = (c.step ≡ t.step) × (c.id ≡ t.id)

entrance_sent : (xs : List LogItem) (x : LogItem) → first_entrance (x ∷ []) ≡ None → first_entrance (xs ++ x ∷ []) ≡ first_entrance xs
entrance_sent [] x h = h
entrance_sent (item.Sent step m ∷ xs) x h = entrance_sent xs x h
entrance_sent (item.Got step seq r ∷ xs) x h = entrance_sent xs x h
entrance_sent (item.Entered step id ∷ xs) x h = refl

entrance_first : (xs : List LogItem) (x : LogItem) → first_entrance xs ≡ None → first_entrance (xs ++ x ∷ []) ≡ first_entrance (x ∷ [])
entrance_first [] x h = refl
entrance_first (item.Sent step m ∷ xs) x h = entrance_first xs x h
entrance_first (item.Got step seq r ∷ xs) x h = entrance_first xs x h
entrance_first (item.Entered step id ∷ xs) x h = absurd (cc)

none_before : (o : Option Entrance) (c : Option Crossing) → Same o c → is_none c ≡ true → o ≡ None
none_before None None s h = refl
none_before None (Some c) s h = absurd s
none_before (Some t) None s h = absurd s
none_before (Some t) (Some c) s h = absurd (cc)

more : (xs : List LogItem) (x : LogItem) → Same (first_entrance xs) (crossing (reverse xs)) → may_follow (reverse xs) x ≡ true → Same (first_entrance (xs ++ x ∷ [])) (crossing (x ∷ reverse xs))
more xs (item.Sent step m) s h = let P : Option Entrance → Type 0 = λ o. Same o (crossing (reverse xs)) in subst P (sym (entrance_sent xs (item.Sent step m) refl)) s
more xs (item.Got step seq r) s h = let P : Option Entrance → Type 0 = λ o. Same o (crossing (reverse xs)) in subst P (sym (entrance_sent xs (item.Got step seq r) refl)) s
more xs (item.Entered step id) s h =
    let P : Option Entrance → Type 0 = λ o. Same o (Some (record { step = step; id = id; window = granted (reverse xs) id })) in
    let may = and_right (nat_le (last_step (reverse xs)) step) (may_enter (reverse xs) step id) h in
    let a = is_none (crossing (reverse xs)) in
    let b = is (active (reverse xs)) id in
    let d = is_in_window (granted (reverse xs) id) step in
    let first = and_left a b (and_left (a && b) d (and_left (a && b && d) (not (has_stopped (reverse xs))) may)) in
    subst P (sym (entrance_first xs (item.Entered step id) (none_before (first_entrance xs) (crossing (reverse xs)) s first))) (refl, refl)

same_start : (log : List LogItem) → keeps log ≡ true → Same (first_entrance log) (crossing_of log)
same_start log h = from_front (λ log. keeps log ≡ true → Same (first_entrance log) (crossing_of log)) (λ h. tt) step log h
  where
    step : (xs : List LogItem) (x : LogItem) → (keeps xs ≡ true → Same (first_entrance xs) (crossing_of xs)) → keeps (xs ++ x ∷ []) ≡ true → Same (first_entrance (xs ++ x ∷ [])) (crossing_of (xs ++ x ∷ []))
    step xs x earlier h =
        let turned : reverse (xs ++ x ∷ []) ≡ x ∷ reverse xs = reverse-append xs (x ∷ []) in
        let K : List LogItem → Type 0 = λ past. keeps_rules past ≡ true in
        let P : List LogItem → Type 0 = λ past. Same (first_entrance (xs ++ x ∷ [])) (crossing past) in
        let k : (may_follow (reverse xs) x && keeps_rules (reverse xs)) ≡ true = subst K turned h in
        subst P (sym turned) (more xs x (earlier (and_right (may_follow (reverse xs) x) (keeps_rules (reverse xs)) k)) (and_left (may_follow (reverse xs) x) (keeps_rules (reverse xs)) k))

pub crosses_there : (log : List LogItem) (t : Entrance) → keeps log ≡ true → first_entrance log ≡ Some t → (c : Crossing) × (crossing_of log ≡ Some c) × (c.step ≡ t.step) × (c.id ≡ t.id)
crosses_there log t h e = go (crossing_of log) refl (let P : Option Entrance → Type 0 = λ o. Same o (crossing_of log) in subst P e (same_start log h))
  where
    go : (o : Option Crossing) → crossing_of log ≡ o → Same (Some t) o → (c : Crossing) × (crossing_of log ≡ Some c) × (c.step ≡ t.step) × (c.id ≡ t.id)
    go None p s = absurd s
    go (Some c) p s = (c, p, s.0, s.1)
