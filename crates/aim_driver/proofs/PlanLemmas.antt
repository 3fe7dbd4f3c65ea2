-- Changes that rise.
use Rattle.std.proofs.Common.{◌≡◌, zero, suc, ◌≤◌, true, nat_lt, List, [], ◌∷◌, ◌++◌, refl, sym, subst, arith}
use Rattle.aim_driver.specs.declared.plans.PlannedChange.{PlannedChange}
use Rattle.aim_driver.specs.Plans.{last_change, are_rising, AreShort}
use Rattle.aim_driver.proofs.SmallFacts.{lt_true, and_left, and_right, both, some_is, none_some}

pub rising_more : (cs : List PlannedChange) (x : PlannedChange) → are_rising cs ≡ true → last_change cs ≤ x.step → are_rising (cs ++ x ∷ []) ≡ true
rising_more [] x rising above = refl
rising_more (c ∷ []) x rising above = both (nat_lt c.step x.step) true (lt_true c.step x.step (omega arith)) refl
rising_more (c ∷ d ∷ cs) x rising above =
    both (nat_lt c.step d.step) (are_rising (d ∷ cs ++ x ∷ [])) (and_left (nat_lt c.step d.step) (are_rising (d ∷ cs)) rising)
    (rising_more (d ∷ cs) x (and_right (nat_lt c.step d.step) (are_rising (d ∷ cs)) rising) above)

short_more : (cs : List PlannedChange) (x : PlannedChange) → AreShort cs → x.lead ≤ 65536 → AreShort (cs ++ x ∷ [])
short_more [] x short le zero c e = let is : x ≡ c = some_is x c e in let P : PlannedChange → Type 0 = λ d. d.lead ≤ 65536 in subst P is le
short_more [] x short le (suc k) c e = none_some c e
short_more (d ∷ cs) x short le zero c e = short zero c e
short_more (d ∷ cs) x short le (suc k) c e = short_more cs x (λ j c h. short (suc j) c h) le k c e

-- what the type keeps after one more change
pub planned_more : (cs ds : List PlannedChange) (x : PlannedChange) → ds ≡ cs ++ x ∷ [] → are_rising cs ≡ true → AreShort cs → last_change cs ≤ x.step → x.lead ≤ 65536 → (are_rising ds ≡ true) × AreShort ds
planned_more cs ds x is rising short above le =
    let P : List PlannedChange → Type 0 = λ l. (are_rising l ≡ true) × AreShort l in
    subst P (sym is) (rising_more cs x rising above, short_more cs x short le)
