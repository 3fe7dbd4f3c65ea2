-- How what is found and counted goes on with one more line.
use Rattle.std.proofs.Common.{◌≡◌, ℕ, ◌+◌, ◌<◌, ◌≤◌, List, [], ◌∷◌, ◌++◌, length, take, filter_map, get_or, Option, Some, None, refl, sym, ap, ◌∙◌, length-append, arith}
use Rattle.std.specs.Option.{option_or, option_to_list}
use Rattle.std.proofs.lemmas.List.{take_more, take_all, reverse-append, append-nil}
use Rattle.aim_geometry.specs.Bounded.{find_map}
use Rattle.aim_driver.specs.declared.plans.PlannedChange.{PlannedChange}
use Rattle.aim_driver.specs.Plans.{last_change}
use Rattle.aim_script.proofs.AppendLemmas.{find_map-one, filter_map-one}
use Rattle.aim_drive_script.specs.declared.questions.ChangesSeen.{ChangesSeen}
use Rattle.aim_drive_script.specs.declared.questions.OrdersSeen.{OrdersSeen}
use Rattle.aim_drive_script.specs.Said.{last_number}
use Rattle.aim_drive_script.specs.Seen.{changes_with, orders_with, seen_changes, seen_orders}

-- the first that is given
pub found_next : {X Y : Type 0} (f : X → Option Y) (xs : List X) (i : ℕ) (d : X) (old given new : Option Y) → i < length xs → old ≡ find_map f (take i xs) → given ≡ f (get_or xs i d) → new ≡ option_or old given → new ≡ find_map f (take (i + 1) xs)
found_next f xs i d old given new lt was here is =
    is ∙ ap (option_or old) here ∙ ap (λ o. option_or o (f (get_or xs i d))) was ∙ sym (ap (find_map f) (take_more xs i d lt) ∙ find_map-one f (take i xs) (get_or xs i d))

-- all that are given
pub given_next : {X Y : Type 0} (f : X → Option Y) (xs : List X) (i : ℕ) (d : X) (old : List Y) (given : Option Y) (new : List Y) → i < length xs → old ≡ filter_map f (take i xs) → given ≡ f (get_or xs i d) → new ≡ old ++ option_to_list given
    → new ≡ filter_map f (take (i + 1) xs)
given_next f xs i d old given new lt was here is =
    is ∙ ap (λ o. old ++ option_to_list o) here ∙ ap (λ ys. ys ++ option_to_list (f (get_or xs i d))) was
    ∙ sym (ap (filter_map f) (take_more xs i d lt) ∙ filter_map-one f (take i xs) (get_or xs i d))

pub given_all : {X Y : Type 0} (f : X → Option Y) (xs : List X) (i : ℕ) (old : List Y) → length xs ≤ i → old ≡ filter_map f (take i xs) → old ≡ filter_map f xs
given_all f xs i old le is = is ∙ ap (filter_map f) (take_all i xs le)

-- what is kept of all that are given
pub kept_next : {X Y Z : Type 0} (f : X → Option Y) (keep : List Y → Z) (add : Z → Option Y → Z) (xs : List X) (i : ℕ) (d : X) (old : Z) (given : Option Y) (new : Z)
    → ((ys : List Y) (o : Option Y) → keep (ys ++ option_to_list o) ≡ add (keep ys) o)
    → i < length xs → old ≡ keep (filter_map f (take i xs)) → given ≡ f (get_or xs i d) → new ≡ add old given → new ≡ keep (filter_map f (take (i + 1) xs))
kept_next f keep add xs i d old given new grows lt was here is =
    is ∙ ap (add old) here ∙ ap (λ z. add z (f (get_or xs i d))) was ∙ sym (grows (filter_map f (take i xs)) (f (get_or xs i d)))
    ∙ sym (ap (λ ys. keep (filter_map f ys)) (take_more xs i d lt) ∙ ap keep (filter_map-one f (take i xs) (get_or xs i d)))

last_change_more : (cs : List PlannedChange) (c : PlannedChange) → last_change (cs ++ c ∷ []) ≡ c.step + 1
last_change_more [] c = refl
last_change_more (b ∷ []) c = refl
last_change_more (a ∷ b ∷ cs) c = last_change_more (b ∷ cs) c

pub changes_grow : (cs : List PlannedChange) (o : Option PlannedChange) → seen_changes (cs ++ option_to_list o) ≡ changes_with (seen_changes cs) o
changes_grow cs None = ap seen_changes (append-nil cs)
changes_grow cs (Some c) =
    ap (λ n. let r : ChangesSeen = record { count = n; next = last_change (cs ++ c ∷ []) } in r) (length-append cs (c ∷ []))
    ∙ ap (λ n. let r : ChangesSeen = record { count = length cs + 1; next = n } in r) (last_change_more cs c)

pub last_number_more : (ns : List ℕ) (n : ℕ) → last_number (ns ++ n ∷ []) ≡ n
last_number_more ns n = rw (reverse-append ns (n ∷ [])) refl

pub orders_grow : (ns : List ℕ) (o : Option ℕ) → seen_orders (ns ++ option_to_list o) ≡ orders_with (seen_orders ns) o
orders_grow ns None = ap seen_orders (append-nil ns)
orders_grow ns (Some n) =
    ap (λ k. let r : OrdersSeen = record { count = k; last = last_number (ns ++ n ∷ []) } in r) (length-append ns (n ∷ []))
    ∙ ap (λ k. let r : OrdersSeen = record { count = length ns + 1; last = k } in r) (last_number_more ns n)

pub changes_few : (seen : ChangesSeen) (o : Option PlannedChange) (i : ℕ) (new : ChangesSeen) → seen.count ≤ i → new ≡ changes_with seen o → new.count ≤ i + 1
changes_few seen None i new few is = omega (arith, ap (λ (s : ChangesSeen). s.count) is)
changes_few seen (Some c) i new few is = omega (arith, ap (λ (s : ChangesSeen). s.count) is)

pub orders_few : (seen : OrdersSeen) (o : Option ℕ) (i : ℕ) (new : OrdersSeen) → seen.count ≤ i → new ≡ orders_with seen o → new.count ≤ i + 1
orders_few seen None i new few is = omega (arith, ap (λ (s : OrdersSeen). s.count) is)
orders_few seen (Some n) i new few is = omega (arith, ap (λ (s : OrdersSeen). s.count) is)
