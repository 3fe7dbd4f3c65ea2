-- What a link delivers is the first thing that comes, and one thing less is under way then.
use Rattle.std.proofs.Common.{◌≡◌, ◌⊎◌, inl, inr, ℕ, zero, suc, ◌+◌, ◌<◌, ◌≤◌, min, Fits, w32, Bool, true, false, not, nat_le, nat_lt, List, [], ◌∷◌, length, get_or, set, fold, sum_by, position, slice_get, Option, Some, None, option_and_then, option_map, if◌then◌else◌, refl, sym, ◌∙◌, ap, subst, take, arith}
use Rattle.std.specs.List.{position_or_len}
use Rattle.std.proofs.lemmas.Bool.Decides.{nat_tests}
use Rattle.std.proofs.lemmas.Option.{slice_get_within, slice_get-get_or, slice_get_past, get_or_from_slice_get}
use Rattle.std.proofs.lemmas.List.Quantifiers.{position-Some}
use Rattle.std.proofs.lemmas.List.Sums.{fold_more, sum_by-set}
use Rattle.aim_driver.specs.declared.links.Fate.{Fate}
use Rattle.aim_driver.specs.declared.links.Fate.TheVariants as fate
use Rattle.aim_driver.specs.declared.links.Sending.{Sending}
use Rattle.aim_driver.specs.Links.{LinkModel, fate_at, dues, sooner, is_step, next_due, copies_left, under_way, earliest, first_at, first_by, next_place, item_of, delivered, came_again, after_coming, after_delivery, IsNext, NoneComes}
use Rattle.aim_driver.proofs.LinkFacts.{true_le, some_is, none_some, never}

length_dues : (at at' : ℕ) (f : Fate) → length (dues at f) ≡ length (dues at' f)
length_dues at at' fate.Deliver = refl
length_dues at at' fate.Lose = refl
length_dues at at' fate.Repeat = refl
length_dues at at' (fate.Delay more) = refl

pub few_dues : (at : ℕ) (f : Fate) → length (dues at f) ≤ 2
few_dues at fate.Deliver = omega arith
few_dues at fate.Lose = omega arith
few_dues at fate.Repeat = omega arith
few_dues at (fate.Delay more) = omega arith

due_of_one : (at due : ℕ) (n : ℕ) (d : ℕ) → at ≤ due → slice_get (due ∷ []) n ≡ Some d → at ≤ d
due_of_one at due zero d le e = let is : due ≡ d = some_is due d e in omega arith
due_of_one at due (suc n) d le e = none_some d e

-- nothing comes before the link's lag is over
pub due_later : (at : ℕ) (f : Fate) (n d : ℕ) → slice_get (dues at f) n ≡ Some d → at ≤ d
due_later at fate.Deliver n d e = due_of_one at at n d (omega arith) e
due_later at fate.Lose n d e = none_some d e
due_later at fate.Repeat zero d e = let is : at ≡ d = some_is at d e in omega arith
due_later at fate.Repeat (suc n) d e = due_of_one at (at + 1) n d (omega arith) e
due_later at (fate.Delay more) n d e = due_of_one at (at + more) n d (omega arith) e

-- what is to come has not come as often as it may
pub not_all : {X : Type 0} (lag : ℕ) (s : Sending X) (due : ℕ) → next_due lag s ≡ Some due → s.came < length (dues s.step s.fate)
not_all lag s due e =
    let n : s.came < length (dues (s.step + lag) s.fate) = slice_get_within (dues (s.step + lag) s.fate) s.came due e in
    let same = length_dues (s.step + lag) s.step s.fate in omega arith

is_its_step : (o : Option ℕ) (due : ℕ) → is_step o due ≡ true → o ≡ Some due
is_its_step None due h = never (sym h)
is_its_step (Some d) due h = let is : d ≡ due = grind (arith, nat_tests) in ap (λ x. Some x) is

its_step : (o : Option ℕ) (due : ℕ) → o ≡ Some due → is_step o due ≡ true
its_step o due e = rw e (grind (arith, nat_tests))

-- the least of some steps

sooner_left : (a o : Option ℕ) (b : ℕ) → a ≡ Some b → (c : ℕ) × (sooner a o ≡ Some c) × (c ≤ b)
sooner_left None o b e = none_some b e
sooner_left (Some x) None b e = (x, refl, let is : x ≡ b = some_is x b e in omega arith)
sooner_left (Some x) (Some y) b e = (min x y, refl, let is : x ≡ b = some_is x b e in omega arith)

sooner_right : (a o : Option ℕ) (b : ℕ) → o ≡ Some b → (c : ℕ) × (sooner a o ≡ Some c) × (c ≤ b)
sooner_right None o b e = (b, e, omega arith)
sooner_right (Some x) None b e = none_some b e
sooner_right (Some x) (Some y) b e = (min x y, refl, let is : y ≡ b = some_is y b e in omega arith)

either_of : (a o : Option ℕ) (c : ℕ) → sooner a o ≡ Some c → (a ≡ Some c) ⊎ (o ≡ Some c)
either_of None o c e = inr e
either_of (Some x) None c e = inl e
either_of (Some x) (Some y) c e = go (nat_le x y) refl
  where
    go : (b : Bool) → nat_le x y ≡ b → (Some x ≡ Some c) ⊎ (Some y ≡ Some c)
    go true le = let l = true_le x y le in let is : min x y ≡ c = some_is (min x y) c e in inl (ap (λ z. Some z) (omega arith))
    go false gt = let l : y ≤ x = grind (arith, nat_tests) in let is : min x y ≡ c = some_is (min x y) c e in inr (ap (λ z. Some z) (omega arith))

least_from : {X : Type 0} → ℕ → Option ℕ → List (Sending X) → Option ℕ
least_from lag a ss = fold (λ due s. sooner due (next_due lag s)) a ss

kept_least : {X : Type 0} (lag : ℕ) (ss : List (Sending X)) (a : Option ℕ) (b : ℕ) → a ≡ Some b → (c : ℕ) × (fold (λ due s. sooner due (next_due lag s)) a ss ≡ Some c) × (c ≤ b)
kept_least lag [] a b e = (b, e, omega arith)
kept_least lag (s ∷ ss) a b e =
    let first = sooner_left a (next_due lag s) b e in
    let rest = kept_least lag ss (sooner a (next_due lag s)) first.0 first.1 in
    (rest.0, rest.1, let p = first.2 in let q = rest.2 in omega arith)

reached_least : {X : Type 0} (lag : ℕ) (ss : List (Sending X)) (a : Option ℕ) (j : ℕ) (t : Sending X) (e : ℕ) → slice_get ss j ≡ Some t → next_due lag t ≡ Some e
    → (c : ℕ) × (fold (λ due s. sooner due (next_due lag s)) a ss ≡ Some c) × (c ≤ e)
reached_least lag [] a j t e at comes = none_some t at
reached_least lag (s ∷ ss) a zero t e at comes =
    let is : s ≡ t = some_is s t at in
    let first = sooner_right a (next_due lag s) e (ap (λ x. next_due lag x) is ∙ comes) in
    let rest = kept_least lag ss (sooner a (next_due lag s)) first.0 first.1 in
    (rest.0, rest.1, let p = first.2 in let q = rest.2 in omega arith)
reached_least lag (s ∷ ss) a (suc j) t e at comes = reached_least lag ss (sooner a (next_due lag s)) j t e at comes

-- a sending that comes at that step
abbrev Attained : {X : Type 0} → ℕ → List (Sending X) → ℕ → Type 0
Attained {X} lag ss c = (j : ℕ) × (t : Sending X) × (slice_get ss j ≡ Some t) × (next_due lag t ≡ Some c)

attained_least : {X : Type 0} (lag : ℕ) (ss : List (Sending X)) (a : Option ℕ) (c : ℕ) → fold (λ due s. sooner due (next_due lag s)) a ss ≡ Some c → (a ≡ Some c) ⊎ Attained lag ss c
attained_least lag [] a c e = inl e
attained_least lag (s ∷ ss) a c e = elim (attained_least lag ss (sooner a (next_due lag s)) c e) [
  | inl first ↦ elim (either_of a (next_due lag s) c first) [ inl was ↦ inl was | inr here ↦ inr (0, s, refl, here) ]
  | inr later ↦ inr (suc later.0, later.1, later.2, later.3)
]

-- no element passes where there is no position

passes_by : {X : Type 0} (p : X → Bool) (xs : List X) (j : ℕ) (t : X) → slice_get xs j ≡ Some t → p t ≡ true → position_or_len p xs ≤ j
passes_by p [] j t at passes = none_some t at
passes_by p (x ∷ xs) zero t at passes = let is : p x ≡ true = ap p (some_is x t at) ∙ passes in rw is (omega arith)
passes_by p (x ∷ xs) (suc j) t at passes = one_later (p x) (passes_by p xs j t at passes)
  where
    one_later : (b : Bool) → position_or_len p xs ≤ j → (if not b then 1 + position_or_len p xs else 0) ≤ suc j
    one_later true before = omega arith
    one_later false before = grind arith

no_position : {X : Type 0} (p : X → Bool) (xs : List X) → position p xs ≡ None → (j : ℕ) (t : X) → slice_get xs j ≡ Some t → p t ≡ true → ⊥
no_position p xs none j t at passes =
    let by = passes_by p xs j t at passes in
    let within = slice_get_within xs j t at in
    let lt : nat_lt (position_or_len p xs) (length xs) ≡ true = grind (arith, nat_tests) in
    let some : Some (position_or_len p xs) ≡ None = rw lt at none in
    none_some (position_or_len p xs) (sym some)

-- the first thing that comes

least_is : {X : Type 0} (l : LinkModel X) (due : ℕ) → earliest l.lag l.sent ≡ Some due → (j : ℕ) (s : Sending X) (e : ℕ) → slice_get l.sent j ≡ Some s → next_due l.lag s ≡ Some e → due ≤ e
least_is l due is j s e at comes =
    let r = reached_least l.lag l.sent None j s e at comes in
    let same : due ≡ r.0 = some_is due r.0 (sym is ∙ r.1) in
    let le = r.2 in omega arith

place_is : {X : Type 0} (l : LinkModel X) (step k due : ℕ) → earliest l.lag l.sent ≡ Some due → nat_le due step ≡ true → first_at l.lag l.sent due ≡ Some k → (s : Sending X) → slice_get l.sent k ≡ Some s → IsNext X l step k
place_is {X} l step k due is le at s stands =
    let p = position-Some (λ s. is_step (next_due l.lag s) due) l.sent k s at in
    let here : get_or l.sent k s ≡ s = get_or_from_slice_get l.sent k s s stands in
    record {
      sending = s;
      due = due;
      stands = stands;
      comes = is_its_step (next_due l.lag s) due (ap (λ x. is_step (next_due l.lag x) due) (sym here) ∙ p.1);
      in_time = true_le due step le;
      first = others;
    }
  where
    others : (j : ℕ) (t : Sending X) (e : ℕ) → slice_get l.sent j ≡ Some t → next_due l.lag t ≡ Some e → (due < e) ⊎ (due ≡ e) × (k ≤ j)
    others j t e there comes = go (nat_lt due e) refl
      where
        not_before : (b : Bool) → nat_lt j k ≡ b → due ≡ e → k ≤ j
        not_before false h same = grind (arith, nat_tests)
        not_before true h same =
            let before : j < k = grind (arith, nat_tests) in
            let fails = (position-Some (λ s. is_step (next_due l.lag s) due) l.sent k s at).2 j before in
            let its : get_or l.sent j s ≡ t = get_or_from_slice_get l.sent j t s there in
            let passes : is_step (next_due l.lag (get_or l.sent j s)) due ≡ true = its_step _ due (ap (λ x. next_due l.lag x) its ∙ comes ∙ ap (λ x. Some x) (sym same)) in
            never (sym passes ∙ fails)

        go : (b : Bool) → nat_lt due e ≡ b → (due < e) ⊎ (due ≡ e) × (k ≤ j)
        go true lt = inl (grind (arith, nat_tests))
        go false ge =
            let le = least_is l due is j t e there comes in
            let same : due ≡ e = grind (arith, nat_tests) in
            inr (same, not_before (nat_lt j k) refl same)

found : {X : Type 0} (l : LinkModel X) (step k : ℕ) (o : Option ℕ) → earliest l.lag l.sent ≡ o → first_by l.lag l.sent step o ≡ Some k → IsNext X l step k
found l step k None is e = none_some k e
found {X} l step k (Some due) is e = go (nat_le due step) refl e
  where
    none : Option ℕ
    none = None

    within : (s : Option (Sending X)) → slice_get l.sent k ≡ s → nat_le due step ≡ true → first_at l.lag l.sent due ≡ Some k → IsNext X l step k
    within (Some s) at le place = place_is l step k due is le place s at
    within None at le place = absurd (no_place at place)
      where
        no_place : slice_get l.sent k ≡ None → first_at l.lag l.sent due ≡ Some k → ⊥
        no_place at place = go l.sent at place
          where
            go : (ss : List (Sending X)) → slice_get ss k ≡ None → position (λ s. is_step (next_due l.lag s) due) ss ≡ Some k → ⊥
            go [] at place = none_some k place
            go (s ∷ ss) at place =
                let p = position-Some (λ s. is_step (next_due l.lag s) due) (s ∷ ss) k s place in
                none_some (get_or (s ∷ ss) k s) (sym at ∙ slice_get-get_or (s ∷ ss) k s p.0)

    go : (b : Bool) → nat_le due step ≡ b → (if b then first_at l.lag l.sent due else none) ≡ Some k → IsNext X l step k
    go true le e = within (slice_get l.sent k) refl le e
    go false gt e = none_some k e

-- the place that is looked for is the next one's
pub next_is : {X : Type 0} (l : LinkModel X) (step k : ℕ) → next_place l step ≡ Some k → IsNext X l step k
next_is l step k e = found l step k (earliest l.lag l.sent) refl e

not_found : {X : Type 0} (l : LinkModel X) (step : ℕ) (o : Option ℕ) → earliest l.lag l.sent ≡ o → first_by l.lag l.sent step o ≡ None → NoneComes X l step
not_found l step None is e j s d at comes =
    let r = reached_least l.lag l.sent None j s d at comes in none_some r.0 (sym is ∙ r.1)
not_found l step (Some due) is e j s d at comes = go (nat_le due step) refl e
  where
    none : Option ℕ
    none = None

    least : due ≤ d
    least = least_is l due is j s d at comes

    go : (b : Bool) → nat_le due step ≡ b → (if b then first_at l.lag l.sent due else none) ≡ None → step < d
    go false gt e = let le = least in grind (arith, nat_tests)
    go true le e = elim (attained_least l.lag l.sent None due is) [
      | inl never_so ↦ none_some due never_so
      | inr a ↦ absurd (no_position (λ s. is_step (next_due l.lag s) due) l.sent e a.0 a.1 a.2 (its_step _ due a.3))
    ]

-- where no place is found nothing comes
pub none_comes : {X : Type 0} (l : LinkModel X) (step : ℕ) → next_place l step ≡ None → NoneComes X l step
none_comes l step e = not_found l step (earliest l.lag l.sent) refl e

one_next : {X : Type 0} (l : LinkModel X) (step j k : ℕ) → IsNext X l step j → IsNext X l step k → j ≡ k
one_next l step j k a b = elim (a.first k b.sending b.due b.stands b.comes) [
  | inl lt ↦ elim (b.first j a.sending a.due a.stands a.comes) [ inl gt ↦ absurd (omega arith) | inr same ↦ absurd (let e = same.0 in omega arith) ]
  | inr p ↦ elim (b.first j a.sending a.due a.stands a.comes) [
    | inl gt ↦ absurd (let e = p.0 in omega arith)
    | inr q ↦ (let le = p.1 in let ge = q.1 in omega arith)
  ]
]

-- the next one's place is the one that is looked for
pub next_found : {X : Type 0} (l : LinkModel X) (step k : ℕ) → IsNext X l step k → next_place l step ≡ Some k
next_found {X} l step k n = go (next_place l step) refl
  where
    go : (o : Option ℕ) → next_place l step ≡ o → o ≡ Some k
    go (Some j) e = ap (λ x. Some x) (one_next l step j k (next_is l step j e) n)
    go None e = absurd (let late = none_comes l step e k n.sending n.due n.stands n.comes in let le = n.in_time in omega arith)

-- what comes is the next one's item
pub delivered_is : {X : Type 0} (l : LinkModel X) (step : ℕ) (x : X) → delivered l step ≡ Some x → (k : ℕ) × (next_place l step ≡ Some k) × (n : IsNext X l step k) × (n.sending.item ≡ x)
delivered_is {X} l step x e = go (next_place l step) refl e
  where
    go : (o : Option ℕ) → next_place l step ≡ o → option_and_then (λ k. option_map item_of (slice_get l.sent k)) o ≡ Some x → (k : ℕ) × (next_place l step ≡ Some k) × (n : IsNext X l step k) × (n.sending.item ≡ x)
    go None at e = none_some x e
    go (Some k) at e =
        let n = next_is l step k at in
        let item : Some n.sending.item ≡ Some x = ap (λ o. option_map item_of o) (sym n.stands) ∙ e in
        (k, at, n, some_is n.sending.item x item)

came_few : {X : Type 0} (lag : ℕ) (s : Sending X) (due : ℕ) → next_due lag s ≡ Some due → s.came < 2
came_few lag s due e = let n = not_all lag s due e in let f = few_dues s.step s.fate in omega arith

-- what the call that notes it asks for
pub few_before : {X : Type 0} (l : LinkModel X) (step k : ℕ) → next_place l step ≡ Some k → (s : Sending X) → slice_get l.sent k ≡ Some s → s.came < 2
few_before l step k e s at =
    let n = next_is l step k e in
    let same : s ≡ n.sending = some_is s n.sending (sym at ∙ n.stands) in
    came_few l.lag s n.due (ap (λ x. next_due l.lag x) same ∙ n.comes)

-- one thing less is under way after it came
pub fewer : {X : Type 0} (l : LinkModel X) (step : ℕ) (x : X) → delivered l step ≡ Some x → under_way (after_delivery l step) + 1 ≤ under_way l
fewer {X} l step x e =
    let d = delivered_is l step x e in
    let n = d.2 in
    let s : Sending X = n.sending in
    let within = slice_get_within l.sent d.0 s n.stands in
    let more : Sending X = record s { came = s.came + 1 } in
    let sums = sum_by-set copies_left l.sent d.0 more s within in
    let its : get_or l.sent d.0 s ≡ s = get_or_from_slice_get l.sent d.0 s s n.stands in
    let sums' : sum_by copies_left (set l.sent d.0 more) + copies_left s ≡ under_way l + copies_left more = ap (λ y. sum_by copies_left (set l.sent d.0 more) + copies_left y) (sym its) ∙ sums in
    let left = not_all l.lag s n.due n.comes in
    let one : copies_left more + 1 ≡ copies_left s = omega arith in
    let so : after_coming l.sent (next_place l step) ≡ set l.sent d.0 more = ap (λ o. after_coming l.sent o) d.1 ∙ ap (λ o. came_again l.sent d.0 o) n.stands in
    let P : List (Sending X) → Type 0 = λ ss. sum_by copies_left ss + 1 ≤ under_way l in
    subst P (sym so) (omega arith)

-- nothing comes exactly where no place is found
pub nothing_found : {X : Type 0} (l : LinkModel X) (step : ℕ) → NoneComes X l step → next_place l step ≡ None
nothing_found {X} l step none = go (next_place l step) refl
  where
    go : (o : Option ℕ) → next_place l step ≡ o → o ≡ None
    go None e = refl
    go (Some k) e = absurd (let n = next_is l step k e in let late = none k n.sending n.due n.stands n.comes in let le = n.in_time in omega arith)

-- the sending of a place, by its reading with itself as the default
pub stands_there : {X : Type 0} (sent : List (Sending X)) (place : ℕ) (s : Sending X) → place < length sent → s ≡ get_or sent place s → slice_get sent place ≡ Some s
stands_there sent place s within is = slice_get-get_or sent place s within ∙ ap (λ t. Some t) (sym is)

-- a place where a sending stands is within the list
pub place_within : {X : Type 0} (sent : List (Sending X)) (place len : ℕ) → len ≡ length sent → (s : Sending X) × (slice_get sent place ≡ Some s) × (s.came < 2) → place < len
place_within sent place len size there = subst (λ n. place < n) (sym size) (slice_get_within sent place there.0 there.1)

-- a sending that came less than twice may be noted once more
pub came_fits : {X : Type 0} (sent : List (Sending X)) (place : ℕ) (s : Sending X) → (t : Sending X) × (slice_get sent place ≡ Some t) × (t.came < 2) → slice_get sent place ≡ Some s → Fits w32 (s.came + 1)
came_fits sent place s there stands =
    let same : there.0.came ≡ s.came = ap (λ t. t.came) (some_is there.0 s (sym there.1 ∙ stands)) in
    let few = there.2 in
    omega (arith, same, few)

-- the sendings after that one came once more
pub noted_there : {X : Type 0} (sent : List (Sending X)) (place : ℕ) (s new : Sending X) → slice_get sent place ≡ Some s → new ≡ record s { came = s.came + 1 }
    → set sent place new ≡ came_again sent place (slice_get sent place)
noted_there sent place s new stands is = rw (stands, is) refl

-- the sending of the place that is found came less than twice
pub found_there : {X : Type 0} (l : LinkModel X) (step k : ℕ) → next_place l step ≡ Some k → (s : Sending X) × (slice_get l.sent k ≡ Some s) × (s.came < 2)
found_there l step k found = let n = next_is l step k found in (n.sending, n.stands, few_before l step k found n.sending n.stands)

-- where no place is found nothing is delivered
pub nothing_delivered : {X : Type 0} (l : LinkModel X) (step : ℕ) → next_place l step ≡ None → None ≡ delivered l step
nothing_delivered l step none = rw none refl

-- where no place is found the link stays
pub stays : {X : Type 0} (l : LinkModel X) (step : ℕ) → next_place l step ≡ None → l ≡ after_delivery l step
stays l step none = rw none refl

-- the item of the place that is found is delivered
pub delivered_from : {X : Type 0} (l : LinkModel X) (step k : ℕ) (item : X) → next_place l step ≡ Some k → option_map item_of (slice_get l.sent k) ≡ Some item → Some item ≡ delivered l step
delivered_from l step k item found there = rw found (sym there)

-- the link with the sending of the place that is found noted
pub noted_from : {X : Type 0} (l : LinkModel X) (step k : ℕ) (sent : List (Sending X)) → next_place l step ≡ Some k → sent ≡ came_again l.sent k (slice_get l.sent k) → record l { sent = sent } ≡ after_delivery l step
noted_from l step k sent found noted = rw (found, ← noted) refl

-- the least step of one sending more
pub earliest_of_more : {X : Type 0} (lag : ℕ) (sent : List (Sending X)) (i : ℕ) (s : Sending X) (least due new : Option ℕ) → i < length sent → s ≡ get_or sent i s → least ≡ earliest lag (take i sent)
    → due ≡ next_due lag s → new ≡ sooner least due → new ≡ earliest lag (take (i + 1) sent)
earliest_of_more lag sent i s least due new within is before its so =
    let more = fold_more (λ due s. sooner due (next_due lag s)) None sent i s within in
    so ∙ ap (λ d. sooner d due) before ∙ ap (λ d. sooner (earliest lag (take i sent)) d) (its ∙ ap (λ t. next_due lag t) is) ∙ sym more

-- the fate of a place within the fates is the one read there
pub fate_within : (fates : List Fate) (i j : ℕ) (f : Fate) → i ≡ j → i < length fates → f ≡ get_or fates i f → f ≡ fate_at fates j
fate_within fates i j f same within is = rw (← same, slice_get-get_or fates i f within) is

-- behind the fates all are delivered
pub fate_behind : (fates : List Fate) (i j : ℕ) → i ≡ j → length fates ≤ i → fate.Deliver ≡ fate_at fates j
fate_behind fates i j same behind = rw (← same, slice_get_past fates i behind) refl

-- what is looked for in the sendings of a link is its next place
pub looked_for : {X : Type 0} (l : LinkModel X) (sent : List (Sending X)) (step : ℕ) (first : Option ℕ) → first ≡ first_by l.lag sent step (earliest l.lag sent) → sent ≡ l.sent → next_place l step ≡ first
looked_for l sent step first is same = sym (is ∙ ap (λ ss. first_by l.lag ss step (earliest l.lag ss)) same)

-- the place that is found is one of the sendings'
pub found_within : {X : Type 0} (l : LinkModel X) (step k : ℕ) → next_place l step ≡ Some k → k < length l.sent
found_within l step k found = let n = next_is l step k found in slice_get_within l.sent k n.sending n.stands
