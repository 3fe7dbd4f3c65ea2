-- Cells that are taken, by what each vehicle keeps.
use Rattle.std.proofs.Common.{◌≡◌, ℕ, ◌<◌, ◌≤◌, Bool, true, false, ◌&&◌, ◌||◌, not, List, [], ◌∷◌, ◌++◌, length, Option, Some, None, arith, refl, sym, ◌∙◌, ap, subst, inl, inr, length-append}
use Rattle.std.specs.Prelude.{◌==◌, if◌then◌else◌, option_and_then, option_map, find, nat_le, nat_lt}
use Rattle.std.specs.List.{list_any}
use Rattle.std.proofs.Math.Seq.{take-append_seam, get_or-append_seam}
use Rattle.std.proofs.lemmas.Bool.{eqb-true, eq-eqb, and_parts, ltb-true}
use Rattle.std.proofs.lemmas.Bool.Decides.{nat_tests}
use Rattle.aim_messages.specs.declared.messages.Params.{Params}
use Rattle.aim_messages.specs.declared.messages.Message.{Message}
use Rattle.aim_messages.specs.declared.entries.Act.{Act}
use Rattle.aim_messages.specs.declared.entries.Act.TheVariants as act
use Rattle.aim_messages.specs.declared.entries.Entry.{Entry}
use Rattle.aim_messages.specs.declared.replies.Reply.{Reply}
use Rattle.aim_geometry.specs.Bounded.{some_below}
use Rattle.aim_geometry.proofs.BoundedLemmas.{least_below_none, least_below_at, some_below_none}
use Rattle.aim_layout.specs.Intersection.{Intersection}
use Rattle.aim_geometry.specs.Cells.{Cell}
use Rattle.aim_rules.specs.Cells.{IsIn}
use Rattle.aim_rules.specs.Trials.{Trial, arriving_at, granted_trial, trial_cells}
use Rattle.aim_rules.specs.History.{Fresh, fresh, is_fresh, is_fresh_seq, is_confirm, of_vehicle, params_of, params_at, given_up_at, now_of}
use Rattle.aim_rules.specs.Holds.{is_number, granted_with, is_granted, is_granted_with, last_confirm, is_given_up, holding, holds, reservations, taken_by}
use Rattle.aim_rules.specs.Answer.{answer}
use Rattle.aim_rules.specs.Legal.{IsLegal, IsAnswered, IsWellFormed, MayAct}
use Rattle.aim_rules.proofs.CellLemmas.{cells_has}
use Rattle.aim_rules.proofs.AheadLemmas.{granted_free}
use Rattle.aim_rules.proofs.FreeLemmas.{find-each}
use Rattle.aim_rules.proofs.LegalLemmas.{IsLegal-before}
use Rattle.aim_rules.proofs.HistoryLemmas.{served}
use Rattle.aim_rules.proofs.Lists.{from_front, list_all-snoc, find-test, find-in, last-in, last-test, IsIn-snoc, IsIn-test, IsIn-passed, IsIn-filter, some_below-same, some_below-apart, eq_comm}
use Rattle.aim_rules.proofs.HistoryLaws.{fresh-one, fresh-none, now_of-max, now_of-snoc}
use Rattle.aim_rules.proofs.VehicleLaws.{kept-snoc, holding-kept}
use Rattle.aim_rules.specs.Kept.{kept, kept_next, without, lasts, if_lasts, has_cell, owns, is_owned, owner, are_below, AreApart}

some_same : {X : Type 0} (a b : X) → Some a ≡ Some b → a ≡ b
some_same a b p = cc

-- the places of fresh messages

pub place-below : (h : List Entry) (x : Fresh) → IsIn x (fresh h) → x.place < length h
place-below h x m = from_front (λ h. IsIn x (fresh h) → x.place < length h) (λ n. absurd n) (λ h e earlier n. go h e earlier (is_fresh h e) refl n) h m
  where
    go : (h : List Entry) (e : Entry) → (IsIn x (fresh h) → x.place < length h) → (b : Bool) → is_fresh h e ≡ b → IsIn x (fresh (h ++ e ∷ [])) → x.place < length (h ++ e ∷ [])
    go h e earlier false f n = let l = earlier (rw (fresh-none h e f) at n) in omega (arith, length-append h (e ∷ []))
    go h e earlier true f n = elim (IsIn-snoc (fresh h) (served h e) x (rw (fresh-one h e f) at n)) [
      | inl a ↦ (let l = earlier a in omega (arith, length-append h (e ∷ [])))
      | inr s ↦ (let p : x.place ≡ length h = ap (λ x. x.place) s in omega (arith, length-append h (e ∷ [])))
    ]

-- a place has one fresh message
pub place-one : (h : List Entry) (x y : Fresh) → IsIn x (fresh h) → IsIn y (fresh h) → x.place ≡ y.place → x ≡ y
place-one h x y m n p = from_front (λ h. IsIn x (fresh h) → IsIn y (fresh h) → x ≡ y) (λ m n. absurd m) (λ h e earlier m n. go h e earlier (is_fresh h e) refl m n) h m n
  where
    go : (h : List Entry) (e : Entry) → (IsIn x (fresh h) → IsIn y (fresh h) → x ≡ y) → (b : Bool) → is_fresh h e ≡ b → IsIn x (fresh (h ++ e ∷ [])) → IsIn y (fresh (h ++ e ∷ [])) → x ≡ y
    go h e earlier false f m n = earlier (rw (fresh-none h e f) at m) (rw (fresh-none h e f) at n)
    go h e earlier true f m n = elim (IsIn-snoc (fresh h) (served h e) x (rw (fresh-one h e f) at m)) [
      | inl a ↦ elim (IsIn-snoc (fresh h) (served h e) y (rw (fresh-one h e f) at n)) [
        | inl b ↦ earlier a b
        | inr t ↦ absurd (let l = place-below h x a in let q : y.place ≡ length h = ap (λ x. x.place) t in omega arith)
      ]
      | inr s ↦ elim (IsIn-snoc (fresh h) (served h e) y (rw (fresh-one h e f) at n)) [
        | inl b ↦ absurd (let l = place-below h y b in let q : x.place ≡ length h = ap (λ x. x.place) s in omega arith)
        | inr t ↦ (s ∙ sym t)
      ]
    ]

-- what is kept is a Confirm of the vehicle's
pub record IsKept (xs : List Fresh) (v : ℕ) (x : Fresh) : Type 0 where
  pub there : IsIn x xs
  pub own : x.entry.caller ≡ v
  pub granted : is_confirm x.entry.reply ≡ true

pub kept-is : (xs : List Fresh) (v : ℕ) (x : Fresh) → kept xs v ≡ Some x → IsKept xs v x
kept-is xs v x k = go (last_confirm xs v) refl k
  where
    confirm : (y : Fresh) → last_confirm xs v ≡ Some y → IsKept xs v y
    confirm y l =
        let m = IsIn-filter (λ x. x.entry.caller == v) xs y (last-in (λ x. is_confirm x.entry.reply) (of_vehicle v xs) y l) in
        record { there = m.0; own = eqb-true y.entry.caller v m.1; granted = last-test (λ x. is_confirm x.entry.reply) (of_vehicle v xs) y l }

    found : (b : Bool) (y : Fresh) → (if b then None else Some y) ≡ Some x → y ≡ x
    found true y k = absurd (cc)
    found false y k = some_same y x k

    go : (o : Option Fresh) → last_confirm xs v ≡ o → option_and_then (λ x. if is_given_up xs v x.place then None else Some x) o ≡ Some x → IsKept xs v x
    go None l k = absurd (cc)
    go (Some y) l k = subst (IsKept xs v) (found (is_given_up xs v y.place) y k) (confirm y l)

-- what is held is kept and lasts, and the other way round

lasting : (i : Intersection) (now : ℕ) (o : Option Fresh) (x : Fresh) → if_lasts i now o ≡ Some x → (o ≡ Some x) × (lasts i now x ≡ true)
lasting i now None x h = absurd (cc)
lasting i now (Some y) x h = go (lasts i now y) refl h
  where
    go : (b : Bool) → lasts i now y ≡ b → (if b then Some y else None) ≡ Some x → (Some y ≡ Some x) × (lasts i now x ≡ true)
    go true e h = (h, rw (some_same y x h) at e)
    go false e h = absurd (cc)

pub reservations-have : (i : Intersection) (xs : List Fresh) (v now : ℕ) (x : Fresh) → kept xs v ≡ Some x → lasts i now x ≡ true → IsIn x (reservations i xs now)
reservations-have i xs v now x k l =
    let is = kept-is xs v x k in
    let r : holding i xs x.entry.caller now ≡ Some x = holding-kept i xs x.entry.caller now ∙ ap (λ v. if_lasts i now (kept xs v)) is.own ∙ ap (if_lasts i now) k ∙ rw l refl in
    IsIn-passed (λ x. is_number (holds i xs x.entry.caller now) x.place) xs x is.there (ap (λ o. is_number (option_map (λ x. x.place) o) x.place) r ∙ eq-eqb x.place x.place refl)

pub reservations-kept : (i : Intersection) (h : List Entry) (now : ℕ) (x : Fresh) → IsIn x (reservations i (fresh h) now) → (kept (fresh h) x.entry.caller ≡ Some x) × (lasts i now x ≡ true)
reservations-kept i h now x m = go (holding i (fresh h) x.entry.caller now) refl a.1
  where
    a : IsIn x (fresh h) × (is_number (holds i (fresh h) x.entry.caller now) x.place ≡ true)
    a = IsIn-filter (λ x. is_number (holds i (fresh h) x.entry.caller now) x.place) (fresh h) x m

    go : (o : Option Fresh) → holding i (fresh h) x.entry.caller now ≡ o → is_number (option_map (λ x. x.place) o) x.place ≡ true → (kept (fresh h) x.entry.caller ≡ Some x) × (lasts i now x ≡ true)
    go None r n = absurd (cc)
    go (Some y) r n =
        let k = lasting i now (kept (fresh h) x.entry.caller) y (sym (holding-kept i (fresh h) x.entry.caller now) ∙ r) in
        let is = kept-is (fresh h) x.entry.caller y k.0 in
        let same : y ≡ x = place-one h y x is.there a.0 (eqb-true y.place x.place n) in
        rw same at k

-- a reservation with a cell that is not past lasts
pub granted-lasts : (i : Intersection) (now : ℕ) (x : Fresh) (c : Cell) → i.times.early ≤ i.times.edge → i.times.late ≤ i.times.edge → now ≤ c.step → is_granted i x c ≡ true → lasts i now x ≡ true
granted-lasts i now x c before after l g = go (granted_trial x.entry.reply) (params_at x) g
  where
    go : (t : Option Trial) (o : Option Params) → is_granted_with i t c o ≡ true → list_any (λ c. nat_le now c.step) (granted_with i t o) ≡ true
    go t None g = absurd (cc)
    go None (Some p) g = absurd (cc)
    go (Some t) (Some p) g = IsIn-test (λ c. nat_le now c.step) (trial_cells i p t) c (cells_has i (arriving_at p t.start) t.fast c before after g) (grind (arith, nat_tests))

-- so what is kept and has a cell that is not past is held
owns-held : (i : Intersection) (xs : List Fresh) (now : ℕ) (c : Cell) (w : ℕ) (o : Option Fresh) → i.times.early ≤ i.times.edge → i.times.late ≤ i.times.edge → now ≤ c.step →
    kept xs w ≡ o → has_cell i c o ≡ true → (x : Fresh) × (o ≡ Some x) × IsIn x (reservations i xs now) × (x.entry.caller ≡ w) × (is_granted i x c ≡ true)
owns-held i xs now c w None before after l k g = absurd (cc)
owns-held i xs now c w (Some x) before after l k g = (x, refl, reservations-have i xs w now x k (granted-lasts i now x c before after l g), (kept-is xs w x k).own, g)

pub below-in : (n : ℕ) (xs : List Fresh) (x : Fresh) → are_below n xs ≡ true → IsIn x xs → x.entry.caller < n
below-in n [] x b m = absurd m
below-in n (y ∷ xs) x b (inl e) = let p = and_parts (nat_lt y.entry.caller n) (are_below n xs) b in rw e (ltb-true y.entry.caller n p.0)
below-in n (y ∷ xs) x b (inr m) = let p = and_parts (nat_lt y.entry.caller n) (are_below n xs) b in below-in n xs x p.1 m

-- The vehicle that has taken a cell, by what each one keeps.
pub taken_by-owner : (i : Intersection) (n : ℕ) (h : List Entry) (now v : ℕ) (c : Cell) → i.times.early ≤ i.times.edge → i.times.late ≤ i.times.edge → are_below n (fresh h) ≡ true → AreApart i (fresh h) now →
    now ≤ c.step → taken_by (reservations i (fresh h) now) i v c ≡ owner i n (fresh h) v c
taken_by-owner i n h now v c before after below apart l = go (find (λ x. not (x.entry.caller == v) && is_granted i x c) (reservations i (fresh h) now)) refl
  where
    no_cell : (w : ℕ) → find (λ x. not (x.entry.caller == v) && is_granted i x c) (reservations i (fresh h) now) ≡ None → (b : Bool) → owns i (fresh h) c w ≡ b → (o : Bool) → (w == v) ≡ o → (not o && b) ≡ false
    no_cell w none b k true e = refl
    no_cell w none false k false e = refl
    no_cell w none true k false e = absurd (
        let y = owns-held i (fresh h) now c w (kept (fresh h) w) before after l refl k in
        let f = find-each (λ x. not (x.entry.caller == v) && is_granted i x c) (reservations i (fresh h) now) y.0 none y.2 in
        let g : (not (y.0.entry.caller == v) && is_granted i y.0 c) ≡ true = rw (y.3, e, y.4) refl in cc)

    others : (w j : ℕ) → j < w → owns i (fresh h) c w ≡ true → (b : Bool) → owns i (fresh h) c j ≡ b → (o : Bool) → (not o && b) ≡ false
    others w j m here b k true = refl
    others w j m here false k false = refl
    others w j m here true k false = absurd (let s : j ≡ w = apart c j w l k here in omega arith)

    go : (o : Option Fresh) → find (λ x. not (x.entry.caller == v) && is_granted i x c) (reservations i (fresh h) now) ≡ o → option_map (λ x. x.entry.caller) o ≡ owner i n (fresh h) v c
    go None f = sym (least_below_none n (λ w. not (w == v) && owns i (fresh h) c w) (λ w m. no_cell w f (owns i (fresh h) c w) refl (w == v) refl))
    go (Some x) f =
        let in_held = find-in (λ x. not (x.entry.caller == v) && is_granted i x c) (reservations i (fresh h) now) x f in
        let test = find-test (λ x. not (x.entry.caller == v) && is_granted i x c) (reservations i (fresh h) now) x f in
        let k = reservations-kept i h now x in_held in
        let parts = and_parts (not (x.entry.caller == v)) (is_granted i x c) test in
        let here : owns i (fresh h) c x.entry.caller ≡ true = rw k.0 parts.1 in
        let is = kept-is (fresh h) x.entry.caller x k.0 in
        sym (least_below_at n (λ w. not (w == v) && owns i (fresh h) c w) x.entry.caller (below-in n (fresh h) x below is.there) (λ j m. others x.entry.caller j m here (owns i (fresh h) c j) refl (j == v)) (rw (parts.0, here) refl))

-- a legal history's messages are of vehicles, and no two of these keep the same cell

pub last_legal : (i : Intersection) (vehicles : ℕ) (h : List Entry) (e : Entry) → IsLegal i vehicles (h ++ e ∷ []) → IsAnswered i h e × IsWellFormed i vehicles e
last_legal i vehicles h e legal =
    let l : length h < length (h ++ e ∷ []) = omega (arith, length-append h (e ∷ [])) in
    (rw (take-append_seam, get_or-append_seam) at (legal.answered (length h) e l), rw (get_or-append_seam) at (legal.well_formed (length h) e l))

pub are_below-legal : (i : Intersection) (vehicles : ℕ) (h : List Entry) → IsLegal i vehicles h → are_below vehicles (fresh h) ≡ true
are_below-legal i vehicles h legal = from_front (λ h. IsLegal i vehicles h → are_below vehicles (fresh h) ≡ true) (λ g. refl) (λ h e earlier g. go h e e.act (earlier (IsLegal-before i vehicles h (e ∷ []) g)) (last_legal i vehicles h e g).1.caller refl (is_fresh h e) refl) h legal
  where
    go : (h : List Entry) (e : Entry) (a : Act) → are_below vehicles (fresh h) ≡ true → MayAct i vehicles e.caller e.act → e.act ≡ a → (b : Bool) → is_fresh h e ≡ b → are_below vehicles (fresh (h ++ e ∷ [])) ≡ true
    go h e a earlier may is false f = rw (fresh-none h e f) earlier
    go h e (act.Message m) earlier may is true f =
        let l : e.caller < vehicles = (rw is at may).1 in
        rw (fresh-one h e f, list_all-snoc (λ x. nat_lt x.entry.caller vehicles) (fresh h) (served h e), earlier) (grind (arith, nat_tests))
    go h e (act.Order o) earlier may is true f = absurd (let g : false ≡ true = rw is at f in cc)

-- a Confirm grants no cell that another vehicle holds
confirm_free : (i : Intersection) (h : List Entry) (v moment : ℕ) (m : Message) (r : Reply) (c : Cell) (y : Fresh) → i.times.early ≤ i.times.edge → i.times.late ≤ i.times.edge → r ≡ answer i h v moment (act.Message m) → is_fresh_seq h v m.seq ≡ true → is_confirm r ≡ true →
    is_granted_with i (granted_trial r) c (params_of m.body) ≡ true → IsIn y (reservations i (fresh h) (now_of h moment)) → (y.entry.caller == v) ≡ false → is_granted i y c ≡ false
confirm_free i h v moment m r c y before after answered new confirms grants there other = go (params_of m.body) refl grants
  where
    go : (o : Option Params) → params_of m.body ≡ o → is_granted_with i (granted_trial r) c o ≡ true → is_granted i y c ≡ false
    go None asks g = absurd (cc)
    go (Some p) asks g = granted_free i h v moment m p c y before after new asks (rw answered at confirms) (rw answered at g) there other

pub keeps_less : (i : Intersection) (c : Cell) (o : Option Fresh) (x : Fresh) → is_confirm x.entry.reply ≡ false → has_cell i c (kept_next o x) ≡ true → has_cell i c o ≡ true
keeps_less i c o x refused h = go o (rw refused at h)
  where
    named : (b : Bool) (y : Fresh) → has_cell i c (if b then None else Some y) ≡ true → is_granted i y c ≡ true
    named true y h = absurd (cc)
    named false y h = h

    go : (o : Option Fresh) → has_cell i c (without (given_up_at x) o) ≡ true → has_cell i c o ≡ true
    go None h = h
    go (Some y) h = named (is_number (given_up_at x) y.place) y h

-- one more message leaves vehicles apart, if what it is granted is free of the others
apart_next : (i : Intersection) (xs : List Fresh) (x : Fresh) (now later : ℕ) → now ≤ later → AreApart i xs now →
    (is_confirm x.entry.reply ≡ true → (c : Cell) (w : ℕ) → later ≤ c.step → is_granted i x c ≡ true → (x.entry.caller == w) ≡ false → owns i xs c w ≡ true → ⊥) → AreApart i (xs ++ x ∷ []) later
apart_next i xs x now later l apart free c v w m g k = go (x.entry.caller == v) (x.entry.caller == w) refl refl (rw (kept-snoc xs x v) at g) (rw (kept-snoc xs x w) at k)
  where
    old : (v w : ℕ) → owns i xs c v ≡ true → owns i xs c w ≡ true → v ≡ w
    old v w g k = apart c v w (omega arith) g k

    one : (v w : ℕ) → (x.entry.caller == w) ≡ false → has_cell i c (kept_next (kept xs v) x) ≡ true → owns i xs c w ≡ true → (b : Bool) → is_confirm x.entry.reply ≡ b → v ≡ w
    one v w e g k true conf = absurd (free conf c w m (rw conf at g) e k)
    one v w e g k false conf = old v w (keeps_less i c (kept xs v) x conf g) k

    go : (a b : Bool) → (x.entry.caller == v) ≡ a → (x.entry.caller == w) ≡ b → has_cell i c (if a then kept_next (kept xs v) x else kept xs v) ≡ true → has_cell i c (if b then kept_next (kept xs w) x else kept xs w) ≡ true → v ≡ w
    go true true a b g k = sym (eqb-true x.entry.caller v a) ∙ eqb-true x.entry.caller w b
    go true false a b g k = one v w b g k (is_confirm x.entry.reply) refl
    go false true a b g k = sym (one w v a k g (is_confirm x.entry.reply) refl)
    go false false a b g k = old v w g k

pub AreApart-later : (i : Intersection) (xs : List Fresh) (now later : ℕ) → now ≤ later → AreApart i xs now → AreApart i xs later
AreApart-later i xs now later l apart c v w m g k = apart c v w (omega arith) g k

-- In a legal history no two vehicles keep a cell that is not past.
pub AreApart-legal : (i : Intersection) (vehicles : ℕ) (h : List Entry) → i.times.early ≤ i.times.edge → i.times.late ≤ i.times.edge → IsLegal i vehicles h → AreApart i (fresh h) (now_of h 0)
AreApart-legal i vehicles h before after legal = from_front (λ h. IsLegal i vehicles h → AreApart i (fresh h) (now_of h 0)) (λ g c v w l a b. absurd (cc))
    (λ h e earlier g. go h e e.act (earlier (IsLegal-before i vehicles h (e ∷ []) g)) (last_legal i vehicles h e g).0 refl (is_fresh h e) refl) h legal
  where
    message : (h : List Entry) (e : Entry) (m : Message) → IsAnswered i h e → e.act ≡ act.Message m → is_fresh h e ≡ true → is_confirm e.reply ≡ true →
        (c : Cell) (w : ℕ) → now_of (h ++ e ∷ []) 0 ≤ c.step → is_granted i (served h e) c ≡ true → (e.caller == w) ≡ false → owns i (fresh h) c w ≡ true → ⊥
    message h e m answered is f confirms c w l g other k =
        let time : now_of h e.moment ≤ c.step = rw (now_of-snoc h e 0, ← now_of-max h e.moment) at l in
        let y = owns-held i (fresh h) (now_of h e.moment) c w (kept (fresh h) w) before after time refl k in
        let apart : (y.0.entry.caller == e.caller) ≡ false = rw (y.3, ← eq_comm e.caller w) other in
        let none : is_granted i y.0 c ≡ false = confirm_free i h e.caller e.moment m e.reply c y.0 before after (rw is at answered) (rw is at f) confirms (rw is at g) y.2 apart in
        let some = y.4 in cc

    go : (h : List Entry) (e : Entry) (a : Act) → AreApart i (fresh h) (now_of h 0) → IsAnswered i h e → e.act ≡ a → (b : Bool) → is_fresh h e ≡ b → AreApart i (fresh (h ++ e ∷ [])) (now_of (h ++ e ∷ []) 0)
    go h e a earlier answered is false f = rw (fresh-none h e f) (AreApart-later i (fresh h) (now_of h 0) (now_of (h ++ e ∷ []) 0) (omega (arith, now_of-snoc h e 0)) earlier)
    go h e (act.Message m) earlier answered is true f = rw (fresh-one h e f) (apart_next i (fresh h) (served h e) (now_of h 0) (now_of (h ++ e ∷ []) 0) (omega (arith, now_of-snoc h e 0)) earlier (message h e m answered is f))
    go h e (act.Order o) earlier answered is true f = absurd (let g : false ≡ true = rw is at f in cc)

-- The table of taken cells.

-- without a vehicle's own cells
pub is_owned-others : (i : Intersection) (n : ℕ) (xs : List Fresh) (now v : ℕ) (c : Cell) → AreApart i xs now → v < n → now ≤ c.step →
    some_below n (λ w. not (w == v) && owns i xs c w) ≡ (is_owned i n xs c && not (owns i xs c v))
is_owned-others i n xs now v c apart l m = go (owns i xs c v) refl
  where
    others : (w : ℕ) → owns i xs c v ≡ true → (o : Bool) → (w == v) ≡ o → (b : Bool) → owns i xs c w ≡ b → (not o && b) ≡ false
    others w here true e b k = refl
    others w here false e false k = refl
    others w here false e true k = absurd (let s : w ≡ v = apart c w v m k here in let t : (w == v) ≡ true = eq-eqb w v s in cc)

    none : (b : Bool) → false ≡ (b && false)
    none true = refl
    none false = refl

    all : (b : Bool) → b ≡ ((false || b) && true)
    all true = refl
    all false = refl

    go : (b : Bool) → owns i xs c v ≡ b → some_below n (λ w. not (w == v) && owns i xs c w) ≡ (is_owned i n xs c && not b)
    go true here = some_below_none n (λ w. not (w == v) && owns i xs c w) (λ w k. others w here (w == v) refl (owns i xs c w) refl) ∙ none (is_owned i n xs c)
    go false here = all (some_below n (λ w. not (w == v) && owns i xs c w)) ∙ ap (λ b. (b || some_below n (λ w. not (w == v) && owns i xs c w)) && true) (sym here) ∙ ap (λ b. b && true) (sym (some_below-apart n v (owns i xs c) l))

-- What one more message makes of the table: its vehicle's cells are let go, and what it keeps then is taken.
pub is_owned-snoc : (i : Intersection) (n : ℕ) (xs : List Fresh) (x : Fresh) (now : ℕ) (c : Cell) → AreApart i xs now → x.entry.caller < n → now ≤ c.step →
    is_owned i n (xs ++ x ∷ []) c ≡ (has_cell i c (kept_next (kept xs x.entry.caller) x) || (is_owned i n xs c && not (owns i xs c x.entry.caller)))
is_owned-snoc i n xs x now c apart l m =
    some_below-apart n x.entry.caller (owns i (xs ++ x ∷ []) c) l
    ∙ ap (λ b. b || some_below n (λ w. not (w == x.entry.caller) && owns i (xs ++ x ∷ []) c w)) own
    ∙ ap (λ b. has_cell i c (kept_next (kept xs x.entry.caller) x) || b) (some_below-same n (λ w. not (w == x.entry.caller) && owns i (xs ++ x ∷ []) c w) (λ w. not (w == x.entry.caller) && owns i xs c w) (λ w k. other w (w == x.entry.caller) refl) ∙ is_owned-others i n xs now x.entry.caller c apart l m)
  where
    own : owns i (xs ++ x ∷ []) c x.entry.caller ≡ has_cell i c (kept_next (kept xs x.entry.caller) x)
    own = ap (has_cell i c) (kept-snoc xs x x.entry.caller ∙ rw (eq-eqb x.entry.caller x.entry.caller refl) refl)

    other : (w : ℕ) (b : Bool) → (w == x.entry.caller) ≡ b → (not b && owns i (xs ++ x ∷ []) c w) ≡ (not b && owns i xs c w)
    other w true e = refl
    other w false e = let f : (x.entry.caller == w) ≡ false = eq_comm x.entry.caller w ∙ e in ap (has_cell i c) (kept-snoc xs x w ∙ rw f refl)

-- a message that changes nothing that its vehicle keeps leaves the table
pub is_owned-same : (i : Intersection) (n : ℕ) (xs : List Fresh) (x : Fresh) (c : Cell) → kept_next (kept xs x.entry.caller) x ≡ kept xs x.entry.caller → is_owned i n (xs ++ x ∷ []) c ≡ is_owned i n xs c
is_owned-same i n xs x c same = some_below-same n (owns i (xs ++ x ∷ []) c) (owns i xs c) (λ w l. ap (has_cell i c) (kept-snoc xs x w ∙ go w (x.entry.caller == w) refl))
  where
    go : (w : ℕ) (b : Bool) → (x.entry.caller == w) ≡ b → (if b then kept_next (kept xs w) x else kept xs w) ≡ kept xs w
    go w true e = let s : x.entry.caller ≡ w = eqb-true x.entry.caller w e in subst (λ u. kept_next (kept xs u) x ≡ kept xs u) s same
    go w false e = refl

-- two reservations that are held with one cell that is not past are one vehicle's
pub one_holder : (i : Intersection) (vehicles : ℕ) (h : List Entry) (now : ℕ) (c : Cell) (x y : Fresh) → i.times.early ≤ i.times.edge → i.times.late ≤ i.times.edge → IsLegal i vehicles h → now_of h 0 ≤ now → now ≤ c.step →
    IsIn x (reservations i (fresh h) now) → IsIn y (reservations i (fresh h) now) → is_granted i x c ≡ true → is_granted i y c ≡ true → x.entry.caller ≡ y.entry.caller
one_holder i vehicles h now c x y before after legal past ahead xs ys gx gy =
    let apart = AreApart-later i (fresh h) (now_of h 0) now past (AreApart-legal i vehicles h before after legal) in
    let kx = (reservations-kept i h now x xs).0 in
    let ky = (reservations-kept i h now y ys).0 in
    apart c x.entry.caller y.entry.caller ahead (rw kx gx) (rw ky gy)
