-- Distances and emergencies after one more fresh message.
use Rattle.std.proofs.Common.{◌≡◌, ℕ, Bool, true, false, ◌&&◌, ◌||◌, not, List, [], ◌∷◌, ◌++◌, Option, Some, None, refl, sym, ◌∙◌, ap}
use Rattle.std.specs.Prelude.{◌==◌, if◌then◌else◌, filter, filter_map, reverse, nat_lt}
use Rattle.std.specs.List.{list_any}
use Rattle.std.proofs.lemmas.Bool.{eqb-true, eq-eqb, and_parts, ltb-true}
use Rattle.std.proofs.lemmas.List.{append-nil}
use Rattle.std.proofs.lemmas.List.Folds.{list_any-append}
use Rattle.std.proofs.lemmas.List.Elements.{filter-append, filter_map-append}
use Rattle.aim_messages.specs.declared.messages.Params.{Params}
use Rattle.aim_geometry.specs.Bounded.{least, since_last, some_below, min_with}
use Rattle.aim_layout.specs.Intersection.{Intersection}
use Rattle.aim_rules.specs.History.{Fresh, params_at, is_confirm, last_of_each, last_of}
use Rattle.aim_rules.specs.Distance.{reservation_distance, in_lane, asked_from, asked_at, is_blocked_reply, is_lane}
use Rattle.aim_rules.specs.Approach.{is_coming, calling_at, others_come}
use Rattle.aim_rules.proofs.HistoryLemmas.{since_last-append, last_of_each-append}
use Rattle.aim_geometry.proofs.BoundedLemmas.{some_below_none}
use Rattle.aim_rules.proofs.Lists.{from_front, least-snoc, list_all-snoc, find-test, list_any-filter, some_below-same, some_below-split}
use Rattle.aim_rules.proofs.HistoryLaws.{last_of-snoc}
use Rattle.aim_rules.specs.Kept.{passes, distance_with, distance_next, is_coming_by, is_coming_in, are_below}

abbrev distance_in : List Fresh → Option ℕ
distance_in ys = least (filter_map asked_at (filter (λ x. is_blocked_reply x.entry.reply) (since_last (λ x. is_confirm x.entry.reply) ys)))

distance_in-snoc : (ys : List Fresh) (x : Fresh) (p : Params) → params_at x ≡ Some p → distance_in (ys ++ x ∷ []) ≡ distance_with (distance_in ys) x.now x.entry.reply p
distance_in-snoc ys x p asks =
    ap (λ zs. least (filter_map asked_at (filter (λ x. is_blocked_reply x.entry.reply) zs))) (since_last-append (λ x. is_confirm x.entry.reply) ys x)
    ∙ go (is_confirm x.entry.reply) (is_blocked_reply x.entry.reply) refl (since_last (λ x. is_confirm x.entry.reply) ys)
  where
    go : (c b : Bool) → is_blocked_reply x.entry.reply ≡ b → (zs : List Fresh) →
        least (filter_map asked_at (filter (λ x. is_blocked_reply x.entry.reply) (if c then [] else zs ++ x ∷ [])))
        ≡ (if c then None else if b then Some (min_with (asked_from x.now p) (least (filter_map asked_at (filter (λ x. is_blocked_reply x.entry.reply) zs)))) else least (filter_map asked_at (filter (λ x. is_blocked_reply x.entry.reply) zs)))
    go true b e zs = refl
    go false true e zs =
        ap (λ ws. least (filter_map asked_at ws)) (filter-append (λ x. is_blocked_reply x.entry.reply) zs (x ∷ []))
        ∙ rw (e, filter_map-append asked_at (filter (λ x. is_blocked_reply x.entry.reply) zs) (x ∷ []), asks) (least-snoc (filter_map asked_at (filter (λ x. is_blocked_reply x.entry.reply) zs)) (asked_from x.now p))
    go false false e zs =
        ap (λ ws. least (filter_map asked_at ws)) (filter-append (λ x. is_blocked_reply x.entry.reply) zs (x ∷ []))
        ∙ rw (e, append-nil (filter (λ x. is_blocked_reply x.entry.reply) zs)) refl

-- what a further fresh message makes of a lane's distance
pub reservation_distance-snoc : (xs : List Fresh) (x : Fresh) (lane : ℕ) → reservation_distance (xs ++ x ∷ []) lane ≡ distance_next (reservation_distance xs lane) lane x.now x.entry.reply (params_at x)
reservation_distance-snoc xs x lane = ap distance_in (filter-append (λ x. is_lane (params_at x) lane) xs (x ∷ [])) ∙ go (params_at x) refl
  where
    asking : (p : Params) (b : Bool) → params_at x ≡ Some p → distance_in (in_lane lane xs ++ (if b then x ∷ [] else [])) ≡ (if b then distance_with (reservation_distance xs lane) x.now x.entry.reply p else reservation_distance xs lane)
    asking p true e = distance_in-snoc (in_lane lane xs) x p e
    asking p false e = ap distance_in (append-nil (in_lane lane xs))

    go : (o : Option Params) → params_at x ≡ o → distance_in (in_lane lane xs ++ (if is_lane o lane then x ∷ [] else [])) ≡ distance_next (reservation_distance xs lane) lane x.now x.entry.reply o
    go None e = ap distance_in (append-nil (in_lane lane xs))
    go (Some p) e = asking p (p.lane == lane) e

-- the last fresh message of a vehicle is its own
pub last_of-caller : (xs : List Fresh) (v : ℕ) (x : Fresh) → last_of xs v ≡ Some x → x.entry.caller ≡ v
last_of-caller xs v x h = eqb-true x.entry.caller v (find-test (λ x. x.entry.caller == v) (reverse xs) x h)

-- A question about the last message of each vehicle, asked vehicle by vehicle.
pub last_of_each-each : (n : ℕ) (xs : List Fresh) (q : Fresh → Bool) → are_below n xs ≡ true → list_any q (last_of_each xs) ≡ some_below n (λ w. passes q (last_of xs w))
last_of_each-each n xs q below = from_front Each none step xs q below
  where
    Each : List Fresh → Type 0
    Each xs = (q : Fresh → Bool) → are_below n xs ≡ true → list_any q (last_of_each xs) ≡ some_below n (λ w. passes q (last_of xs w))

    none : (q : Fresh → Bool) → are_below n [] ≡ true → false ≡ some_below n (λ w. false)
    none q b = sym (some_below_none n (λ w. false) (λ w l. refl))

    step : (xs : List Fresh) (x : Fresh) → ((q : Fresh → Bool) → are_below n xs ≡ true → list_any q (last_of_each xs) ≡ some_below n (λ w. passes q (last_of xs w))) → (q : Fresh → Bool) → are_below n (xs ++ x ∷ []) ≡ true →
        list_any q (last_of_each (xs ++ x ∷ [])) ≡ some_below n (λ w. passes q (last_of (xs ++ x ∷ []) w))
    step xs x earlier q below =
        ap (list_any q) (last_of_each-append xs x)
        ∙ list_any-append q (filter (λ y. not (x.entry.caller == y.entry.caller)) (last_of_each xs)) (x ∷ [])
        ∙ ap (λ b. b || (q x || false)) (list_any-filter q (λ y. not (x.entry.caller == y.entry.caller)) (last_of_each xs) ∙ earlier (λ y. not (x.entry.caller == y.entry.caller) && q y) parts.0)
        ∙ swap (some_below n (λ w. passes (λ y. not (x.entry.caller == y.entry.caller) && q y) (last_of xs w))) (q x)
        ∙ ap (λ b. q x || b) (some_below-same n (λ w. passes (λ y. not (x.entry.caller == y.entry.caller) && q y) (last_of xs w)) (λ w. not (x.entry.caller == w) && passes q (if x.entry.caller == w then Some x else last_of xs w)) (λ w l. other w (last_of xs w) refl))
        ∙ ap (λ b. b || some_below n (λ w. not (x.entry.caller == w) && passes q (if x.entry.caller == w then Some x else last_of xs w))) own
        ∙ sym (some_below-split n x.entry.caller (λ w. passes q (if x.entry.caller == w then Some x else last_of xs w)) (ltb-true x.entry.caller n parts.1))
        ∙ some_below-same n (λ w. passes q (if x.entry.caller == w then Some x else last_of xs w)) (λ w. passes q (last_of (xs ++ x ∷ []) w)) (λ w l. ap (passes q) (sym (last_of-snoc xs x w)))
      where
        parts : (are_below n xs ≡ true) × (nat_lt x.entry.caller n ≡ true)
        parts = and_parts (are_below n xs) (nat_lt x.entry.caller n) (sym (list_all-snoc (λ x. nat_lt x.entry.caller n) xs x) ∙ below)

        swap : (a b : Bool) → (a || (b || false)) ≡ (b || a)
        swap true true = refl
        swap true false = refl
        swap false true = refl
        swap false false = refl

        own : q x ≡ passes q (if x.entry.caller == x.entry.caller then Some x else last_of xs x.entry.caller)
        own = rw (eq-eqb x.entry.caller x.entry.caller refl) refl

        some : (b : Bool) (y : Fresh) → (not b && q y) ≡ (not b && passes q (if b then Some x else Some y))
        some true y = refl
        some false y = refl

        nobody : (b : Bool) → false ≡ (not b && passes q (if b then Some x else None))
        nobody true = refl
        nobody false = refl

        other : (w : ℕ) (o : Option Fresh) → last_of xs w ≡ o → passes (λ y. not (x.entry.caller == y.entry.caller) && q y) o ≡ (not (x.entry.caller == w) && passes q (if x.entry.caller == w then Some x else o))
        other w None e = nobody (x.entry.caller == w)
        other w (Some y) e = let c = last_of-caller xs w y e in ap (λ u. not (x.entry.caller == u) && q y) c ∙ some (x.entry.caller == w) y

-- Whether another vehicle's emergency comes in a lane, by each vehicle's last fresh message.
pub others_come-each : (i : Intersection) (n : ℕ) (xs : List Fresh) (v now lane : ℕ) → are_below n xs ≡ true → others_come i xs v now lane ≡ is_coming_in i n xs v now lane
others_come-each i n xs v now lane below =
    last_of_each-each n xs (λ x. not (x.entry.caller == v) && is_coming i now lane (calling_at i x)) below
    ∙ some_below-same n (λ w. passes (λ x. not (x.entry.caller == v) && is_coming i now lane (calling_at i x)) (last_of xs w)) (λ w. not (w == v) && is_coming_by i now lane (last_of xs w)) (λ w l. each w (last_of xs w) refl)
  where
    nobody : (b : Bool) → false ≡ (b && false)
    nobody true = refl
    nobody false = refl

    each : (w : ℕ) (o : Option Fresh) → last_of xs w ≡ o → passes (λ x. not (x.entry.caller == v) && is_coming i now lane (calling_at i x)) o ≡ (not (w == v) && is_coming_by i now lane o)
    each w None e = nobody (not (w == v))
    each w (Some y) e = ap (λ u. not (u == v) && is_coming i now lane (calling_at i y)) (last_of-caller xs w y e)
