-- The time, the fresh messages and their numbers, after one more entry.
use Rattle.std.proofs.Common.{◌≡◌, ℕ, Bool, true, false, ◌&&◌, List, [], ◌∷◌, ◌++◌, map, fold, max, Option, Some, None, arith, refl, sym, ◌∙◌, ap}
use Rattle.std.specs.Prelude.{◌==◌, if◌then◌else◌, nat_lt, find, filter_map, option_map}
use Rattle.std.specs.Option.{option_or}
use Rattle.std.proofs.lemmas.List.{append-nil, map-append}
use Rattle.std.proofs.lemmas.List.Elements.{filter_map-append}
use Rattle.std.proofs.lemmas.Bool.{eqb-true, eq-eqb, and_parts}
use Rattle.std.proofs.lemmas.Bool.Decides.{nat_tests}
use Rattle.std.proofs.lemmas.List.Folds.{find-append}
use Rattle.aim_messages.specs.declared.messages.Message.{Message}
use Rattle.aim_messages.specs.declared.entries.Entry.{Entry}
use Rattle.aim_geometry.specs.Bounded.{greatest, max_with}
use Rattle.aim_rules.specs.History.{Fresh, fresh, is_fresh, is_fresh_message, is_fresh_seq, is_above, message_from, message_of, message_at, messages_of, of_vehicle, now_of, is_seq, last_of}
use Rattle.aim_rules.proofs.VehicleLaws.{of_vehicle-own, of_vehicle-other}
use Rattle.aim_rules.proofs.HistoryLemmas.{served, fresh-append}
use Rattle.aim_rules.proofs.Lists.{from_front, last-snoc, greatest-snoc, list_all-snoc}
use Rattle.aim_rules.specs.Kept.{seq_of}
use Rattle.aim_rules.specs.Known.{is_above_all, exchange_of, seq_in}

some_same : {X : Type 0} (a b : X) → Some a ≡ Some b → a ≡ b
some_same a b p = cc

fold_max : (a b : ℕ) (xs : List ℕ) → fold max (max a b) xs ≡ max (fold max a xs) b
fold_max a b [] = refl
fold_max a b (x ∷ xs) = let e : max (max a b) x ≡ max (max a x) b = omega arith in rw e (fold_max (max a x) b xs)

-- the time with a further moment
pub now_of-max : (h : List Entry) (m : ℕ) → now_of h m ≡ max (now_of h 0) m
now_of-max h m = let e : max 0 m ≡ m = omega arith in rw e at (fold_max 0 m (map (λ e. e.moment) h))

pub now_of-snoc : (h : List Entry) (e : Entry) (m : ℕ) → now_of (h ++ e ∷ []) m ≡ max (now_of h m) e.moment
now_of-snoc [] e m = refl
now_of-snoc (x ∷ h) e m = now_of-snoc h e (max m x.moment)

-- a fresh message is the last one, and another entry is none
pub fresh-one : (h : List Entry) (e : Entry) → is_fresh h e ≡ true → fresh (h ++ e ∷ []) ≡ fresh h ++ served h e ∷ []
fresh-one h e f = fresh-append h e ∙ rw f refl

pub fresh-none : (h : List Entry) (e : Entry) → is_fresh h e ≡ false → fresh (h ++ e ∷ []) ≡ fresh h
fresh-none h e f = fresh-append h e ∙ rw f (append-nil (fresh h))

-- the vehicle's last fresh message, after one more
pub last_of-snoc : (xs : List Fresh) (x : Fresh) (v : ℕ) → last_of (xs ++ x ∷ []) v ≡ (if x.entry.caller == v then Some x else last_of xs v)
last_of-snoc xs x v = last-snoc (λ x. x.entry.caller == v) xs x

-- after one more entry
pub last_of-entry : (h : List Entry) (e : Entry) (v : ℕ) → last_of (fresh (h ++ e ∷ [])) v ≡ (if e.caller == v && is_fresh h e then Some (served h e) else last_of (fresh h) v)
last_of-entry h e v = go (is_fresh h e) refl
  where
    own : (b : Bool) (o : Option Fresh) → (if b then Some (served h e) else o) ≡ (if b && true then Some (served h e) else o)
    own true o = refl
    own false o = refl

    none : (b : Bool) (o : Option Fresh) → o ≡ (if b && false then Some (served h e) else o)
    none true o = refl
    none false o = refl

    go : (b : Bool) → is_fresh h e ≡ b → last_of (fresh (h ++ e ∷ [])) v ≡ (if e.caller == v && b then Some (served h e) else last_of (fresh h) v)
    go true f = ap (λ xs. last_of xs v) (fresh-one h e f) ∙ last_of-snoc (fresh h) (served h e) v ∙ own (e.caller == v) (last_of (fresh h) v)
    go false f = ap (λ xs. last_of xs v) (fresh-none h e f) ∙ none (e.caller == v) (last_of (fresh h) v)

-- the numbers

pub is_new-snoc : (h : List Entry) (e : Entry) (v seq : ℕ) → is_fresh_seq (h ++ e ∷ []) v seq ≡ (is_fresh_seq h v seq && is_above seq (message_from v e))
is_new-snoc h e v seq = list_all-snoc (λ e. is_above seq (message_from v e)) h e

-- a further number, where it is above all before it or not
above_next : (o : Option ℕ) (n seq : ℕ) → (is_above_all o seq && nat_lt n seq) ≡ is_above_all (if is_above_all o n then Some n else o) seq
above_next None n seq = refl
above_next (Some most) n seq = go (nat_lt most n) (nat_lt most seq) (nat_lt n seq) refl refl refl
  where
    go : (a b c : Bool) → nat_lt most n ≡ a → nat_lt most seq ≡ b → nat_lt n seq ≡ c → (b && c) ≡ is_above_all (if a then Some n else Some most) seq
    go true true c x y z = sym z
    go true false true x y z = absurd (grind (arith, nat_tests))
    go true false false x y z = sym z
    go false true true x y z = sym y
    go false true false x y z = absurd (grind (arith, nat_tests))
    go false false c x y z = sym y

-- A number is above all of a vehicle's exactly where it is above that of its last fresh message.
pub is_fresh_seq-last : (h : List Entry) (v seq : ℕ) → is_fresh_seq h v seq ≡ is_above_all (seq_of (last_of (fresh h) v)) seq
is_fresh_seq-last h v seq = from_front (λ h. (seq : ℕ) → is_fresh_seq h v seq ≡ is_above_all (seq_of (last_of (fresh h) v)) seq) (λ seq. refl) step h seq
  where
    other : (b : Bool) → (b && true) ≡ b
    other true = refl
    other false = refl

    message : (h : List Entry) (e : Entry) → ((seq : ℕ) → is_fresh_seq h v seq ≡ is_above_all (seq_of (last_of (fresh h) v)) seq) → (seq : ℕ) → e.caller ≡ v → (o : Option Message) → message_of e.act ≡ o →
        (is_fresh_seq h v seq && is_above seq o) ≡ is_above_all (seq_of (if is_fresh_message h v o then Some (served h e) else last_of (fresh h) v)) seq
    message h e earlier seq own None m = other (is_fresh_seq h v seq) ∙ earlier seq
    message h e earlier seq own (Some n) m =
        ap (λ b. b && nat_lt n.seq seq) (earlier seq)
        ∙ above_next (seq_of (last_of (fresh h) v)) n.seq seq
        ∙ ap (λ b. is_above_all (if b then Some n.seq else seq_of (last_of (fresh h) v)) seq) (sym (earlier n.seq))
        ∙ ap (λ o. is_above_all o seq) (picked (is_fresh_seq h v n.seq) m)
      where
        picked : (b : Bool) → message_of e.act ≡ Some n → (if b then Some n.seq else seq_of (last_of (fresh h) v)) ≡ seq_of (if b then Some (served h e) else last_of (fresh h) v)
        picked true m = rw m refl
        picked false m = refl

    step : (h : List Entry) (e : Entry) → ((seq : ℕ) → is_fresh_seq h v seq ≡ is_above_all (seq_of (last_of (fresh h) v)) seq) → (seq : ℕ) →
        is_fresh_seq (h ++ e ∷ []) v seq ≡ is_above_all (seq_of (last_of (fresh (h ++ e ∷ [])) v)) seq
    step h e earlier seq = is_new-snoc h e v seq ∙ go (e.caller == v) refl ∙ ap (λ o. is_above_all (seq_of o) seq) (sym (last_of-entry h e v))
      where
        go : (b : Bool) → (e.caller == v) ≡ b →
            (is_fresh_seq h v seq && is_above seq (if b then message_of e.act else None)) ≡ is_above_all (seq_of (if b && is_fresh h e then Some (served h e) else last_of (fresh h) v)) seq
        go true c = let own : e.caller ≡ v = eqb-true e.caller v c in rw (ap (λ u. is_fresh_message h u (message_of e.act)) own) (message h e earlier seq own (message_of e.act) refl)
        go false c = other (is_fresh_seq h v seq) ∙ earlier seq

-- the number of what is known of a vehicle's last fresh message
pub seq_said-of : (o : Option Fresh) → seq_in (exchange_of o) ≡ seq_of o
seq_said-of None = refl
seq_said-of (Some x) = go (message_at x)
  where
    go : (m : Option Message) → seq_in (option_map (λ m. record { message = m; reply = x.entry.reply }) m) ≡ option_map (λ m. m.seq) m
    go None = refl
    go (Some m) = refl

-- So whether a number is fresh is told by what is known.
pub seq_said : (h : List Entry) (v seq : ℕ) → is_fresh_seq h v seq ≡ is_above_all (seq_in (exchange_of (last_of (fresh h) v))) seq
seq_said h v seq = is_fresh_seq-last h v seq ∙ ap (λ o. is_above_all o seq) (sym (seq_said-of (last_of (fresh h) v)))

-- the greatest number, with one more
most_next : (o : Option ℕ) (n : ℕ) → Some (max_with n o) ≡ (if is_above_all o n then Some n else o)
most_next None n = refl
most_next (Some most) n = go (nat_lt most n) refl
  where
    go : (b : Bool) → nat_lt most n ≡ b → Some (max n most) ≡ (if b then Some n else Some most)
    go true l = ap Some (grind (arith, nat_tests))
    go false l = ap Some (grind (arith, nat_tests))

-- The greatest number of a vehicle's messages is that of its last fresh message.
pub greatest-last : (h : List Entry) (v : ℕ) → greatest (map (λ m. m.seq) (messages_of v h)) ≡ seq_of (last_of (fresh h) v)
greatest-last h v = from_front (λ h. greatest (map (λ m. m.seq) (messages_of v h)) ≡ seq_of (last_of (fresh h) v)) refl step h
  where
    message : (h : List Entry) (e : Entry) → greatest (map (λ m. m.seq) (messages_of v h)) ≡ seq_of (last_of (fresh h) v) → (o : Option Message) → message_of e.act ≡ o →
        greatest (map (λ m. m.seq) (messages_of v h ++ filter_map (λ x. x) (o ∷ []))) ≡ seq_of (if is_fresh_message h v o then Some (served h e) else last_of (fresh h) v)
    message h e earlier None m = ap (λ ms. greatest (map (λ m. m.seq) ms)) (append-nil (messages_of v h)) ∙ earlier
    message h e earlier (Some n) m =
        ap greatest (map-append (λ m. m.seq) (messages_of v h) (n ∷ []))
        ∙ greatest-snoc (map (λ m. m.seq) (messages_of v h)) n.seq
        ∙ ap (λ o. Some (max_with n.seq o)) earlier
        ∙ most_next (seq_of (last_of (fresh h) v)) n.seq
        ∙ ap (λ b. if b then Some n.seq else seq_of (last_of (fresh h) v)) (sym (is_fresh_seq-last h v n.seq))
        ∙ picked (is_fresh_seq h v n.seq) m
      where
        picked : (b : Bool) → message_of e.act ≡ Some n → (if b then Some n.seq else seq_of (last_of (fresh h) v)) ≡ seq_of (if b then Some (served h e) else last_of (fresh h) v)
        picked true m = rw m refl
        picked false m = refl

    step : (h : List Entry) (e : Entry) → greatest (map (λ m. m.seq) (messages_of v h)) ≡ seq_of (last_of (fresh h) v) → greatest (map (λ m. m.seq) (messages_of v (h ++ e ∷ []))) ≡ seq_of (last_of (fresh (h ++ e ∷ [])) v)
    step h e earlier = ap (λ ms. greatest (map (λ m. m.seq) ms)) (filter_map-append (message_from v) h (e ∷ [])) ∙ go (e.caller == v) refl ∙ ap seq_of (sym (last_of-entry h e v))
      where
        go : (b : Bool) → (e.caller == v) ≡ b →
            greatest (map (λ m. m.seq) (messages_of v h ++ filter_map (λ x. x) ((if b then message_of e.act else None) ∷ []))) ≡ seq_of (if b && is_fresh h e then Some (served h e) else last_of (fresh h) v)
        go true c = let own : e.caller ≡ v = eqb-true e.caller v c in rw (ap (λ u. is_fresh_message h u (message_of e.act)) own) (message h e earlier (message_of e.act) refl)
        go false c = ap (λ ms. greatest (map (λ m. m.seq) ms)) (append-nil (messages_of v h)) ∙ earlier

-- a new number is that of no fresh message
pub find-new : (h : List Entry) (v seq : ℕ) → is_fresh_seq h v seq ≡ true → find (λ x. is_seq seq (message_at x)) (of_vehicle v (fresh h)) ≡ None
find-new h v seq new = from_front (λ h. is_fresh_seq h v seq ≡ true → find (λ x. is_seq seq (message_at x)) (of_vehicle v (fresh h)) ≡ None) (λ n. refl) step h new
  where
    no_seq : (o : Option Message) → is_above seq o ≡ true → is_seq seq o ≡ false
    no_seq None a = refl
    no_seq (Some m) a = go (m.seq == seq) refl
      where
        go : (b : Bool) → (m.seq == seq) ≡ b → (m.seq == seq) ≡ false
        go true e = absurd (grind (arith, nat_tests))
        go false e = e

    step : (h : List Entry) (e : Entry) → (is_fresh_seq h v seq ≡ true → find (λ x. is_seq seq (message_at x)) (of_vehicle v (fresh h)) ≡ None) → is_fresh_seq (h ++ e ∷ []) v seq ≡ true →
        find (λ x. is_seq seq (message_at x)) (of_vehicle v (fresh (h ++ e ∷ []))) ≡ None
    step h e earlier new = go (is_fresh h e) (e.caller == v) refl refl
      where
        parts : (is_fresh_seq h v seq ≡ true) × (is_above seq (message_from v e) ≡ true)
        parts = and_parts (is_fresh_seq h v seq) (is_above seq (message_from v e)) (sym (is_new-snoc h e v seq) ∙ new)

        go : (f own : Bool) → is_fresh h e ≡ f → (e.caller == v) ≡ own → find (λ x. is_seq seq (message_at x)) (of_vehicle v (fresh (h ++ e ∷ []))) ≡ None
        go false own f c = ap (λ xs. find (λ x. is_seq seq (message_at x)) (of_vehicle v xs)) (fresh-none h e f) ∙ earlier parts.0
        go true false f c = ap (λ xs. find (λ x. is_seq seq (message_at x)) (of_vehicle v xs)) (fresh-one h e f) ∙ ap (find (λ x. is_seq seq (message_at x))) (of_vehicle-other (fresh h) (served h e) v c) ∙ earlier parts.0
        go true true f c =
            ap (λ xs. find (λ x. is_seq seq (message_at x)) (of_vehicle v xs)) (fresh-one h e f)
            ∙ ap (find (λ x. is_seq seq (message_at x))) (of_vehicle-own (fresh h) (served h e) v c)
            ∙ find-append (λ x. is_seq seq (message_at x)) (of_vehicle v (fresh h)) (served h e ∷ [])
            ∙ ap (λ o. option_or o (find (λ x. is_seq seq (message_at x)) (served h e ∷ []))) (earlier parts.0)
            ∙ (let a : is_above seq (message_of e.act) ≡ true = rw c at parts.1 in rw (no_seq (message_of e.act) a) refl)

-- The fresh message with the greatest number is the last one.
pub find-last : (h : List Entry) (v seq : ℕ) → seq_of (last_of (fresh h) v) ≡ Some seq → find (λ x. is_seq seq (message_at x)) (of_vehicle v (fresh h)) ≡ last_of (fresh h) v
find-last h v seq last = from_front (λ h. seq_of (last_of (fresh h) v) ≡ Some seq → find (λ x. is_seq seq (message_at x)) (of_vehicle v (fresh h)) ≡ last_of (fresh h) v) (λ n. absurd (cc)) step h last
  where
    step : (h : List Entry) (e : Entry) → (seq_of (last_of (fresh h) v) ≡ Some seq → find (λ x. is_seq seq (message_at x)) (of_vehicle v (fresh h)) ≡ last_of (fresh h) v) → seq_of (last_of (fresh (h ++ e ∷ [])) v) ≡ Some seq →
        find (λ x. is_seq seq (message_at x)) (of_vehicle v (fresh (h ++ e ∷ []))) ≡ last_of (fresh (h ++ e ∷ [])) v
    step h e earlier last = go (is_fresh h e) (e.caller == v) refl refl
      where
        here : (o : Option Message) → message_of e.act ≡ o → (e.caller == v) ≡ true → is_fresh_message h e.caller o ≡ true → seq_of (Some (served h e)) ≡ Some seq →
            option_or (find (λ x. is_seq seq (message_at x)) (of_vehicle v (fresh h))) (if is_seq seq o then Some (served h e) else None) ≡ Some (served h e)
        here None m c f s = absurd (cc)
        here (Some n) m c f s =
            let own : e.caller ≡ v = eqb-true e.caller v c in
            let same : n.seq ≡ seq = some_same n.seq seq (rw m at s) in
            let new : is_fresh_seq h v seq ≡ true = rw (own, same) at f in
            rw (find-new h v seq new, eq-eqb n.seq seq same) refl

        go : (f own : Bool) → is_fresh h e ≡ f → (e.caller == v) ≡ own → find (λ x. is_seq seq (message_at x)) (of_vehicle v (fresh (h ++ e ∷ []))) ≡ last_of (fresh (h ++ e ∷ [])) v
        go false own f c = rw (fresh-none h e f) (earlier (rw (fresh-none h e f) at last))
        go true false f c =
            let same : last_of (fresh (h ++ e ∷ [])) v ≡ last_of (fresh h) v = last_of-entry h e v ∙ rw (c) refl in
            ap (λ xs. find (λ x. is_seq seq (message_at x)) (of_vehicle v xs)) (fresh-one h e f) ∙ ap (find (λ x. is_seq seq (message_at x))) (of_vehicle-other (fresh h) (served h e) v c)
            ∙ earlier (ap seq_of (sym same) ∙ last) ∙ sym same
        go true true f c =
            let same : last_of (fresh (h ++ e ∷ [])) v ≡ Some (served h e) = last_of-entry h e v ∙ rw (c, f) refl in
            ap (λ xs. find (λ x. is_seq seq (message_at x)) (of_vehicle v xs)) (fresh-one h e f)
            ∙ ap (find (λ x. is_seq seq (message_at x))) (of_vehicle-own (fresh h) (served h e) v c)
            ∙ find-append (λ x. is_seq seq (message_at x)) (of_vehicle v (fresh h)) (served h e ∷ [])
            ∙ here (message_of e.act) refl c f (ap seq_of (sym same) ∙ last)
            ∙ sym same
