-- The sheets that are kept, by a vehicle's own entries.
use Rattle.std.proofs.Common.{◌≡◌, ℕ, Bool, true, false, ◌&&◌, ◌||◌, List, [], ◌∷◌, ◌++◌, map, Option, Some, None, refl, sym, ◌∙◌, ap}
use Rattle.std.specs.Prelude.{◌==◌, option_and_then, option_map, if◌then◌else◌}
use Rattle.std.specs.List.{list_all, list_any}
use Rattle.std.proofs.lemmas.Bool.{eqb-true, ne_eqb}
use Rattle.std.proofs.lemmas.List.{append-nil, map-append}
use Rattle.std.proofs.lemmas.List.Elements.{filter-append}
use Rattle.aim_geometry.specs.Bounded.{last, since_last}
use Rattle.aim_messages.specs.declared.entries.Entry.{Entry}
use Rattle.aim_messages.specs.declared.messages.Message.{Message}
use Rattle.aim_rules.specs.History.{Fresh, fresh, given_up, is_above, is_confirm, is_fresh, is_fresh_message, is_fresh_seq, message_from, message_of, of_vehicle}
use Rattle.aim_rules.specs.Holds.{is_number, last_confirm}
use Rattle.aim_rules.proofs.HistoryLaws.{fresh-none, fresh-one}
use Rattle.aim_rules.proofs.HistoryLemmas.{served}
use Rattle.aim_rules.proofs.Lists.{from_front, last-snoc}
use Rattle.aim_rules.proofs.VehicleLaws.{of_vehicle-other, of_vehicle-own}
use Rattle.aim_book.specs.Sheets.{id_in, own, sheets_kept, sheets_with}

abbrev given_up_in : Entry → Option ℕ
given_up_in e = option_and_then (λ m. given_up m.body) (message_of e.act)

-- the vehicle's fresh entries
abbrev entries : ℕ → List Entry → List Entry
entries v h = map (λ x. x.entry) (of_vehicle v (fresh h))

-- how many sheets are kept, by the vehicle's fresh entries and the last id
abbrev kept_with : List Entry → Option ℕ → ℕ
kept_with es None = 0
kept_with es (Some id) = if list_any (λ e. is_number (given_up_in e) id) (since_last (λ e. is_confirm e.reply) es) then 0 else 1

abbrev kept_by : List Entry → ℕ
kept_by es = kept_with es (option_and_then (λ e. id_in e.reply) (last (λ e. is_confirm e.reply) es))

any_entries : (f : Entry → Bool) (xs : List Fresh) → list_any (λ x. f x.entry) xs ≡ list_any f (map (λ x. x.entry) xs)
any_entries f [] = refl
any_entries f (x ∷ xs) = ap (λ b. f x.entry || b) (any_entries f xs)

since_entries : (f q : Entry → Bool) (xs : List Fresh) → list_any (λ x. f x.entry) (since_last (λ x. q x.entry) xs) ≡ list_any f (since_last q (map (λ x. x.entry) xs))
since_entries f q [] = refl
since_entries f q (x ∷ xs) = go (list_any (λ x. q x.entry) xs) (list_any q (map (λ x. x.entry) xs)) (any_entries q xs) (q x.entry) (since_entries f q xs)
  where
    go : (a b : Bool) → a ≡ b → (c : Bool) → list_any (λ x. f x.entry) (since_last (λ x. q x.entry) xs) ≡ list_any f (since_last q (map (λ x. x.entry) xs)) →
        list_any (λ x. f x.entry) (if a then since_last (λ x. q x.entry) xs else if c then xs else x ∷ xs)
        ≡ list_any f (if b then since_last q (map (λ x. x.entry) xs) else if c then map (λ x. x.entry) xs else x.entry ∷ map (λ x. x.entry) xs)
    go true true e c later = later
    go false false e true later = any_entries f xs
    go false false e false later = any_entries f (x ∷ xs)
    go true false e c later = absurd (cc)
    go false true e c later = absurd (cc)

last_entries : (q : Entry → Bool) (xs : List Fresh) → option_map (λ x. x.entry) (last (λ x. q x.entry) xs) ≡ last q (map (λ x. x.entry) xs)
last_entries q = from_front (λ xs. option_map (λ x. x.entry) (last (λ x. q x.entry) xs) ≡ last q (map (λ x. x.entry) xs)) refl more
  where
    choose : (b : Bool) (x : Fresh) (o : Option Fresh) → option_map (λ x. x.entry) (if b then Some x else o) ≡ (if b then Some x.entry else option_map (λ x. x.entry) o)
    choose true x o = refl
    choose false x o = refl

    more : (xs : List Fresh) (x : Fresh) → option_map (λ x. x.entry) (last (λ x. q x.entry) xs) ≡ last q (map (λ x. x.entry) xs) →
        option_map (λ x. x.entry) (last (λ x. q x.entry) (xs ++ x ∷ [])) ≡ last q (map (λ x. x.entry) (xs ++ x ∷ []))
    more xs x same =
        ap (option_map (λ x. x.entry)) (last-snoc (λ x. q x.entry) xs x)
        ∙ choose (q x.entry) x (last (λ x. q x.entry) xs)
        ∙ ap (λ o. if q x.entry then Some x.entry else o) same
        ∙ sym (ap (last q) (map-append (λ (x : Fresh). x.entry) xs (x ∷ [])) ∙ last-snoc q (map (λ x. x.entry) xs) x.entry)

by_entries : (v : ℕ) (h : List Entry) → sheets_kept v h ≡ kept_by (entries v h)
by_entries v h = go (last_confirm (fresh h) v) ∙ ap (λ o. kept_with (entries v h) (option_and_then (λ e. id_in e.reply) o)) (last_entries (λ e. is_confirm e.reply) (of_vehicle v (fresh h)))
  where
    with_id : (o : Option ℕ) → sheets_with (fresh h) v o ≡ kept_with (entries v h) o
    with_id None = refl
    with_id (Some id) = ap (λ b. if b then 0 else 1) (since_entries (λ e. is_number (given_up_in e) id) (λ e. is_confirm e.reply) (of_vehicle v (fresh h)))

    go : (o : Option Fresh) → sheets_with (fresh h) v (option_and_then (λ x. id_in x.entry.reply) o) ≡ kept_with (entries v h) (option_and_then (λ e. id_in e.reply) (option_map (λ x. x.entry) o))
    go None = refl
    go (Some x) = with_id (id_in x.entry.reply)

-- an entry of another caller leaves the vehicle's fresh entries
entries_other : (v : ℕ) (h : List Entry) (e : Entry) → (e.caller == v) ≡ false → entries v (h ++ e ∷ []) ≡ entries v h
entries_other v h e other = go (is_fresh h e) refl
  where
    go : (b : Bool) → is_fresh h e ≡ b → entries v (h ++ e ∷ []) ≡ entries v h
    go true f = ap (λ xs. map (λ x. x.entry) (of_vehicle v xs)) (fresh-one h e f) ∙ ap (map (λ x. x.entry)) (of_vehicle-other (fresh h) (served h e) v other)
    go false f = ap (λ xs. map (λ x. x.entry) (of_vehicle v xs)) (fresh-none h e f)

-- one of its own stands last where it is fresh
entries_own : (v : ℕ) (h : List Entry) (e : Entry) → (e.caller == v) ≡ true → entries v (h ++ e ∷ []) ≡ (if is_fresh h e then entries v h ++ e ∷ [] else entries v h)
entries_own v h e mine = go (is_fresh h e) refl
  where
    go : (b : Bool) → is_fresh h e ≡ b → entries v (h ++ e ∷ []) ≡ (if b then entries v h ++ e ∷ [] else entries v h)
    go true f =
        ap (λ xs. map (λ x. x.entry) (of_vehicle v xs)) (fresh-one h e f)
        ∙ ap (map (λ x. x.entry)) (of_vehicle-own (fresh h) (served h e) v mine)
        ∙ map-append (λ (x : Fresh). x.entry) (of_vehicle v (fresh h)) (served h e ∷ [])
    go false f = ap (λ xs. map (λ x. x.entry) (of_vehicle v xs)) (fresh-none h e f)

-- whether a message of the vehicle is fresh is told by its own entries
seq_own : (v seq : ℕ) (h : List Entry) → is_fresh_seq (own v h) v seq ≡ is_fresh_seq h v seq
seq_own v seq [] = refl
seq_own v seq (e ∷ h) = go (e.caller == v) refl (seq_own v seq h)
  where
    go : (b : Bool) → (e.caller == v) ≡ b → is_fresh_seq (own v h) v seq ≡ is_fresh_seq h v seq → list_all (λ e. is_above seq (message_from v e)) (if b then e ∷ own v h else own v h) ≡ (is_above seq (if b then message_of e.act else None) && is_fresh_seq h v seq)
    go true is later = rw (is, later) refl
    go false is later = later

fresh_own : (v : ℕ) (h : List Entry) (e : Entry) → e.caller ≡ v → is_fresh (own v h) e ≡ is_fresh h e
fresh_own v h e mine = go (message_of e.act)
  where
    go : (o : Option Message) → is_fresh_message (own v h) e.caller o ≡ is_fresh_message h e.caller o
    go None = refl
    go (Some m) = rw mine (seq_own v m.seq h)

same_entries : (v : ℕ) (h : List Entry) → entries v (own v h) ≡ entries v h
same_entries v = from_front (λ h. entries v (own v h) ≡ entries v h) refl more
  where
    more : (h : List Entry) (e : Entry) → entries v (own v h) ≡ entries v h → entries v (own v (h ++ e ∷ [])) ≡ entries v (h ++ e ∷ [])
    more h e same = ap (entries v) (filter-append (λ e. e.caller == v) h (e ∷ [])) ∙ go (e.caller == v) refl
      where
        go : (b : Bool) → (e.caller == v) ≡ b → entries v (own v h ++ (if b then e ∷ [] else [])) ≡ entries v (h ++ e ∷ [])
        go true mine =
            entries_own v (own v h) e mine
            ∙ ap (λ b. if b then entries v (own v h) ++ e ∷ [] else entries v (own v h)) (fresh_own v h e (eqb-true e.caller v mine))
            ∙ ap (λ es. if is_fresh h e then es ++ e ∷ [] else es) same
            ∙ sym (entries_own v h e mine)
        go false other = ap (entries v) (append-nil (own v h)) ∙ same ∙ sym (entries_other v h e other)

pub sheets_other : (v : ℕ) (h : List Entry) (e : Entry) → (e.caller ≡ v → ⊥) → sheets_kept v (h ++ e ∷ []) ≡ sheets_kept v h
sheets_other v h e other = by_entries v (h ++ e ∷ []) ∙ ap kept_by (entries_other v h e (ne_eqb e.caller v other)) ∙ sym (by_entries v h)

pub sheets_own : (v : ℕ) (h : List Entry) → sheets_kept v (own v h) ≡ sheets_kept v h
sheets_own v h = by_entries v (own v h) ∙ ap kept_by (same_entries v h) ∙ sym (by_entries v h)
