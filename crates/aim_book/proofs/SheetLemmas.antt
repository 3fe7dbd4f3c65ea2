-- How many sheets are kept, by the history.
use Rattle.std.proofs.Common.{◌≡◌, ℕ, ◌≤◌, Bool, true, false, List, [], ◌∷◌, ◌++◌, length, Option, Some, None, refl, sym, ◌∙◌, ap, arith, subst, inl, inr, length-append}
use Rattle.std.specs.Prelude.{◌==◌, option_and_then, if◌then◌else◌, filter_map}
use Rattle.aim_messages.specs.declared.entries.Act.{Act}
use Rattle.aim_messages.specs.declared.entries.Act.TheVariants as act
use Rattle.aim_messages.specs.declared.entries.Entry.{Entry}
use Rattle.aim_messages.specs.declared.replies.Reply.{Reply}
use Rattle.aim_layout.specs.Intersection.{Intersection}
use Rattle.aim_rules.specs.Answer.{answer}
use Rattle.aim_rules.specs.Known.{known_after}
use Rattle.aim_rules.specs.Cells.{IsIn}
use Rattle.aim_rules.specs.History.{Fresh, fresh, is_confirm, is_fresh, now_of, of_vehicle}
use Rattle.aim_rules.specs.Holds.{is_given_up, last_confirm}
use Rattle.aim_rules.specs.Kept.{changes, kept}
use Rattle.aim_rules.specs.Legal.{IsLegal}
use Rattle.aim_rules.specs.Timeline.{InForce, change_with}
use Rattle.aim_rules.proofs.GrantLemmas.{confirmed_asks, fresh_grants}
use Rattle.aim_rules.proofs.AheadLemmas.{fresh_answer}
use Rattle.aim_rules.proofs.HistoryLaws.{fresh-none, fresh-one}
use Rattle.aim_rules.proofs.LegalLemmas.{IsLegal-before}
use Rattle.aim_rules.proofs.Lists.{from_front, IsIn-filter, IsIn-snoc, last-in, last-test}
use Rattle.aim_rules.proofs.PolicyLaws.{changes-snoc}
use Rattle.aim_rules.proofs.TakenLaws.{last_legal}
use Rattle.aim_book.specs.Keeping.{row_count}
use Rattle.aim_book.specs.Reserved.{IsRowOf}
use Rattle.aim_book.specs.Sheets.{id_in, sheets_kept, sheets_with}
use Rattle.aim_book.specs.Reservation.{Reservation}

-- a Confirm to a fresh message gives its place as the id
id_of : (i : Intersection) (h : List Entry) (v moment : ℕ) (a : Act) (r : Reply) → r ≡ answer i h v moment a → is_fresh h (record { caller = v; moment = moment; act = a; reply = r }) ≡ true → is_confirm r ≡ true → id_in r ≡ Some (length h)
id_of i h v moment (act.Order o) r is new confirmed = absurd (cc)
id_of i h v moment (act.Message m) r is new confirmed =
    let said = fresh_answer i h v moment m new in
    let yes = sym (ap is_confirm (is ∙ said)) ∙ confirmed in
    let p = confirmed_asks i (known_after i h v moment) m.body yes in
    ap id_in (is ∙ said) ∙ ap id_in (fresh_grants i (known_after i h v moment) m.body p.0 p.1 yes).form

-- so it is for each fresh message of a legal history
ids_are_places : (i : Intersection) (n : ℕ) (h : List Entry) → IsLegal i n h → (x : Fresh) → IsIn x (fresh h) → is_confirm x.entry.reply ≡ true → id_in x.entry.reply ≡ Some x.place
ids_are_places i n = from_front (λ h. IsLegal i n h → (x : Fresh) → IsIn x (fresh h) → is_confirm x.entry.reply ≡ true → id_in x.entry.reply ≡ Some x.place) (λ _ x m _. absurd m) more
  where
    more : (h : List Entry) (e : Entry) → (IsLegal i n h → (x : Fresh) → IsIn x (fresh h) → is_confirm x.entry.reply ≡ true → id_in x.entry.reply ≡ Some x.place) →
        IsLegal i n (h ++ e ∷ []) → (x : Fresh) → IsIn x (fresh (h ++ e ∷ [])) → is_confirm x.entry.reply ≡ true → id_in x.entry.reply ≡ Some x.place
    more h e earlier legal x m confirmed = go (is_fresh h e) refl
      where
        before : IsIn x (fresh h) → id_in x.entry.reply ≡ Some x.place
        before k = earlier (IsLegal-before i n h (e ∷ []) legal) x k confirmed

        go : (b : Bool) → is_fresh h e ≡ b → id_in x.entry.reply ≡ Some x.place
        go false f = before (subst (λ xs. IsIn x xs) (fresh-none h e f) m)
        go true f = elim (IsIn-snoc (fresh h) (record { place = length h; now = now_of h e.moment; entry = e }) x (subst (λ xs. IsIn x xs) (fresh-one h e f) m)) [
          | inl k ↦ before k
          | inr s ↦ subst (λ (y : Fresh). id_in y.entry.reply ≡ Some y.place) (sym s) (id_of i h e.caller e.moment e.act e.reply (last_legal i n h e legal).0 f (subst (λ (y : Fresh). is_confirm y.entry.reply ≡ true) s confirmed))
        ]

-- a reservation is there exactly where a sheet is kept
pub count_is : (i : Intersection) (n : ℕ) (h : List Entry) (v : ℕ) (row : Option Reservation) → IsLegal i n h → IsRowOf i (kept (fresh h) v) row → row_count row ≡ sheets_kept v h
count_is i n h v row legal of = go (last_confirm (fresh h) v) refl of
  where
    rows : (b : Bool) (x : Fresh) (row : Option Reservation) → IsRowOf i (if b then None else Some x) row → row_count row ≡ (if b then 0 else 1)
    rows true x None of = refl
    rows true x (Some r) of = absurd of
    rows false x None of = absurd of
    rows false x (Some r) of = refl

    none : (row : Option Reservation) → IsRowOf i None row → row_count row ≡ 0
    none None of = refl
    none (Some r) of = absurd of

    go : (o : Option Fresh) → last_confirm (fresh h) v ≡ o → IsRowOf i (option_and_then (λ x. if is_given_up (fresh h) v x.place then None else Some x) o) row →
        row_count row ≡ sheets_with (fresh h) v (option_and_then (λ x. id_in x.entry.reply) o)
    go None e of = none row of
    go (Some x) e of =
        let inside : IsIn x (fresh h) = (IsIn-filter (λ y. y.entry.caller == v) (fresh h) x (last-in (λ y. is_confirm y.entry.reply) (of_vehicle v (fresh h)) x e)).0 in
        let id = ids_are_places i n h legal x inside (last-test (λ y. is_confirm y.entry.reply) (of_vehicle v (fresh h)) x e) in
        rw id (rows (is_given_up (fresh h) v x.place) x row of)

-- there are no more changes of policy than entries
pub changes_fit : (h : List Entry) → length (changes h) ≤ length h
changes_fit = from_front (λ h. length (changes h) ≤ length h) (omega arith) more
  where
    at_most_one : (o : Option InForce) → length (filter_map (λ x. x) (o ∷ [])) ≤ 1
    at_most_one None = omega arith
    at_most_one (Some f) = omega arith

    more : (h : List Entry) (e : Entry) → length (changes h) ≤ length h → length (changes (h ++ e ∷ [])) ≤ length (h ++ e ∷ [])
    more h e l = rw (changes-snoc h e) (let one = at_most_one (change_with e.act e.reply) in let a = length-append (changes h) (filter_map (λ x. x) (change_with e.act e.reply ∷ [])) in let b = length-append h (e ∷ []) in omega arith)
