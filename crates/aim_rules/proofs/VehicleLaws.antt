-- What a vehicle's further fresh message changes.
use Rattle.std.proofs.Common.{◌≡◌, ℕ, Bool, true, false, ◌&&◌, ◌||◌, List, [], ◌∷◌, ◌++◌, Option, Some, None, refl, ◌∙◌, ap}
use Rattle.std.specs.Prelude.{◌==◌, if◌then◌else◌, option_and_then, unwrap_or, not}
use Rattle.std.specs.List.{list_any}
use Rattle.std.proofs.lemmas.List.{append-nil}
use Rattle.std.proofs.lemmas.List.Folds.{list_any-append}
use Rattle.std.proofs.lemmas.List.Elements.{filter-append}
use Rattle.aim_messages.specs.declared.replies.Reply.{Reply}
use Rattle.aim_messages.specs.declared.replies.Reply.TheVariants as reply
use Rattle.aim_geometry.specs.Bounded.{last, since_last}
use Rattle.aim_layout.specs.Intersection.{Intersection}
use Rattle.aim_rules.specs.History.{Fresh, of_vehicle, given_up_at, is_confirm}
use Rattle.aim_rules.specs.Holds.{is_number, is_given_up, last_confirm, holding}
use Rattle.aim_rules.specs.Asking.{standing_next, is_reject, next_with}
use Rattle.aim_rules.proofs.HistoryLemmas.{since_last-append}
use Rattle.aim_rules.proofs.Lists.{last-snoc}
use Rattle.aim_rules.specs.Kept.{kept, without, kept_next, lasts, if_lasts}

-- a vehicle's messages with one more
pub of_vehicle-own : (xs : List Fresh) (x : Fresh) (v : ℕ) → (x.entry.caller == v) ≡ true → of_vehicle v (xs ++ x ∷ []) ≡ of_vehicle v xs ++ x ∷ []
of_vehicle-own xs x v own = filter-append (λ x. x.entry.caller == v) xs (x ∷ []) ∙ rw own refl

pub of_vehicle-other : (xs : List Fresh) (x : Fresh) (v : ℕ) → (x.entry.caller == v) ≡ false → of_vehicle v (xs ++ x ∷ []) ≡ of_vehicle v xs
of_vehicle-other xs x v other = filter-append (λ x. x.entry.caller == v) xs (x ∷ []) ∙ rw other (append-nil (of_vehicle v xs))

-- what is asked of a vehicle's messages, by whether the further one is its own
by_vehicle : {Y : Type 0} (f : List Fresh → Y) (g : Y → Y) (xs : List Fresh) (x : Fresh) (v : ℕ) →
    ((ys : List Fresh) → f (ys ++ x ∷ []) ≡ g (f ys)) →
    f (of_vehicle v (xs ++ x ∷ [])) ≡ (if x.entry.caller == v then g (f (of_vehicle v xs)) else f (of_vehicle v xs))
by_vehicle f g xs x v step = go (x.entry.caller == v) refl
  where
    go : (b : Bool) → (x.entry.caller == v) ≡ b → f (of_vehicle v (xs ++ x ∷ [])) ≡ (if b then g (f (of_vehicle v xs)) else f (of_vehicle v xs))
    go true e = ap f (of_vehicle-own xs x v e) ∙ step (of_vehicle v xs)
    go false e = ap f (of_vehicle-other xs x v e)

-- the next time of a vehicle
abbrev next_in : List Fresh → ℕ
next_in ys = unwrap_or (option_and_then (λ x. next_with x.entry.reply) (last (λ x. is_reject x.entry.reply) ys)) 0

next_in-snoc : (ys : List Fresh) (x : Fresh) → next_in (ys ++ x ∷ []) ≡ unwrap_or (next_with x.entry.reply) (next_in ys)
next_in-snoc ys x =
    ap (λ o. unwrap_or (option_and_then (λ x. next_with x.entry.reply) o) 0) (last-snoc (λ x. is_reject x.entry.reply) ys x)
    ∙ go x.entry.reply refl (last (λ x. is_reject x.entry.reply) ys)
  where
    go : (r : Reply) → x.entry.reply ≡ r → (o : Option Fresh) →
        unwrap_or (option_and_then (λ x. next_with x.entry.reply) (if is_reject r then Some x else o)) 0
        ≡ unwrap_or (next_with r) (unwrap_or (option_and_then (λ x. next_with x.entry.reply) o) 0)
    go (reply.Reject why next held) e o = rw e refl
    go _ e o = refl

-- a Reject of the vehicle sets its next time, and nothing else changes it
pub standing_next-snoc : (xs : List Fresh) (x : Fresh) (v : ℕ) →
    standing_next (xs ++ x ∷ []) v ≡ (if x.entry.caller == v then unwrap_or (next_with x.entry.reply) (standing_next xs v) else standing_next xs v)
standing_next-snoc xs x v = by_vehicle next_in (λ n. unwrap_or (next_with x.entry.reply) n) xs x v (λ ys. next_in-snoc ys x)

-- what is kept, of a vehicle's own messages
abbrev confirm_in : List Fresh → Option Fresh
confirm_in ys = last (λ x. is_confirm x.entry.reply) ys

abbrev kept_in : List Fresh → Option Fresh
kept_in ys = option_and_then (λ x. if list_any (λ y. is_number (given_up_at y) x.place) (since_last (λ x. is_confirm x.entry.reply) ys) then None else Some x) (confirm_in ys)

kept_in-snoc : (ys : List Fresh) (x : Fresh) → kept_in (ys ++ x ∷ []) ≡ kept_next (kept_in ys) x
kept_in-snoc ys x =
    ap (λ o. option_and_then (λ k. if list_any (λ y. is_number (given_up_at y) k.place) (since_last (λ x. is_confirm x.entry.reply) (ys ++ x ∷ [])) then None else Some k) o) (last-snoc (λ x. is_confirm x.entry.reply) ys x)
    ∙ ap (λ zs. option_and_then (λ k. if list_any (λ y. is_number (given_up_at y) k.place) zs then None else Some k) (if is_confirm x.entry.reply then Some x else confirm_in ys)) (since_last-append (λ x. is_confirm x.entry.reply) ys x)
    ∙ go (is_confirm x.entry.reply) (since_last (λ x. is_confirm x.entry.reply) ys) (confirm_in ys)
  where
    last_one : (b : Bool) (k : Fresh) → (if b || false then None else Some k) ≡ (if b then None else Some k)
    last_one true k = refl
    last_one false k = refl

    named : (any : Bool) (k : Fresh) → (if any || (is_number (given_up_at x) k.place || false) then None else Some k) ≡ without (given_up_at x) (if any then None else Some k)
    named true k = refl
    named false k = last_one (is_number (given_up_at x) k.place) k

    go : (b : Bool) (zs : List Fresh) (o : Option Fresh) →
        option_and_then (λ k. if list_any (λ y. is_number (given_up_at y) k.place) (if b then [] else zs ++ x ∷ []) then None else Some k) (if b then Some x else o)
        ≡ (if b then Some x else without (given_up_at x) (option_and_then (λ k. if list_any (λ y. is_number (given_up_at y) k.place) zs then None else Some k) o))
    go true zs o = refl
    go false zs None = refl
    go false zs (Some k) = rw (list_any-append (λ y. is_number (given_up_at y) k.place) zs (x ∷ [])) (named (list_any (λ y. is_number (given_up_at y) k.place) zs) k)

-- a Confirm of the vehicle takes the place of what it keeps, and a CANCEL or a DONE that names that lets it go
pub kept-snoc : (xs : List Fresh) (x : Fresh) (v : ℕ) → kept (xs ++ x ∷ []) v ≡ (if x.entry.caller == v then kept_next (kept xs v) x else kept xs v)
kept-snoc xs x v = by_vehicle kept_in (λ k. kept_next k x) xs x v (λ ys. kept_in-snoc ys x)

-- what a vehicle holds is what it keeps while some cell of it is not past
pub holding-kept : (i : Intersection) (xs : List Fresh) (v now : ℕ) → holding i xs v now ≡ if_lasts i now (kept xs v)
holding-kept i xs v now = go (last_confirm xs v)
  where
    reservations : (given : Bool) (x : Fresh) → (if not given && lasts i now x then Some x else None) ≡ if_lasts i now (if given then None else Some x)
    reservations true x = refl
    reservations false x = refl

    go : (o : Option Fresh) → option_and_then (λ x. if not (is_given_up xs v x.place) && lasts i now x then Some x else None) o ≡ if_lasts i now (option_and_then (λ x. if is_given_up xs v x.place then None else Some x) o)
    go None = refl
    go (Some x) = reservations (is_given_up xs v x.place) x
