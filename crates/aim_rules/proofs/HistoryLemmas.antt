-- What one more entry changes.
use Rattle.std.proofs.Common.{◌≡◌, ℕ, ◌+◌, ◌<◌, Bool, true, false, cond, not, ◌&&◌, ◌||◌, List, [], ◌∷◌, ◌++◌, length, take, get_or, filter, filter_map, Option, Some, None, min, arith, refl, ap, sym, ◌∙◌, reverse, append_assoc, length-take, ◌==◌, if◌then◌else◌}
use Rattle.std.specs.List.{list_any}
use Rattle.std.specs.Option.{option_or}
use Rattle.std.proofs.lemmas.List.{take_more, reverse-append}
use Rattle.std.proofs.lemmas.List.Folds.{list_any-append, find-append}
use Rattle.std.proofs.lemmas.List.Elements.{filter-append, filter_map-append}
use Rattle.aim_messages.specs.declared.entries.Entry.{Entry}
use Rattle.aim_messages.specs.declared.entries.Act.TheVariants as act
use Rattle.aim_messages.specs.declared.messages.Body.TheVariants as body
use Rattle.aim_messages.specs.declared.messages.Turn.TheVariants as turn
use Rattle.aim_messages.specs.declared.replies.Reply.TheVariants as reply
use Rattle.aim_geometry.specs.Bounded.{last, least, min_with, since_last}
use Rattle.aim_rules.specs.History.{Fresh, last_of_each, fresh, fresh_after, fresh_one, of_vehicle, is_fresh, is_confirm, params_at, now_of}
use Rattle.aim_rules.specs.Holds.{last_confirm}
use Rattle.aim_rules.specs.Distance.{reservation_distance, in_lane, asked_at, is_blocked_reply, is_lane}

append-none : {X : Type 0} (xs : List X) → xs ++ [] ≡ xs
append-none [] = refl
append-none (x ∷ xs) = ap (λ ys. x ∷ ys) (append-none xs)

fresh_after-append : (before h : List Entry) (e : Entry) → fresh_after before (h ++ e ∷ []) ≡ fresh_after before h ++ fresh_one (before ++ h) e
fresh_after-append before [] e = rw (append-none (fresh_one before e), append-none before) refl
fresh_after-append before (x ∷ h) e = rw (fresh_after-append (before ++ x ∷ []) h e, append_assoc before (x ∷ []) h) (sym (append_assoc (fresh_one before x) (fresh_after (before ++ x ∷ []) h) (fresh_one (before ++ x ∷ h) e)))

-- a further entry is the last fresh message, or is none
pub fresh-append : (h : List Entry) (e : Entry) → fresh (h ++ e ∷ []) ≡ fresh h ++ fresh_one h e
fresh-append h e = fresh_after-append [] h e

pub last-append : {X : Type 0} (p : X → Bool) (xs ys : List X) → last p (xs ++ ys) ≡ option_or (last p ys) (last p xs)
last-append p xs ys = rw (reverse-append xs ys) (find-append p (reverse ys) (reverse xs))

-- a list of one element, if a test has it there
pub last-one : {X : Type 0} (p q : X → Bool) (x : X) (b : Bool) (o : Option X) → option_or (last p (filter q (if b then x ∷ [] else []))) o ≡ (if q x && p x && b then Some x else o)
last-one p q x b o = grind arith

-- the entry as a fresh message after the history
abbrev pub served : List Entry → Entry → Fresh
served h e = record { place = length h; now = now_of h e.moment; entry = e }

pub last_confirm-append : (h : List Entry) (e : Entry) (v : ℕ) → last_confirm (fresh (h ++ e ∷ [])) v ≡ (if e.caller == v && is_confirm e.reply && is_fresh h e then Some (served h e) else last_confirm (fresh h) v)
last_confirm-append h e v =
    ap (λ xs. last_confirm xs v) (fresh-append h e)
    ∙ ap (last (λ x. is_confirm x.entry.reply)) (filter-append (λ x. x.entry.caller == v) (fresh h) (fresh_one h e))
    ∙ last-append (λ x. is_confirm x.entry.reply) (of_vehicle v (fresh h)) (of_vehicle v (fresh_one h e))
    ∙ last-one (λ x. is_confirm x.entry.reply) (λ x. x.entry.caller == v) (served h e) (is_fresh h e) (last_confirm (fresh h) v)

since_cases : {X : Type 0} (later here head : Bool) (s xs : List X) (y x : X) →
    cond (later || (here || false)) (cond here [] (s ++ x ∷ [])) (cond head (xs ++ x ∷ []) (y ∷ (xs ++ x ∷ [])))
    ≡ cond here [] (cond later s (cond head xs (y ∷ xs)) ++ x ∷ [])
since_cases true true head s xs y x = refl
since_cases true false head s xs y x = refl
since_cases false true head s xs y x = refl
since_cases false false true s xs y x = refl
since_cases false false false s xs y x = refl

-- what one more element changes in what comes after the last that passes a test
pub since_last-append : {X : Type 0} (p : X → Bool) (xs : List X) (x : X) → since_last p (xs ++ x ∷ []) ≡ (if p x then [] else since_last p xs ++ x ∷ [])
since_last-append p [] x = grind arith
since_last-append p (y ∷ xs) x = rw (list_any-append p xs (x ∷ []), since_last-append p xs x) (since_cases (list_any p xs) (p x) (p y) (since_last p xs) xs y x)

least-append : (xs : List ℕ) (n : ℕ) → least (xs ++ n ∷ []) ≡ Some (min_with n (least xs))
least-append [] n = refl
least-append (x ∷ xs) n = rw (least-append xs n) (ap Some (min_with-more x n (least xs)))
  where
    min_with-more : (a b : ℕ) (o : Option ℕ) → min a (min_with b o) ≡ min b (min_with a o)
    min_with-more a b None = omega arith
    min_with-more a b (Some c) = omega arith

-- what a message asks, in the list of those for a lane
pub in_lane-append : (h : List Entry) (e : Entry) (lane : ℕ) → is_fresh h e ≡ true → is_lane (params_at (served h e)) lane ≡ true → in_lane lane (fresh (h ++ e ∷ [])) ≡ in_lane lane (fresh h) ++ served h e ∷ []
in_lane-append h e lane f l = ap (in_lane lane) (fresh-append h e) ∙ filter-append (λ x. is_lane (params_at x) lane) (fresh h) (fresh_one h e) ∙ rw (f, l) refl

-- a Confirm in the lane frees it
pub distance-confirm : (h : List Entry) (e : Entry) (lane : ℕ) → is_fresh h e ≡ true → is_lane (params_at (served h e)) lane ≡ true → is_confirm e.reply ≡ true → reservation_distance (fresh (h ++ e ∷ [])) lane ≡ None
distance-confirm h e lane f l c =
    ap (λ xs. least (filter_map asked_at (filter (λ x. is_blocked_reply x.entry.reply) (since_last (λ x. is_confirm x.entry.reply) xs)))) (in_lane-append h e lane f l)
    ∙ rw (since_last-append (λ x. is_confirm x.entry.reply) (in_lane lane (fresh h)) (served h e), c) refl

-- a refusal for a cell brings the lane's distance down to what was asked
pub distance-blocked : (h : List Entry) (e : Entry) (lane d : ℕ) → is_fresh h e ≡ true → is_lane (params_at (served h e)) lane ≡ true → is_confirm e.reply ≡ false → is_blocked_reply e.reply ≡ true → asked_at (served h e) ≡ Some d → reservation_distance (fresh (h ++ e ∷ [])) lane ≡ Some (min_with d (reservation_distance (fresh h) lane))
distance-blocked h e lane d f l c b a =
    ap (λ xs. least (filter_map asked_at (filter (λ x. is_blocked_reply x.entry.reply) (since_last (λ x. is_confirm x.entry.reply) xs)))) (in_lane-append h e lane f l)
    ∙ rw (since_last-append (λ x. is_confirm x.entry.reply) (in_lane lane (fresh h)) (served h e), c, filter-append, b, filter_map-append, a) (least-append (filter_map asked_at (filter (λ x. is_blocked_reply x.entry.reply) (since_last (λ x. is_confirm x.entry.reply) (in_lane lane (fresh h))))) d)

pub last_confirm_more : (h : List Entry) (v i : ℕ) (d : Entry) → i < length h → last_confirm (fresh (take (i + 1) h)) v ≡ (if (get_or h i d).caller == v && is_confirm (get_or h i d).reply && is_fresh (take i h) (get_or h i d) then Some (served (take i h) (get_or h i d)) else last_confirm (fresh (take i h)) v)
last_confirm_more h v i d l = rw (take_more h i d l) (last_confirm-append (take i h) (get_or h i d) v)

-- its place
pub place-served : (h : List Entry) (i : ℕ) (e : Entry) → i < length h → (served (take i h) e).place ≡ i
place-served h i e l = omega (arith, length-take i h)

-- the entry that a read past the end would give
abbrev pub blank : Entry
blank = record {
  caller = 0;
  moment = 0;
  act = act.Message (record {
    seq = 0;
    body = body.Request (record {
      lane = 0;
      turn = turn.Left;
      arrive = 0;
      latest = 0;
      speed = 0;
      max_speed = 0;
      accel = 0;
      length = 0;
      width = 0;
      emergency = false;
    });
  });
  reply = reply.Confirm 0 0 0 0 false 0;
}

latest_cases : (mine later : Bool) (y x : Fresh) (rest : List Fresh) →
    cond (later || (mine || false)) (rest ++ x ∷ []) (y ∷ (rest ++ x ∷ []))
    ≡ cond later rest (cond (not mine) (y ∷ rest) rest) ++ x ∷ []
latest_cases true true y x rest = refl
latest_cases false true y x rest = refl
latest_cases true false y x rest = refl
latest_cases false false y x rest = refl

filter_cond : (q : Fresh → Bool) (b : Bool) (y : Fresh) (xs : List Fresh) → filter q (cond b xs (y ∷ xs)) ≡ cond b (filter q xs) (cond (q y) (y ∷ filter q xs) (filter q xs))
filter_cond q true y xs = refl
filter_cond q false y xs = refl

-- a further message takes the place of its vehicle's last one
pub last_of_each-append : (xs : List Fresh) (x : Fresh) → last_of_each (xs ++ x ∷ []) ≡ filter (λ y. not (x.entry.caller == y.entry.caller)) (last_of_each xs) ++ x ∷ []
last_of_each-append [] x = refl
last_of_each-append (y ∷ xs) x =
    rw (list_any-append (λ z. z.entry.caller == y.entry.caller) xs (x ∷ []), last_of_each-append xs x, filter_cond (λ z. not (x.entry.caller == z.entry.caller)) (list_any (λ z. z.entry.caller == y.entry.caller) xs) y (last_of_each xs))
    (latest_cases (x.entry.caller == y.entry.caller) (list_any (λ z. z.entry.caller == y.entry.caller) xs) y x (filter (λ z. not (x.entry.caller == z.entry.caller)) (last_of_each xs)))
