-- Where a crossing is granted, no other vehicle holds a cell of it.
use Rattle.std.proofs.Common.{◌≡◌, ℕ, Bool, true, false, cond, ◌&&◌, not, List, [], ◌∷◌, Option, Some, None, refl, inl, inr}
use Rattle.std.specs.Prelude.{find, option_map, ◌==◌}
use Rattle.std.specs.Option.{option_or}
use Rattle.aim_messages.specs.declared.messages.Params.{Params}
use Rattle.aim_messages.specs.declared.replies.Reason.TheVariants as reason
use Rattle.aim_messages.specs.declared.entries.Entry.{Entry}
use Rattle.aim_geometry.specs.Bounded.{find_map}
use Rattle.aim_layout.specs.Intersection.{Intersection}
use Rattle.aim_geometry.specs.Cells.{Cell}
use Rattle.aim_rules.specs.Cells.{IsIn}
use Rattle.aim_rules.specs.Trials.{Trial, trial_cells}
use Rattle.aim_rules.specs.Claims.{green}
use Rattle.aim_rules.specs.History.{Fresh, fresh, now_of}
use Rattle.aim_rules.specs.Holds.{reservations, taken_by, is_granted}
use Rattle.aim_rules.specs.Answer.{blocked_by, first_blocked}
use Rattle.aim_rules.specs.Known.{known_after}

pub first_none : {Y : Type 0} (a b : Option Y) → option_or a b ≡ None → (a ≡ None) × (b ≡ None)
first_none None b h = (refl, h)
first_none (Some y) b h = absurd (cc)

pub map_none : {X Y : Type 0} (f : X → Y) (o : Option X) → option_map f o ≡ None → o ≡ None
map_none f None h = refl
map_none f (Some x) h = absurd (cc)

pub find_none : {X : Type 0} (p : X → Bool) (x : X) (xs : List X) → find p (x ∷ xs) ≡ None → (p x ≡ false) × (find p xs ≡ None)
find_none p x xs h = go (p x) refl h
  where
    go : (b : Bool) → p x ≡ b → cond b (Some x) (find p xs) ≡ None → (p x ≡ false) × (find p xs ≡ None)
    go true e h = absurd (cc)
    go false e h = (e, h)

pub find_map-each : {X Y : Type 0} (f : X → Option Y) (xs : List X) (x : X) → find_map f xs ≡ None → IsIn x xs → f x ≡ None
find_map-each f [] x h m = absurd m
find_map-each f (y ∷ xs) x h (inl e) = rw e (first_none (f y) (find_map f xs) h).0
find_map-each f (y ∷ xs) x h (inr m) = find_map-each f xs x (first_none (f y) (find_map f xs) h).1 m

pub find-each : {X : Type 0} (p : X → Bool) (xs : List X) (x : X) → find p xs ≡ None → IsIn x xs → p x ≡ false
find-each p [] x h m = absurd m
find-each p (y ∷ xs) x h (inl e) = rw e (find_none p y xs h).0
find-each p (y ∷ xs) x h (inr m) = find-each p xs x (find_none p y xs h).1 m

-- Where a crossing is granted, no other vehicle holds a cell of it.
pub free-disjoint : (i : Intersection) (h : List Entry) (v moment : ℕ) (p : Params) (t : Trial) (c : Cell) (x : Fresh) → first_blocked i (known_after i h v moment) p t ≡ None → IsIn c (trial_cells i p t) →
    IsIn x (reservations i (fresh h) (now_of h moment)) → ((x.entry.caller == v) ≡ false) → is_granted i x c ≡ false
free-disjoint i h v moment p t c x none m n other =
    let rs = reservations i (fresh h) (now_of h moment) in
    let b = find_map-each (blocked_by i (known_after i h v moment) p) (trial_cells i p t) c none m in
    let y = (first_none (option_map (λ lane. reason.Green c.row c.col c.step lane) (green i h c p.lane)) (option_map (λ by. reason.Taken c.row c.col c.step by) (taken_by rs i v c)) b).1 in
    let f = map_none (λ x. x.entry.caller) (find (λ x. not (x.entry.caller == v) && is_granted i x c) rs) (map_none (λ by. reason.Taken c.row c.col c.step by) (taken_by rs i v c) y) in
    let e = find-each (λ x. not (x.entry.caller == v) && is_granted i x c) rs x f n in
    rw other at e
