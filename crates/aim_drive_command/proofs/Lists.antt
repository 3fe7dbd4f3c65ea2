-- What stands at a place of lists that are made of two.
use Rattle.std.proofs.Common.{◌≡◌, ◌<◌, ◌+◌, ℕ, zero, suc, List, [], ◌∷◌, ◌++◌, length, slice_get, refl, arith}
use Rattle.aim_messages.specs.declared.entries.Entry.{Entry}
use Rattle.aim_drive.specs.Places.{At}

pub get_within : {X : Type 0} (xs ys : List X) (k : ℕ) → k < length xs → slice_get (xs ++ ys) k ≡ slice_get xs k
get_within [] ys k l = absurd (omega arith)
get_within (x ∷ xs) ys zero l = refl
get_within (x ∷ xs) ys (suc k) l = get_within xs ys k (omega arith)

pub get_behind : {X : Type 0} (xs ys : List X) → slice_get (xs ++ ys) (length xs) ≡ slice_get ys 0
get_behind [] ys = refl
get_behind (x ∷ xs) ys = get_behind xs ys

pub right_none : {X : Type 0} (xs ys : List X) → xs ++ ys ≡ [] → ys ≡ []
right_none [] ys none = none
right_none (x ∷ xs) ys none = absurd (cc none)

pub heads : {X : Type 0} (x y : X) (xs ys : List X) → x ∷ xs ≡ y ∷ ys → x ≡ y
heads x y xs ys same = cc

pub tails : {X : Type 0} (x y : X) (xs ys : List X) → x ∷ xs ≡ y ∷ ys → xs ≡ ys
tails x y xs ys same = cc

-- an entry behind some others
pub at_behind : (before rest : List Entry) (k : ℕ) (e : Entry) → At rest k e → (p : ℕ) × (p ≡ length before + k) × At (before ++ rest) p e
at_behind [] rest k e at = (k, omega arith, at)
at_behind (x ∷ before) rest k e at =
    let r = at_behind before rest k e at in
    let s : r.0 ≡ length before + k = r.1 in
    (suc r.0, omega arith, r.2)
