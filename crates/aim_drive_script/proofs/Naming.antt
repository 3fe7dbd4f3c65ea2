-- Names and their numbers.
use Rattle.std.proofs.Common.{◌≡◌, ℕ, ◌+◌, suc, Bool, true, false, not, nat_lt, ◌||◌, cond, List, [], ◌∷◌, length, Some, None, refl, ◌∙◌, arith}
use Rattle.std.specs.Prelude.{bytes_eq, position, is_some}
use Rattle.std.specs.List.{list_any, position_or_len}
use Rattle.std.proofs.lemmas.Bool.Decides.{nat_tests}
use Rattle.aim_messages.specs.Lines.{name_word}
use Rattle.aim_messages.specs.declared.script.Name.{Name}
use Rattle.aim_messages.specs.declared.script.Line.{Line}
use Rattle.aim_messages.specs.declared.script.Line.TheVariants as line
use Rattle.aim_script.specs.declared.decisions.Kind.TheVariants as kind
use Rattle.aim_script.specs.Said.{names_of}
use Rattle.aim_drive_script.specs.Kinds.{is_bad_order}
use Rattle.aim_drive_script.specs.Drafts.{fault_in_order, kind_if}

-- an element is found exactly where one passes
pub any_is : {X : Type 0} (p : X → Bool) (xs : List X) → list_any p xs ≡ nat_lt (position_or_len p xs) (length xs)
any_is p [] = refl
any_is p (x ∷ xs) = go (p x) (any_is p xs)
  where
    first : (n : ℕ) → true ≡ nat_lt 0 (suc n)
    first n = grind (arith, nat_tests)

    shift : (a b : ℕ) → nat_lt a b ≡ nat_lt (1 + a) (suc b)
    shift a b = grind (arith, nat_tests)

    go : (b : Bool) → list_any p xs ≡ nat_lt (position_or_len p xs) (length xs) → (b || list_any p xs) ≡ nat_lt (cond (not b) (1 + position_or_len p xs) 0) (suc (length xs))
    go true is = first (length xs)
    go false is = is ∙ shift (position_or_len p xs) (length xs)

-- a name is there exactly where it has a number
pub has_number : (name : List ℕ) (names : List (List ℕ)) → list_any (bytes_eq name) names ≡ is_some (position (bytes_eq name) names)
has_number name names = any_is (bytes_eq name) names ∙ there (nat_lt (position_or_len (bytes_eq name) names) (length names))
  where
    there : (b : Bool) → b ≡ is_some (cond b (Some (position_or_len (bytes_eq name) names)) None)
    there true = refl
    there false = refl

-- the kind of a switch to a name that has no number, or that has one
pub unnamed : (before : List Line) (names : List (List ℕ)) (moment : ℕ) (name : Name) → names_of before ≡ names → is_some (position (bytes_eq (name_word name)) names) ≡ false → Some kind.Policy ≡ fault_in_order before (line.SwitchTo moment name)
unnamed before names moment name given missing =
    let e : list_any (bytes_eq (name_word name)) names ≡ false = has_number (name_word name) names ∙ missing in
    rw (given, e) refl

pub has_name : (before : List Line) (names : List (List ℕ)) (moment : ℕ) (name : Name) → names_of before ≡ names → is_some (position (bytes_eq (name_word name)) names) ≡ true
    → kind_if (is_bad_order before moment) kind.Moment ≡ fault_in_order before (line.SwitchTo moment name)
has_name before names moment name given there =
    let e : list_any (bytes_eq (name_word name)) names ≡ true = has_number (name_word name) names ∙ there in
    rw (given, e) refl
