-- Questions about the numbers below a bound and about elements of a list, for this crate and those above it. Of these
-- a public clause of this crate cites only `is_outside` and `ceil_div`.
use Rattle.std.specs.Prelude.{ℕ, suc, zero, ◌+◌, ◌/◌, ◌-◌, Bool, false, ◌||◌, List, [], ◌∷◌, Option, Some, None, min, max, if◌then◌else◌, find, reverse, ◌==◌, nat_lt}
use Rattle.std.specs.List.{list_any}
use Rattle.std.specs.Option.{option_or}

-- whether some number below n passes the test
abbrev pub some_below : ℕ → (ℕ → Bool) → Bool
some_below zero test = false
some_below (suc n) test = some_below n test || test n

-- the least number below n that passes the test
abbrev pub least_below : ℕ → (ℕ → Bool) → Option ℕ
least_below zero test = None
least_below (suc n) test = option_or (least_below n test) (if test n then Some n else None)

-- the last element that passes the test
abbrev pub last : {X : Type 0} → (X → Bool) → List X → Option X
last test xs = find test (reverse xs)

-- the lesser of the number and of the one that is there
abbrev pub min_with : ℕ → Option ℕ → ℕ
min_with x None = x
min_with x (Some y) = min x y

-- the least of the numbers
abbrev pub least : List ℕ → Option ℕ
least [] = None
least (x ∷ xs) = Some (min_with x (least xs))

-- a / b, rounded up
abbrev pub ceil_div : ℕ → ℕ → ℕ
ceil_div a b = (a + (b - 1)) / b

-- the greater of the number and of the one that is there
abbrev pub max_with : ℕ → Option ℕ → ℕ
max_with x None = x
max_with x (Some y) = max x y

-- the greatest of the numbers
abbrev pub greatest : List ℕ → Option ℕ
greatest [] = None
greatest (x ∷ xs) = Some (max_with x (greatest xs))

-- what the first element gives for which the function gives anything
abbrev pub find_map : {X Y : Type 0} → (X → Option Y) → List X → Option Y
find_map f [] = None
find_map f (x ∷ xs) = let later = find_map f xs in option_or (f x) later

-- the elements after the last that passes the test, or all where none does
abbrev pub since_last : {X : Type 0} → (X → Bool) → List X → List X
since_last test [] = []
since_last test (x ∷ xs) = if list_any test xs then since_last test xs else if test x then xs else x ∷ xs

-- whether n is none of the numbers 1 to most
abbrev pub is_outside : ℕ → ℕ → Bool
is_outside n most = n == 0 || nat_lt most n
