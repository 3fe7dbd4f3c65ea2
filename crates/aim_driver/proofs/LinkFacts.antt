-- Small facts of tests and options.
use Rattle.std.proofs.Common.{◌≡◌, ℕ, ◌≤◌, true, false, nat_le, Some, None, arith}
use Rattle.std.proofs.lemmas.Bool.Decides.{nat_tests}

pub true_le : (a b : ℕ) → nat_le a b ≡ true → a ≤ b
true_le a b h = grind (arith, nat_tests)

pub never : {A : Type 0} → true ≡ false → A
never p = absurd (cc)

pub some_is : {A : Type 0} (x y : A) → Some x ≡ Some y → x ≡ y
some_is x y p = cc

pub none_some : {A B : Type 0} (x : A) → None ≡ Some x → B
none_some x p = absurd (cc)
