-- The rule holds when a turnstile is opened.
use Rattle.std.proofs.Common.{◌≡◌, ◌≢◌, ℕ, zero, suc, ◌+◌, ◌^◌, ◌<◌, ◌≤◌, List, [], ◌∷◌, length, get_or, refl, sym, ap, ◌∙◌, inl, arith, Some, Option, false, subst}
use Rattle.std.specs.Prelude.{AllPairs}
use mathlib.Core.Option.{some, some-ne-none, some-injective}
use mathlib.Core.Logic.{dite}
use native.Mathlib.Decide.{ℕ_discrete}
use lib.ListN.{get_elem?}
use Rattle.atomic_table.specs.Table.{opening}
use Rattle.aim_turnstile.specs.declared.view.View.{View}
use Rattle.aim_turnstile.specs.History.{entries_of}
use Rattle.aim_turnstile.specs.Turned.{Every, total, is, blank, opening_view, Fits, Meaning, Turned}
use Rattle.std.proofs.lemmas.List.{append-nil}
use Rattle.aim_turnstile.proofs.Totals.{is_self, is_none}
use Rattle.aim_turnstile.proofs.Steps.{none_some, off_on}

pub absent : (n : ℕ) (xs : List ℕ) → ((j : ℕ) → j < length xs → get_or xs j 0 ≢ n) → total (is n) xs ≡ 0
absent n [] h = refl
absent n (x ∷ xs) h = let here = h 0 (omega arith) in omega (arith, is_none n x here, absent n xs (λ j b. h (suc j) (omega arith)))

once : (xs : List ℕ) → AllPairs (λ m n. m ≢ n) xs → (n : ℕ) → total (is n) xs ≤ 1
once [] h n = omega arith
once (x ∷ xs) h n = dite (ℕ_discrete x n) (λ e. omega (arith, is_self n x e, absent n xs (λ j b s. h 0 (suc j) 0 (omega arith) (omega arith) (e ∙ sym s)))) (λ e. omega (arith, is_none n x e, once xs (λ i j d a b. h (suc i) (suc j) d (omega arith) (omega arith)) n))

blank_total : (E : Type 0) (f : ℕ → ℕ) (ns : List ℕ) → total (λ (c : ℕ × List E). f c.0) (blank ns) ≡ total f ns
blank_total E f [] = refl
blank_total E f (n ∷ ns) = ap (λ k. f n + k) (blank_total E f ns)

blank_none : {E : Type 0} (caller_of : E → ℕ) (ns : List ℕ) → Every (λ c. entries_of caller_of c.0 [] ≡ c.1) (blank ns)
blank_none caller_of [] = tt
blank_none caller_of (n ∷ ns) = (refl, blank_none caller_of ns)

opens : {K S E : Type 0} (M : Meaning K S E) (s : S) (numbers : List ℕ) (k : K) → M.setting k ≡ s → M.entries k ≡ [] → M.is_lawful s [] → length numbers < 2 ^ 64 → AllPairs (λ m n. m ≢ n) numbers
    → Turned M s numbers (opening (0 ∷ 0 ∷ 0 ∷ []) (Some k ∷ []) (opening_view s numbers))
opens {K} {S} {E} M s numbers k set empty fit few distinct = record {
  log = [];
  serving = 0;
  words = refl;
  longest = (0, first_view, refl, refl);
  lawful = fit;
  few = few;
  distinct = once numbers distinct;
  places = λ f. omega (arith, blank_total E f numbers, ap (total (λ (c : ℕ × List E). f c.0)) (append-nil (blank {E = E} numbers)));
  strangers = λ n e. refl;
  each = one;
  apart = λ i j v w t e d f g. absurd (idle i v t e f);
  drawn = λ t a b. absurd (omega (arith, a, b));
  slot = inl (k, refl, set, empty, off);
}
  where
    first_view : View S E
    first_view = opening_view s numbers

    idle : (i : ℕ) (v : View S E) (t : ℕ) → get_elem? (opening_view {E = E} s numbers ∷ []) i ≡ some v → v.ticket ≡ Some t → ⊥
    idle zero v t e f = none_some (ap (λ (y : View S E). y.ticket) (some-injective _ _ e) ∙ f)
    idle (suc i) v t e f = some-ne-none v (sym e)

    off : (i : ℕ) (v : View S E) → get_elem? (opening_view {E = E} s numbers ∷ []) i ≡ some v → v.turn ≡ false
    off zero v e = sym (ap (λ (y : View S E). y.turn) (some-injective _ _ e))
    off (suc i) v e = absurd (some-ne-none v (sym e))

    one : (i : ℕ) (v : View S E) → get_elem? (opening_view {E = E} s numbers ∷ []) i ≡ some v → Fits M.caller_of s numbers [] 0 (0 + 0) v
    one zero v e = subst (Fits M.caller_of s numbers [] 0 (0 + 0)) (some-injective _ _ e) record {
      opened = inl (refl, refl);
      seen = ([], refl);
      olds = tt;
      claimed = subst (Every (λ c. entries_of M.caller_of c.0 [] ≡ c.1)) (sym (append-nil (blank numbers))) (blank_none M.caller_of numbers);
      own_seen = λ n f. absurd (none_some f);
      ticket = λ t f. absurd (none_some f);
      turn = λ on. absurd (off_on refl on);
    }
    one (suc i) v e = absurd (some-ne-none v (sym e))

pub opens_as : {K S E : Type 0} (M : Meaning K S E) (k k' : K) (numbers numbers' : List ℕ) (slots : List (Option K)) → k' ≡ k → numbers' ≡ numbers → slots ≡ Some k ∷ [] → M.entries k ≡ [] → M.is_lawful (M.setting k) [] → length numbers < 2 ^ 64 → AllPairs (λ m n. m ≢ n) numbers
    → Turned M (M.setting k') numbers' (opening (0 ∷ 0 ∷ 0 ∷ []) slots (opening_view (M.setting k') numbers'))
opens_as {K} {S} {E} M k k' numbers numbers' slots a b c empty fit few distinct =
    subst (λ (t : K × List ℕ × List (Option K)). Turned M (M.setting t.0) t.1 (opening (0 ∷ 0 ∷ 0 ∷ []) t.2 (opening_view {E = E} (M.setting t.0) t.1))) (λ i. (sym a i, sym b i, sym c i))
    (opens M (M.setting k) numbers k refl empty fit few distinct)
