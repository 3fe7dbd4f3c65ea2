-- The tickets of a quadrant, as sums of a function of them.
use Rattle.std.proofs.Common.{◌≡◌, ◌≢◌, ℕ, zero, suc, ◌+◌, ◌%◌, ◌^◌, ◌<◌, ◌≤◌, List, length, set, refl, sym, ap, ◌∙◌, arith}
use Rattle.std.proofs.lemmas.Bool.Decides.{nat_tests}
use Rattle.std.proofs.lemmas.List.{get_or-set_same, get_or-set_other}
use mathlib.Core.Logic.{dite}
use native.Mathlib.Decide.{ℕ_discrete, dec_le}
use Rattle.std.specs.Prelude.{slice_index}
use Rattle.aim_shards.specs.Sums.{is, at, below}
use Rattle.aim_shards.proofs.Totals.{is_self, is_none}

pub at_self : (q p k : ℕ) → p ≡ q → at q p k ≡ k
at_self q p k e = grind (arith, nat_tests)

pub at_other : (q p k : ℕ) → p ≢ q → at q p k ≡ 0
at_other q p k ne = grind (arith, nat_tests)

pub at_le : (q p k : ℕ) → at q p k ≤ k
at_le q p k = dite (ℕ_discrete p q) (λ e. omega (arith, at_self q p k e)) (λ ne. omega (arith, at_other q p k ne))

pub next_of_suc : (n : ℕ) → n + 1 ≡ suc n
next_of_suc n = omega arith

pub none_more : (n : ℕ) → n + 0 ≡ n
none_more n = omega arith

pub below_more : (h : ℕ → ℕ) (n : ℕ) → below h (n + 1) ≡ below h n + h n
below_more h n = ap (below h) (next_of_suc n)

-- one ticket more at the quadrant q
pub below_up : (h f : ℕ → ℕ) (q p : ℕ) → below h (f p + is q p) ≡ below h (f p) + at p q (h (f q))
below_up h f q p =
    dite (ℕ_discrete p q)
    (λ e. ap (λ k. below h (f p + k)) (is_self q p e) ∙ (below_more h (f p) ∙ ap (λ k. below h (f p) + k) (ap (λ j. h (f j)) e ∙ sym (at_self p q (h (f q)) (sym e)))))
    (λ ne. ap (λ k. below h (f p + k)) (is_none q p ne) ∙ (ap (below h) (none_more (f p)) ∙ (sym (none_more (below h (f p))) ∙ ap (λ k. below h (f p) + k) (sym (at_other p q (h (f q)) (λ e. ne (sym e)))))))

pub below_one : (n : ℕ) → below (λ _. 1) n ≡ n
below_one zero = refl
below_one (suc n) = omega (arith, below_one n)

pub below_past : (t n : ℕ) → n ≤ t → below (is t) n ≡ 0
below_past t zero le = refl
below_past t (suc n) le = omega (arith, below_past t n (omega arith), is_none t n (λ e. omega arith))

pub below_in : (t n : ℕ) → t < n → below (is t) n ≡ 1
below_in t zero lt = absurd (omega arith)
below_in t (suc n) lt =
    dite (ℕ_discrete n t)
    (λ e. omega (arith, below_past t n (omega (arith, e)), is_self t n e))
    (λ ne. omega (arith, below_in t n (omega (arith, ne)), is_none t n ne))

pub below_le : (t n : ℕ) → below (is t) n ≤ 1
below_le t n = dite (dec_le n t) (λ le. omega (arith, below_past t n le)) (λ lt. omega (arith, below_in t n (omega (arith, lt))))

-- a ticket that is drawn and not yet passed
pub ticket_in : (t a b k : ℕ) → 1 ≤ k → k + below (is t) a ≡ below (is t) b → (a ≤ t) × (t < b)
ticket_in t a b k some e = (
  dite (dec_le a t) (λ le. le) (λ lt. absurd (omega (arith, below_in t a (omega (arith, lt)), below_le t b))),
  dite (dec_le b t) (λ le. absurd (omega (arith, below_past t b le))) (λ lt. omega (arith, lt)),
)

pub up : (a : ℕ) → (a % 2 ^ 64 + 1) % 2 ^ 64 ≡ (a + 1) % 2 ^ 64
up a = omega arith

-- a word that counts up
pub word_up : (ws : List ℕ) (i j : ℕ) (f : ℕ → ℕ) → i < length ws → slice_index ws i ≡ f i % 2 ^ 64 → slice_index ws j ≡ f j % 2 ^ 64 → slice_index (set ws i ((slice_index ws i + 1) % 2 ^ 64)) j ≡ (f j + is i j) % 2 ^ 64
word_up ws i j f lt here there =
    dite (ℕ_discrete j i)
    (λ e. ap (slice_index (set ws i ((slice_index ws i + 1) % 2 ^ 64))) e ∙ (get_or-set_same ws i ((slice_index ws i + 1) % 2 ^ 64) 0 lt ∙ (ap (λ k. (k + 1) % 2 ^ 64) here ∙ (up (f i) ∙ (ap (λ k. (f k + 1) % 2 ^ 64) (sym e) ∙ ap (λ k. (f j + k) % 2 ^ 64) (sym (is_self i j e)))))))
    (λ ne. get_or-set_other ws i j ((slice_index ws i + 1) % 2 ^ 64) 0 ne ∙ (there ∙ (ap (λ k. k % 2 ^ 64) (sym (none_more (f j))) ∙ ap (λ k. (f j + k) % 2 ^ 64) (sym (is_none i j ne)))))
