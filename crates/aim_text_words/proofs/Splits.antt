-- The first word of a text, by the place of its first space.
use Rattle.std.proofs.Common.{◌≡◌, ◌≢◌, ℕ, zero, suc, ◌+◌, ◌-◌, ◌<◌, List, [], ◌∷◌, length, take, drop, get_or, refl, arith, add-one, ◌==◌, count_by}
use Rattle.std.proofs.lemmas.List.{take_rest}
use Rattle.std.proofs.lemmas.Bool.{ne_eqb, eq-eqb}
use Rattle.std.proofs.lemmas.List.Splits.{length-slice_split}
use Rattle.aim_text_words.specs.Faults.{words_of}

-- one word more than spaces
pub words_counted : (bytes : List ℕ) → length (words_of bytes) ≡ count_by (λ b. b == 32) bytes + 1
words_counted bytes = length-slice_split (λ b. b == 32) bytes

-- no space: one word
pub word_alone : (bytes : List ℕ) → ((k : ℕ) → k < length bytes → get_or bytes k 0 ≢ 32) → words_of bytes ≡ bytes ∷ []
word_alone [] none = refl
word_alone (b ∷ bytes) none =
    let first = ne_eqb b 32 (none 0 (omega arith)) in
    let rest = word_alone bytes (λ k below. none (suc k) (omega arith)) in
    rw (first, rest) refl

-- the first space ends the first word
word_more : (bytes : List ℕ) (i : ℕ) → ((k : ℕ) → k < i → get_or bytes k 0 ≢ 32) → i < length bytes → get_or bytes i 0 ≡ 32
    → words_of bytes ≡ take i bytes ∷ words_of (drop (suc i) bytes)
word_more [] i none within is = absurd (omega arith)
word_more (b ∷ bytes) zero none within is = rw (eq-eqb b 32 is) refl
word_more (b ∷ bytes) (suc i) none within is =
    let first = ne_eqb b 32 (none 0 (omega arith)) in
    let rest = word_more bytes i (λ k below. none (suc k) (omega arith)) (omega arith) is in
    rw (first, rest) refl

pub word_before : (bytes : List ℕ) (i : ℕ) → ((k : ℕ) → k < i → get_or bytes k 0 ≢ 32) → i < length bytes → get_or bytes i 0 ≡ 32
    → words_of bytes ≡ take i bytes ∷ words_of (take (length bytes - (i + 1)) (drop (i + 1) bytes))
word_before bytes i none within is = rw (take_rest bytes (i + 1), add-one i) (word_more bytes i none within is)
