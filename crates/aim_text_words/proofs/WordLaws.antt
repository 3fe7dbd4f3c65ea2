-- Words have no space, so a text is split into the words that it was made of.
use Rattle.std.proofs.Common.{◌≡◌, ℕ, ◌<◌, true, false, ◌==◌, List, [], ◌∷◌, ◌++◌, refl, ap, ◌∙◌, arith}
use Rattle.std.specs.List.{list_all}
use Rattle.std.proofs.lemmas.Bool.{and_parts, ltb-true, ne_eqb}
use Rattle.aim_messages.specs.Texts.{Words, spaced}
use Rattle.aim_text_words.specs.Faults.{words_of}
use Rattle.aim_text_words.proofs.NumberLaws.{is_visible}

-- a word without a space, and without the end of a line
abbrev pub IsWord : List ℕ → Type 0
IsWord w = list_all is_visible w ≡ true

abbrev pub AreWords : Words → Type 0
AreWords [] = Unit {0}
AreWords (w ∷ ws) = IsWord w × AreWords ws

no_space_first : (b : ℕ) (w : List ℕ) → IsWord (b ∷ w) → (b == 32) ≡ false
no_space_first b w h =
    let behind : 32 < b = ltb-true 32 b (and_parts (is_visible b) (list_all is_visible w) h).0 in
    ne_eqb b 32 (λ is. absurd (omega (arith, is)))

no_space_rest : (b : ℕ) (w : List ℕ) → IsWord (b ∷ w) → IsWord w
no_space_rest b w h = (and_parts (is_visible b) (list_all is_visible w) h).1

word_only : (w : List ℕ) → IsWord w → words_of w ≡ w ∷ []
word_only [] h = refl
word_only (b ∷ w) h = rw (no_space_first b w h, word_only w (no_space_rest b w h)) refl

word_then : (w more : List ℕ) → IsWord w → words_of (w ++ 32 ∷ more) ≡ w ∷ words_of more
word_then [] more h = refl
word_then (b ∷ w) more h = rw (no_space_first b w h, word_then w more (no_space_rest b w h)) refl

-- splitting undoes joining
pub words_spaced : (w : List ℕ) (ws : Words) → AreWords (w ∷ ws) → words_of (spaced (w ∷ ws)) ≡ w ∷ ws
words_spaced w [] h = word_only w h.0
words_spaced w (v ∷ ws) h = word_then w (spaced (v ∷ ws)) h.0 ∙ ap (λ (xs : Words). w ∷ xs) (words_spaced v ws h.1)

pub words_append : (vs ws : Words) → AreWords vs → AreWords ws → AreWords (vs ++ ws)
words_append [] ws v w = w
words_append (x ∷ vs) ws v w = (v.0, words_append vs ws v.1 w)
