-- No text has the end of a line in it.
use Rattle.std.proofs.Common.{ℕ, ◌<◌, ◌==◌, List, [], ◌∷◌, refl, ◌∙◌, arith}
use Rattle.std.specs.List.{list_all}
use Rattle.std.proofs.lemmas.Bool.{and_parts, ltb-true, ne_eqb}
use Rattle.std.proofs.lemmas.List.Folds.{list_any-append}
use Rattle.aim_messages.specs.Texts.{Words, spaced, IsOneLine}
use Rattle.aim_text_words.proofs.NumberLaws.{is_visible}
use Rattle.aim_text_words.proofs.WordLaws.{IsWord, AreWords}

word_ends_none : (w : List ℕ) → IsWord w → IsOneLine w
word_ends_none [] h = refl
word_ends_none (b ∷ w) h =
    let both = and_parts (is_visible b) (list_all is_visible w) h in
    let behind : 32 < b = ltb-true 32 b both.0 in
    rw (ne_eqb b 10 (λ is. absurd (omega (arith, is))), word_ends_none w both.1) refl

pub words_end_none : (ws : Words) → AreWords ws → IsOneLine (spaced ws)
words_end_none [] h = refl
words_end_none (w ∷ []) h = word_ends_none w h.0
words_end_none (w ∷ v ∷ ws) h =
    list_any-append (λ b. b == 10) w (32 ∷ spaced (v ∷ ws)) ∙ rw (word_ends_none w h.0) (words_end_none (v ∷ ws) h.1)
