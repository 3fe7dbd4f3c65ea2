-- Words without a fault are spelled as their values.
use Rattle.std.proofs.Common.{◌≡◌, ℕ, ◌-◌, ◌<◌, ◌≤◌, ◌&&◌, ◌||◌, nat_lt, nat_le, Bool, true, false, not, List, [], ◌∷◌, ◌++◌, length, take, replicate, None, codes, refl, arith, inl, inr}
use Rattle.std.specs.Prelude.{bytes_eq, if◌then◌else◌}
use Rattle.std.specs.List.{list_all}
use Rattle.std.proofs.lemmas.Bool.{cases_Bool, and_parts, ltb-true, leb-true}
use Rattle.std.proofs.Math.Seq.{take-append_seam, drop-append_seam}
use Rattle.std.proofs.lemmas.List.{length-append, length-replicate}
use Rattle.aim_messages.specs.Texts.{Words}
use Rattle.aim_messages.specs.Lines.{kind_word, window_word, is_name_byte, name_word, IsName}
use Rattle.aim_text_words.specs.Faults.{name, first, is_name, is_one_of, keyword_fault, fault_at}
use Rattle.aim_text_lines.specs.Forms.{kinds, windows}
use Rattle.aim_text_lines.specs.Reading.{is_early, kind_of, name_of}
use Rattle.aim_text_words.proofs.Spelled.{keyword_allowed, meaning_back, meaning_last, two_back}

pub window_back : (ws : Words) → fault_at windows ws ≡ None → window_word (is_early (first ws)) ≡ first ws
window_back ws h = two_back (codes "early") (codes "start") (first ws) (swap (bytes_eq (first ws) (codes "early")) (bytes_eq (first ws) (codes "start")) (keyword_allowed (codes "early" ∷ codes "start" ∷ []) ws h))
  where
    swap : (a b : Bool) → (a || (b || false)) ≡ true → (b || (a || false)) ≡ true
    swap true true h = refl
    swap true false h = refl
    swap false true h = refl
    swap false false h = absurd cc

kind_rows : List (List ℕ × ℕ)
kind_rows = (codes "fcfs", 0) ∷ (codes "emerg", 1) ∷ (codes "light", 2) ∷ []

pub kind_back : (version : ℕ) (ws : Words) → fault_at (kinds version) ws ≡ None → kind_word (kind_of (first ws)) ≡ first ws
unfolding kind_rows
kind_back version ws h = elim (cases_Bool (nat_le 3 version)) [
  | inl is ↦ meaning_last kind_word kind_rows 3 (first ws) (refl, (refl, (refl, tt))) (keyword_allowed (codes "fcfs" ∷ codes "emerg" ∷ codes "light" ∷ codes "light-emerg" ∷ []) ws (rw is at h))
  | inr not ↦ meaning_back kind_word kind_rows 3 (first ws) (refl, (refl, (refl, tt))) (keyword_allowed (codes "fcfs" ∷ codes "emerg" ∷ codes "light" ∷ []) ws (rw not at h))
]

-- and its number is one of the version
pub kind_most : (version : ℕ) (ws : Words) → fault_at (kinds version) ws ≡ None → kind_of (first ws) ≤ (if nat_le 3 version then 3 else 2)
kind_most version ws h = elim (cases_Bool (nat_le 3 version)) [
  | inl is ↦ rw is (at_most_3 (first ws))
  | inr not ↦ rw not (at_most_2 (first ws) (keyword_allowed (codes "fcfs" ∷ codes "emerg" ∷ codes "light" ∷ []) ws (rw not at h)))
]
  where
    at_most_3 : (w : List ℕ) → kind_of w ≤ 3
    at_most_3 w = elim (cases_Bool (bytes_eq w (codes "fcfs"))) [
      | inl is ↦ rw is (omega arith)
      | inr not_0 ↦ rw not_0 (elim (cases_Bool (bytes_eq w (codes "emerg"))) [
        | inl is ↦ rw is (omega arith)
        | inr not_1 ↦ rw not_1 (elim (cases_Bool (bytes_eq w (codes "light"))) [
          | inl is ↦ rw is (omega arith)
          | inr not_2 ↦ rw not_2 (omega arith)
        ])
      ])
    ]

    at_most_2 : (w : List ℕ) → is_one_of (codes "fcfs" ∷ codes "emerg" ∷ codes "light" ∷ []) w ≡ true → kind_of w ≤ 2
    at_most_2 w h = elim (cases_Bool (bytes_eq w (codes "fcfs"))) [
      | inl is ↦ rw is (omega arith)
      | inr not_0 ↦ rw not_0 (elim (cases_Bool (bytes_eq w (codes "emerg"))) [
        | inl is ↦ rw is (omega arith)
        | inr not_1 ↦ rw not_1 (elim (cases_Bool (bytes_eq w (codes "light"))) [
          | inl is ↦ rw is (omega arith)
          | inr not_2 ↦ absurd (cc (rw (not_0, not_1, not_2) at h))
        ])
      ])
    ]

-- a name, and one of 1 to 16 bytes
pub name_is : (ws : Words) → fault_at name ws ≡ None → IsName (name_of (first ws)) × (length (name_of (first ws)).bytes ≡ 16) × (name_word (name_of (first ws)) ≡ first ws)
name_is [] h = absurd cc
name_is (w ∷ ws) h = parts (is_name_parts (is_name w) refl h)
  where
    is_name_parts : (b : Bool) → is_name w ≡ b → keyword_fault b ≡ None → is_name w ≡ true
    is_name_parts true e h = e
    is_name_parts false e h = absurd cc

    parts : is_name w ≡ true → IsName (name_of w) × (length (name_of w).bytes ≡ 16) × (name_word (name_of w) ≡ w)
    parts h =
        let both = and_parts (nat_lt 0 (length w) && nat_le (length w) 16) (list_all is_name_byte w) h in
        let lens = and_parts (nat_lt 0 (length w)) (nat_le (length w) 16) both.0 in
        let some : 0 < length w = ltb-true 0 (length w) lens.0 in
        let most : length w ≤ 16 = leb-true (length w) 16 lens.1 in
        let front : take (length w) (w ++ replicate (16 - length w) 0) ≡ w = take-append_seam w (replicate (16 - length w) 0) in (
          record {
            some = some;
            most = most;
            bytes = rw front both.1;
            rest = drop-append_seam w (replicate (16 - length w) 0);
          },
          omega (arith, length-append w (replicate (16 - length w) 0), length-replicate {A = ℕ} (16 - length w) 0),
          front,
        )
