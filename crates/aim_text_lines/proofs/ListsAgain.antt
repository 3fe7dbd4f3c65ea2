-- Reading gives back kinds of policies and lists of fates.
use Rattle.std.proofs.Common.{◌≡◌, ℕ, zero, suc, ◌-◌, ◌^◌, ◌<◌, ◌≤◌, ◌==◌, nat_le, true, false, not, List, [], ◌∷◌, ◌++◌, length, map, take, replicate, Ok, decimal, codes, refl, sym, ap, ◌∙◌, arith, inl, inr, append_assoc, append-nil, length-take-le}
use Rattle.std.specs.Prelude.{if◌then◌else◌}
use Rattle.std.specs.List.{list_all}
use Rattle.std.proofs.lemmas.Bool.{cases_Bool, and_parts, eqb-true, eq-eqb, leb-true}
use Rattle.std.proofs.lemmas.List.{take-append-drop}
use Rattle.aim_messages.specs.declared.script.FateList.{FateList}
use Rattle.aim_messages.specs.Texts.{Words}
use Rattle.aim_messages.specs.Lines.{fate_word, fate_words, kind_word, IsFateList}
use Rattle.aim_text_words.specs.Faults.{keyword, word_fault}
use Rattle.aim_text_lines.specs.Forms.{fate, kinds}
use Rattle.aim_text_words.specs.Reading.{unless}
use Rattle.aim_text_lines.specs.Reading.{kind_of, fate_of}
use Rattle.aim_text_words.specs.Steps.{read_in}
use Rattle.aim_text_lines.specs.Steps.{fates_in}
use Rattle.aim_text_words.proofs.NumberLaws.{number_good, value_decimal, decimal_number, number_begins, not_letter}

kinds_2 : (kind : ℕ) (ws : Words) → kind ≤ 2 → read_in (keyword (codes "fcfs" ∷ codes "emerg" ∷ codes "light" ∷ [])) kind_of (kind_word kind ∷ ws) ≡ Ok (kind, ws)
unfolding read_in
kinds_2 zero ws h = refl
kinds_2 (suc zero) ws h = refl
kinds_2 (suc (suc zero)) ws h = refl
kinds_2 (suc (suc (suc k))) ws h = absurd (omega arith)

kinds_3 : (kind : ℕ) (ws : Words) → kind ≤ 3 → read_in (keyword (codes "fcfs" ∷ codes "emerg" ∷ codes "light" ∷ codes "light-emerg" ∷ [])) kind_of (kind_word kind ∷ ws) ≡ Ok (kind, ws)
unfolding read_in
kinds_3 zero ws h = refl
kinds_3 (suc zero) ws h = refl
kinds_3 (suc (suc zero)) ws h = refl
kinds_3 (suc (suc (suc zero))) ws h = refl
kinds_3 (suc (suc (suc (suc k)))) ws h = absurd (omega arith)

pub kind_again : (version kind : ℕ) (ws : Words) → kind ≤ (if nat_le 3 version then 3 else 2) → read_in (kinds version) kind_of (kind_word kind ∷ ws) ≡ Ok (kind, ws)
kind_again version kind ws h = elim (cases_Bool (nat_le 3 version)) [
  | inl is ↦ rw is (kinds_3 kind ws (rw is at h))
  | inr not ↦ rw not (kinds_2 kind ws (rw not at h))
]

delay_again : (f : ℕ) → 1 ≤ f → f ≤ 255 → unless (fate_of (decimal f)) (word_fault fate (decimal f)) ≡ Ok f
delay_again f least most =
    let small : f < 2 ^ 64 = omega arith in
    let digit = number_begins (decimal f) (decimal_number f small) in
    let d = not_letter (decimal f) 100 [] digit (omega arith) in
    let l = not_letter (decimal f) 108 [] digit (omega arith) in
    let r = not_letter (decimal f) 114 [] digit (omega arith) in
    rw (d, l, r, digit, number_good 1 255 f least most small, value_decimal f small) refl

fate_again : (f : ℕ) → f ≤ 257 → unless (fate_of (fate_word f)) (word_fault fate (fate_word f)) ≡ Ok f
fate_again f most = elim (cases_Bool (f == 0)) [
  | inl d ↦ rw d (ap Ok (sym (eqb-true f 0 d)))
  | inr not_d ↦ elim (cases_Bool (f == 256)) [
    | inl l ↦ rw (not_d, l) (ap Ok (sym (eqb-true f 256 l)))
    | inr not_l ↦ elim (cases_Bool (f == 257)) [
      | inl r ↦ rw (not_d, not_l, r) (ap Ok (sym (eqb-true f 257 r)))
      | inr not_r ↦ rw (not_d, not_l, not_r) (delay_again f (positive f not_d) (delay f most not_l not_r))
    ]
  ]
]
  where
    positive : (f : ℕ) → (f == 0) ≡ false → 1 ≤ f
    positive zero h = absurd cc
    positive (suc f) h = omega arith

    apart : (a b : ℕ) → (a == b) ≡ false → a ≡ b → ⊥
    apart a b h is = cc (eq-eqb a b is, h)

    delay : (f : ℕ) → f ≤ 257 → (f == 256) ≡ false → (f == 257) ≡ false → f ≤ 255
    delay f most l r = let no_l = apart f 256 l in let no_r = apart f 257 r in omega (arith, no_l, no_r)

fates_each : (before fs : List ℕ) → list_all (λ f. nat_le f 257) fs ≡ true
    → fates_in before (map fate_word fs) ≡ Ok (record { fates = (before ++ fs) ++ replicate (64 - (length (before ++ fs))) 0; len = length (before ++ fs) })
unfolding fates_in
fates_each before [] all = rw (append-nil before) refl
fates_each before (f ∷ fs) all =
    let both = and_parts (nat_le f 257) (list_all (λ f. nat_le f 257) fs) all in
    rw (fate_again f (leb-true f 257 both.0)) (fates_each (before ++ f ∷ []) fs both.1 ∙ rw (append_assoc before (f ∷ []) fs) refl)

pub fates_again : (fs : FateList) → IsFateList fs → length fs.fates ≡ 64 → fates_in [] (fate_words fs) ≡ Ok fs
fates_again fs is size =
    let most = is.most in
    let len : length (take fs.len fs.fates) ≡ fs.len = length-take-le fs.len fs.fates (omega arith) in
    fates_each [] (take fs.len fs.fates) is.fates
    ∙ rw (len, sym is.rest, take-append-drop fs.len fs.fates) refl
