-- A text tells its history.
use Rattle.std.proofs.Common.{◌≡◌, ℕ, ◌≤◌, ◌==◌, Bool, true, false, List, [], ◌∷◌, ◌++◌, length, decimal, refl, sym, ap, ◌∙◌, subst, arith, append_assoc}
use Rattle.std.specs.List.{list_any}
use Rattle.std.proofs.lemmas.Bool.{or_parts, and_parts, leb-true}
use Rattle.std.proofs.lemmas.List.Elements.{All-head, All-tail}
use Rattle.std.proofs.lemmas.Fmt.{decimal_injective}
use Rattle.aim_messages.specs.Texts.{spaced, IsOneLine}
use Rattle.aim_text_words.specs.Faults.{first, rest, words_of, begins_with_digit}
use Rattle.aim_text_words.specs.Ranges.{Is32}
use Rattle.aim_text_words.proofs.NumberLaws.{decimal_number, number_begins}
use Rattle.aim_text_words.proofs.WordLaws.{AreWords, words_spaced}
use Rattle.aim_text_words.proofs.MessageWords.{w32}
use Rattle.aim_text_words.proofs.OneLine.{words_end_none}
use Rattle.aim_shards.specs.declared.claims.ClaimAct.{ClaimAct}
use Rattle.aim_shards.specs.declared.claims.ClaimAct.TheVariants as act
use Rattle.aim_shards.specs.declared.claims.ClaimEntry.{ClaimEntry}
use Rattle.aim_shards_command.specs.ClaimTexts.{printed}
use Rattle.aim_shards_command.specs.Texts.{act_words, answer_word, claim_line, claim_lines, claim_words, end_words, history_text}
use Rattle.aim_shards_command.specs.Told.{AreTold, IsAct, IsTold}

-- bytes are split at the end of a line in one way

ends : (b : ℕ) (bs : List ℕ) → 10 ≡ b → IsOneLine (b ∷ bs) → ⊥
ends b bs is one =
    let not : (b == 10) ≡ false = (or_parts (b == 10) (list_any (λ c. c == 10) bs) one).0 in
    let same : (10 == 10) ≡ false = ap (λ c. c == 10) is ∙ not in
    absurd cc

split : (xs ys more others : List ℕ) → IsOneLine xs → IsOneLine ys → xs ++ 10 ∷ more ≡ ys ++ 10 ∷ others → (xs ≡ ys) × (more ≡ others)
split [] [] more others a b e = (refl, cc)
split [] (y ∷ ys) more others a b e = absurd (ends y ys (cc) b)
split (x ∷ xs) [] more others a b e = absurd (ends x xs (cc) a)
split (x ∷ xs) (y ∷ ys) more others a b e =
    let same : x ≡ y = cc in
    let tails : xs ++ 10 ∷ more ≡ ys ++ 10 ∷ others = cc in
    let both = split xs ys more others (or_parts (x == 10) (list_any (λ c. c == 10) xs) a).1 (or_parts (y == 10) (list_any (λ c. c == 10) ys) b).1 tails in
    ((λ i. same i ∷ both.0 i), both.1)

next_line : (s t lines lines' more others : List ℕ) → IsOneLine s → IsOneLine t → (printed s ++ lines) ++ more ≡ (printed t ++ lines') ++ others → (s ≡ t) × (lines ++ more ≡ lines' ++ others)
next_line s t lines lines' more others a b e =
    split s t (lines ++ more) (lines' ++ others) a b (sym (behind s lines more) ∙ e ∙ behind t lines' others)
  where
    behind : (s lines more : List ℕ) → (printed s ++ lines) ++ more ≡ s ++ 10 ∷ (lines ++ more)
    behind s lines more = append_assoc (printed s) lines more ∙ append_assoc s (10 ∷ []) (lines ++ more)

-- the first byte of an entry's line is a digit, and that of the last line is none

abbrev Begins : (ℕ → Type 0) → List ℕ → Type 0
Begins P [] = ⊥
Begins P (b ∷ bs) = P b

begins_so : (P : ℕ → Type 0) (xs ys : List ℕ) → Begins P xs → Begins P (xs ++ ys)
begins_so P [] ys h = absurd h
begins_so P (x ∷ xs) ys h = h

number_low : (n : ℕ) → Is32 n → Begins (λ b. b ≤ 57) (decimal n)
number_low n small = low (decimal n) (number_begins (decimal n) (decimal_number n (omega arith)))
  where
    low : (w : List ℕ) → begins_with_digit w ≡ true → Begins (λ b. b ≤ 57) w
    low [] h = absurd cc
    low (b ∷ bs) h = leb-true b 57 (and_parts _ _ h).1

entry_low : (e : ClaimEntry) (lines more : List ℕ) → Is32 e.ticket → Begins (λ b. b ≤ 57) ((claim_line e ++ lines) ++ more)
entry_low e lines more small =
    let P : ℕ → Type 0 = λ b. b ≤ 57 in
    begins_so P (claim_line e ++ lines) more (begins_so P (claim_line e) lines
    (begins_so P (spaced (claim_words e)) (10 ∷ []) (begins_so P (decimal e.ticket) (32 ∷ spaced (rest (claim_words e))) (number_low e.ticket small))))

not_last : (n : ℕ) → Begins (λ b. b ≤ 57) (printed (spaced (end_words n))) → ⊥
not_last n low = absurd (omega (arith, low))

-- the words of an entry

entry_are_words : (ticket caller : ℕ) (a : ClaimAct) (granted : Bool) → Is32 ticket → Is32 caller → IsAct a → AreWords (decimal ticket ∷ decimal caller ∷ (act_words a ++ answer_word granted ∷ []))
entry_are_words ticket caller (act.Claim set) true a b c = (w32 ticket a, (w32 caller b, (refl, (w32 set c, (refl, tt)))))
entry_are_words ticket caller (act.Claim set) false a b c = (w32 ticket a, (w32 caller b, (refl, (w32 set c, (refl, tt)))))
entry_are_words ticket caller (act.Free of) true a b c = (w32 ticket a, (w32 caller b, (refl, (w32 of c, (refl, tt)))))
entry_are_words ticket caller (act.Free of) false a b c = (w32 ticket a, (w32 caller b, (refl, (w32 of c, (refl, tt)))))

words_are : (e : ClaimEntry) → IsTold e → AreWords (claim_words e)
words_are e t = entry_are_words e.ticket e.caller e.act e.yes t.ticket t.caller t.does

words_back : (e : ClaimEntry) → IsTold e → words_of (spaced (claim_words e)) ≡ claim_words e
words_back e t = words_spaced _ _ (words_are e t)

number_alone : (m n : ℕ) → Is32 m → Is32 n → decimal m ≡ decimal n → m ≡ n
number_alone m n a b e = decimal_injective m n (omega arith) (omega arith) e

-- what stands behind the numbers of an entry

act_alone : (a b : ClaimAct) (x y : Bool) → IsAct a → IsAct b → act_words a ++ answer_word x ∷ [] ≡ act_words b ++ answer_word y ∷ [] → a ≡ b
act_alone (act.Claim m) (act.Claim n) x y small low e = let same = number_alone m n small low (ap (λ ws. first (rest ws)) e) in λ i. act.Claim (same i)
act_alone (act.Free m) (act.Free n) x y small low e = let same = number_alone m n small low (ap (λ ws. first (rest ws)) e) in λ i. act.Free (same i)
act_alone (act.Claim m) (act.Free n) x y small low e = let l : ◌≡◌ {A = ℕ} 5 4 = ap (λ ws. length (first ws)) e in absurd (omega (arith, l))
act_alone (act.Free m) (act.Claim n) x y small low e = let l : ◌≡◌ {A = ℕ} 4 5 = ap (λ ws. length (first ws)) e in absurd (omega (arith, l))

answer_alone : (x y : Bool) → answer_word x ≡ answer_word y → x ≡ y
answer_alone true true e = refl
answer_alone false false e = refl
answer_alone true false e = let l : ◌≡◌ {A = ℕ} 3 2 = ap (λ (w : List ℕ). length w) e in absurd (omega (arith, l))
answer_alone false true e = let l : ◌≡◌ {A = ℕ} 2 3 = ap (λ (w : List ℕ). length w) e in absurd (omega (arith, l))

last_word : (a : ClaimAct) (granted : Bool) → first (rest (rest (act_words a ++ answer_word granted ∷ []))) ≡ answer_word granted
last_word (act.Claim n) granted = refl
last_word (act.Free n) granted = refl

entry_alone : (e f : ClaimEntry) → IsTold e → IsTold f → claim_words e ≡ claim_words f → e ≡ f
entry_alone e f x y same =
    let ticket = number_alone e.ticket f.ticket x.ticket y.ticket (ap first same) in
    let caller = number_alone e.caller f.caller x.caller y.caller (ap (λ ws. first (rest ws)) same) in
    let behind : act_words e.act ++ answer_word e.yes ∷ [] ≡ act_words f.act ++ answer_word f.yes ∷ [] = ap (λ ws. rest (rest ws)) same in
    let does = act_alone e.act f.act e.yes f.yes x.does y.does behind in
    let granted = answer_alone e.yes f.yes (sym (last_word e.act e.yes) ∙ ap (λ ws. first (rest (rest ws))) behind ∙ last_word f.act f.yes) in
    λ i. record { ticket = ticket i; caller = caller i; act = does i; yes = granted i }

line_one : (e : ClaimEntry) → IsTold e → IsOneLine (spaced (claim_words e))
line_one e t = words_end_none (claim_words e) (words_are e t)

lines_told : (log other : List ClaimEntry) (n m : ℕ) → AreTold log → AreTold other → claim_lines log ++ printed (spaced (end_words n)) ≡ claim_lines other ++ printed (spaced (end_words m)) → log ≡ other
lines_told [] [] n m a b e = refl
lines_told [] (f ∷ fs) n m a b e = absurd (not_last n (subst (Begins (λ b. b ≤ 57)) (sym e) (entry_low f (claim_lines fs) (printed (spaced (end_words m))) (All-head IsTold f fs b).ticket)))
lines_told (e ∷ es) [] n m a b same = absurd (not_last m (subst (Begins (λ b. b ≤ 57)) same (entry_low e (claim_lines es) (printed (spaced (end_words n))) (All-head IsTold e es a).ticket)))
lines_told (e ∷ es) (f ∷ fs) n m a b same =
    let x = All-head IsTold e es a in
    let y = All-head IsTold f fs b in
    let line = next_line (spaced (claim_words e)) (spaced (claim_words f)) (claim_lines es) (claim_lines fs) (printed (spaced (end_words n))) (printed (spaced (end_words m))) (line_one e x) (line_one f y) same in
    let one = entry_alone e f x y (sym (words_back e x) ∙ ap words_of line.0 ∙ words_back f y) in
    let behind = lines_told es fs n m (All-tail IsTold e es a) (All-tail IsTold f fs b) line.1 in
    λ i. one i ∷ behind i

-- two histories with one text are one
pub history_told : (log other : List ClaimEntry) → AreTold log → AreTold other → history_text log ≡ history_text other → log ≡ other
history_told log other a b e = lines_told log other (length log) (length other) a b e
