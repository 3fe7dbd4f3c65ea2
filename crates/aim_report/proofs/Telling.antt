-- A report tells the journal and the logs.
use Rattle.std.proofs.Common.{◌≡◌, ◌≢◌, ℕ, suc, ◌+◌, ◌<◌, ◌≤◌, ◌==◌, true, false, List, [], ◌∷◌, ◌++◌, length, decimal, if◌then◌else◌, inl, inr, refl, sym, ap, ◌∙◌, subst, arith, append_assoc}
use Rattle.std.specs.Prelude.{All, AllPairs}
use Rattle.std.specs.List.{list_any}
use Rattle.std.proofs.lemmas.Bool.{or_parts, and_parts, leb-true, eqb-true, ne_eqb, cases_Bool}
use Rattle.std.proofs.lemmas.List.{append-nil}
use Rattle.std.proofs.lemmas.List.Elements.{All-head, All-tail}
use Rattle.std.proofs.lemmas.Fmt.{decimal_injective}
use Rattle.aim_messages.specs.declared.entries.Entry.{Entry}
use Rattle.aim_messages.specs.Texts.{Words, spaced, entry_words, entry_text, IsOneLine}
use Rattle.aim_text_words.specs.Faults.{first, rest, words_of, begins_with_digit}
use Rattle.aim_text_words.specs.Ranges.{Is32}
use Rattle.aim_text_words.proofs.NumberLaws.{decimal_number, number_begins}
use Rattle.aim_text_words.proofs.WordLaws.{AreWords, words_spaced}
use Rattle.aim_text_words.proofs.MessageWords.{w32, message_are_words}
use Rattle.aim_text_entries.proofs.EntryAgain.{reply_are_words, entry_alone, reply_alone}
use Rattle.aim_text_lines.proofs.LineAgain.{message_one}
use Rattle.aim_text_words.proofs.OneLine.{words_end_none}
use Rattle.aim_text_entries.proofs.OneLine.{entry_is_one_line}
use Rattle.aim_script.specs.Decided.{printed}
use Rattle.aim_layout.specs.Intersection.{Intersection}
use Rattle.aim_driver.specs.declared.logs.LogItem.{LogItem}
use Rattle.aim_driver.specs.declared.logs.LogItem.TheVariants as item
use Rattle.aim_safety.specs.Tiles.{occupied_cells}
use Rattle.aim_report.specs.declared.stays.Stay.{Stay}
use Rattle.aim_report.specs.Stays.{stays}
use Rattle.aim_report.specs.Reports.{Logged, journal_lines, item_words, item_line, log_lines, stay_lines, tile_lines, end_words, all_logs, all_tiles, report}
use Rattle.aim_report.specs.Told.{IsTold, IsItem, IsLog, AreTold, log_in}

-- bytes are split at the end of a line in one way

ends : (b : ℕ) (bs : List ℕ) → 10 ≡ b → IsOneLine (b ∷ bs) → ⊥
ends b bs is one =
    let not : (b == 10) ≡ false = (or_parts (b == 10) (list_any (λ c. c == 10) bs) one).0 in
    let same : (10 == 10) ≡ false = ap (λ c. c == 10) is ∙ not in
    absurd cc

split : (xs ys more others : List ℕ) → IsOneLine xs → IsOneLine ys → xs ++ 10 ∷ more ≡ ys ++ 10 ∷ others → (xs ≡ ys) × (more ≡ others)
split [] [] more others a b e = (refl, cc)
split [] (y ∷ ys) more others a b e = absurd (ends y ys (cc) b)
split (x ∷ xs) [] more others a b e = absurd (ends x xs (cc) a)
split (x ∷ xs) (y ∷ ys) more others a b e =
    let same : x ≡ y = cc in
    let tails : xs ++ 10 ∷ more ≡ ys ++ 10 ∷ others = cc in
    let both = split xs ys more others (or_parts (x == 10) (list_any (λ c. c == 10) xs) a).1 (or_parts (y == 10) (list_any (λ c. c == 10) ys) b).1 tails in
    ((λ i. same i ∷ both.0 i), both.1)

pub one_line : (s t more others : List ℕ) → IsOneLine s → IsOneLine t → printed s ++ more ≡ printed t ++ others → (s ≡ t) × (more ≡ others)
one_line s t more others a b e = split s t more others a b (sym (append_assoc s (10 ∷ []) more) ∙ e ∙ append_assoc t (10 ∷ []) others)

-- the same, where more lines stand between
pub next_line : (s t lines lines' more others : List ℕ) → IsOneLine s → IsOneLine t → (printed s ++ lines) ++ more ≡ (printed t ++ lines') ++ others → (s ≡ t) × (lines ++ more ≡ lines' ++ others)
next_line s t lines lines' more others a b e =
    one_line s t (lines ++ more) (lines' ++ others) a b (sym (append_assoc (printed s) lines more) ∙ e ∙ append_assoc (printed t) lines' others)

-- the first byte

abbrev pub Begins : (ℕ → Type 0) → List ℕ → Type 0
Begins P [] = ⊥
Begins P (b ∷ bs) = P b

pub Begins-append : (P : ℕ → Type 0) (xs ys : List ℕ) → Begins P xs → Begins P (xs ++ ys)
Begins-append P [] ys h = absurd h
Begins-append P (x ∷ xs) ys h = h

pub Begins-both : (P Q : ℕ → Type 0) (xs : List ℕ) → ((b : ℕ) → P b → Q b → ⊥) → Begins P xs → Begins Q xs → ⊥
Begins-both P Q [] never p q = absurd p
Begins-both P Q (x ∷ xs) never p q = never x p q

-- the lines of a journal

pub number_low : (n : ℕ) → Is32 n → Begins (λ b. b ≤ 57) (decimal n)
number_low n small = low (decimal n) (number_begins (decimal n) (decimal_number n (omega arith)))
  where
    low : (w : List ℕ) → begins_with_digit w ≡ true → Begins (λ b. b ≤ 57) w
    low [] h = absurd cc
    low (b ∷ bs) h = leb-true b 57 (and_parts _ _ h).1

entry_low : (p : ℕ) (e : Entry) (lines more : List ℕ) → Is32 p → Begins (λ b. b ≤ 57) ((printed (entry_text p e) ++ lines) ++ more)
entry_low p e lines more small =
    let P : ℕ → Type 0 = λ b. b ≤ 57 in
    Begins-append P (printed (entry_text p e) ++ lines) more (Begins-append P (printed (entry_text p e)) lines
    (Begins-append P (entry_text p e) (10 ∷ []) (Begins-append P (decimal p) (32 ∷ spaced (rest (entry_words p e))) (number_low p small))))

never_both : (b : ℕ) → b ≤ 57 → 57 < b → ⊥
never_both b low high = absurd (omega arith)

pub journal_told : (p : ℕ) (h k : List Entry) (more others : List ℕ) → p + length h ≤ 4294967295 → p + length k ≤ 4294967295 → All IsTold h → All IsTold k
    → Begins (λ b. 57 < b) more → Begins (λ b. 57 < b) others → journal_lines p h ++ more ≡ journal_lines p k ++ others → (h ≡ k) × (more ≡ others)
journal_told p [] [] more others lh lk th tk a b e = (refl, e)
journal_told p [] (d ∷ ds) more others lh lk th tk a b e =
    absurd (Begins-both (λ b. b ≤ 57) (λ b. 57 < b) more never_both (subst (Begins (λ b. b ≤ 57)) (sym e) (entry_low p d (journal_lines (p + 1) ds) others (omega arith))) a)
journal_told p (c ∷ cs) [] more others lh lk th tk a b e =
    absurd (Begins-both (λ b. b ≤ 57) (λ b. 57 < b) others never_both (subst (Begins (λ b. b ≤ 57)) e (entry_low p c (journal_lines (p + 1) cs) more (omega arith))) b)
journal_told p (c ∷ cs) (d ∷ ds) more others lh lk th tk a b e =
    let small : Is32 p = omega arith in
    let tc = All-head IsTold c cs th in
    let td = All-head IsTold d ds tk in
    let line = next_line (entry_text p c) (entry_text p d) (journal_lines (p + 1) cs) (journal_lines (p + 1) ds) more others
    (entry_is_one_line p c small tc.values) (entry_is_one_line p d small td.values) e in
    let same = entry_alone p p c d small small tc.values td.values tc.caller td.caller line.0 in
    let behind = journal_told (p + 1) cs ds more others (omega arith) (omega arith) (All-tail IsTold c cs th) (All-tail IsTold d ds tk) a b line.1 in
    ((λ i. same.1 i ∷ behind.0 i), behind.1)

-- an item of a log

number_alone : (m n : ℕ) → Is32 m → Is32 n → decimal m ≡ decimal n → m ≡ n
number_alone m n a b e = decimal_injective m n (omega arith) (omega arith) e

pub item_are_words : (v : ℕ) (x : LogItem) → Is32 v → IsItem x → AreWords (item_words v x)
item_are_words v (item.Sent step m) a r = (refl, (w32 v a, (refl, (w32 step r.0, message_are_words m r.1))))
item_are_words v (item.Got step seq p) a r = (refl, (w32 v a, (refl, (w32 step r.0, (w32 seq r.1, reply_are_words p r.2)))))
item_are_words v (item.Entered step id) a r = (refl, (w32 v a, (refl, (w32 step r.0, (w32 id r.1, tt)))))

item_back : (v : ℕ) (x : LogItem) → Is32 v → IsItem x → words_of (spaced (item_words v x)) ≡ item_words v x
item_back v (item.Sent step m) a r = words_spaced _ _ (item_are_words v (item.Sent step m) a r)
item_back v (item.Got step seq p) a r = words_spaced _ _ (item_are_words v (item.Got step seq p) a r)
item_back v (item.Entered step id) a r = words_spaced _ _ (item_are_words v (item.Entered step id) a r)

-- the word that says what it is
abbrev kind : Words → List ℕ
kind ws = first (rest (rest ws))

abbrev behind_kind : Words → Words
behind_kind ws = rest (rest (rest ws))

item_alone : (v w : ℕ) (x y : LogItem) → Is32 v → Is32 w → IsItem x → IsItem y → item_words v x ≡ item_words w y → (v ≡ w) × (x ≡ y)
item_alone v w (item.Sent s m) (item.Sent t n) a b c d e =
    let vehicle = number_alone v w a b (ap (λ ws. first (rest ws)) e) in
    let step = number_alone s t c.0 d.0 (ap (λ ws. first (behind_kind ws)) e) in
    let message = message_one m n c.1 d.1 (ap (λ ws. spaced (rest (behind_kind ws))) e) in
    (vehicle, (λ i. item.Sent (step i) (message i)))
item_alone v w (item.Got s m p) (item.Got t n q) a b c d e =
    let vehicle = number_alone v w a b (ap (λ ws. first (rest ws)) e) in
    let step = number_alone s t c.0 d.0 (ap (λ ws. first (behind_kind ws)) e) in
    let seq = number_alone m n c.1 d.1 (ap (λ ws. first (rest (behind_kind ws))) e) in
    let reply = reply_alone p q c.2 d.2 (ap (λ ws. spaced (rest (rest (behind_kind ws)))) e) in
    (vehicle, (λ i. item.Got (step i) (seq i) (reply i)))
item_alone v w (item.Entered s m) (item.Entered t n) a b c d e =
    let vehicle = number_alone v w a b (ap (λ ws. first (rest ws)) e) in
    let step = number_alone s t c.0 d.0 (ap (λ ws. first (behind_kind ws)) e) in
    let id = number_alone m n c.1 d.1 (ap (λ ws. first (rest (behind_kind ws))) e) in
    (vehicle, (λ i. item.Entered (step i) (id i)))
item_alone v w (item.Sent s m) (item.Got t n q) a b c d e = let l : ◌≡◌ {A = ℕ} 4 3 = ap (λ ws. length (kind ws)) e in absurd (omega arith)
item_alone v w (item.Sent s m) (item.Entered t n) a b c d e = let l : ◌≡◌ {A = ℕ} 4 7 = ap (λ ws. length (kind ws)) e in absurd (omega arith)
item_alone v w (item.Got s m p) (item.Sent t n) a b c d e = let l : ◌≡◌ {A = ℕ} 3 4 = ap (λ ws. length (kind ws)) e in absurd (omega arith)
item_alone v w (item.Got s m p) (item.Entered t n) a b c d e = let l : ◌≡◌ {A = ℕ} 3 7 = ap (λ ws. length (kind ws)) e in absurd (omega arith)
item_alone v w (item.Entered s m) (item.Sent t n) a b c d e = let l : ◌≡◌ {A = ℕ} 7 4 = ap (λ ws. length (kind ws)) e in absurd (omega arith)
item_alone v w (item.Entered s m) (item.Got t n q) a b c d e = let l : ◌≡◌ {A = ℕ} 7 3 = ap (λ ws. length (kind ws)) e in absurd (omega arith)

item_begins : (P : ℕ → Type 0) (v : ℕ) (x : LogItem) (more : List ℕ) → P 108 → Begins P (item_line v x ++ more)
item_begins P v (item.Sent step m) more h = h
item_begins P v (item.Got step seq r) more h = h
item_begins P v (item.Entered step id) more h = h

-- the items of all logs, each with its vehicle

abbrev pub Item : Type 0
Item = ℕ × LogItem

abbrev pub of_vehicle : ℕ → List LogItem → List Item
of_vehicle v [] = []
of_vehicle v (x ∷ xs) = (v, x) ∷ of_vehicle v xs

abbrev pub all_items : List Logged → List Item
all_items [] = []
all_items (x ∷ xs) = of_vehicle x.0 x.1 ++ all_items xs

abbrev pub item_lines : List Item → List ℕ
item_lines [] = []
item_lines (x ∷ xs) = item_line x.0 x.1 ++ item_lines xs

abbrev pub AreItems : List Item → Type 0
AreItems [] = Unit {0}
AreItems (x ∷ xs) = Is32 x.0 × IsItem x.1 × AreItems xs

log_are_lines : (v : ℕ) (log : List LogItem) (xs : List Item) → item_lines (of_vehicle v log ++ xs) ≡ log_lines v log ++ item_lines xs
log_are_lines v [] xs = refl
log_are_lines v (x ∷ log) xs = ap (λ l. item_line v x ++ l) (log_are_lines v log xs) ∙ sym (append_assoc (item_line v x) (log_lines v log) (item_lines xs))

pub logs_are_lines : (logs : List Logged) → all_logs logs ≡ item_lines (all_items logs)
logs_are_lines [] = refl
logs_are_lines (x ∷ xs) = ap (λ l. log_lines x.0 x.1 ++ l) (logs_are_lines xs) ∙ sym (log_are_lines x.0 x.1 (all_items xs))

log_are_items : (v : ℕ) (log : List LogItem) (xs : List Item) → Is32 v → All IsItem log → AreItems xs → AreItems (of_vehicle v log ++ xs)
log_are_items v [] xs small each h = h
log_are_items v (x ∷ log) xs small each h = (small, All-head IsItem x log each, log_are_items v log xs small (All-tail IsItem x log each) h)

pub logs_are_items : (logs : List Logged) → All IsLog logs → AreItems (all_items logs)
logs_are_items [] each = tt
logs_are_items (x ∷ xs) each =
    let its = All-head IsLog x xs each in
    log_are_items x.0 x.1 (all_items xs) its.vehicle its.items (logs_are_items xs (All-tail IsLog x xs each))

pub items_begin : (P : ℕ → Type 0) (xs : List Item) (more : List ℕ) → P 108 → Begins P more → Begins P (item_lines xs ++ more)
items_begin P [] more p h = h
items_begin P (x ∷ xs) more p h = Begins-append P (item_line x.0 x.1 ++ item_lines xs) more (item_begins P x.0 x.1 (item_lines xs) p)

other_line : (x : Item) (xs : List Item) (more : List ℕ) → Begins (λ b. b ≢ 108) (item_lines (x ∷ xs) ++ more) → ⊥
other_line x xs more h =
    let P : ℕ → Type 0 = λ b. b ≡ 108 in
    let first : Begins P (item_lines (x ∷ xs) ++ more) = Begins-append P (item_lines (x ∷ xs)) more (item_begins P x.0 x.1 (item_lines xs) refl) in
    Begins-both P (λ b. b ≢ 108) (item_lines (x ∷ xs) ++ more) (λ b is not. not is) first h

pub items_told : (xs ys : List Item) (more others : List ℕ) → AreItems xs → AreItems ys → Begins (λ b. b ≢ 108) more → Begins (λ b. b ≢ 108) others
    → item_lines xs ++ more ≡ item_lines ys ++ others → xs ≡ ys
items_told [] [] more others a b c d e = refl
items_told [] (y ∷ ys) more others a b c d e = absurd (other_line y ys others (subst (Begins (λ b. b ≢ 108)) e c))
items_told (x ∷ xs) [] more others a b c d e = absurd (other_line x xs more (subst (Begins (λ b. b ≢ 108)) (sym e) d))
items_told (x ∷ xs) (y ∷ ys) more others a b c d e =
    let line = next_line (spaced (item_words x.0 x.1)) (spaced (item_words y.0 y.1)) (item_lines xs) (item_lines ys) more others
    (words_end_none (item_words x.0 x.1) (item_are_words x.0 x.1 a.0 a.1)) (words_end_none (item_words y.0 y.1) (item_are_words y.0 y.1 b.0 b.1)) e in
    let words : item_words x.0 x.1 ≡ item_words y.0 y.1 = sym (item_back x.0 x.1 a.0 a.1) ∙ ap words_of line.0 ∙ item_back y.0 y.1 b.0 b.1 in
    let same = item_alone x.0 y.0 x.1 y.1 a.0 b.0 a.1 b.1 words in
    let behind = items_told xs ys more others a.2 b.2 c d line.1 in
    λ i. (same.0 i, same.1 i) ∷ behind i

-- the log of a vehicle is that of its items

abbrev pub items_of : ℕ → List Item → List LogItem
items_of v [] = []
items_of v (x ∷ xs) = if x.0 == v then x.1 ∷ items_of v xs else items_of v xs

own_items : (v w : ℕ) (log : List LogItem) (xs : List Item) → (w == v) ≡ true → items_of v (of_vehicle w log ++ xs) ≡ log ++ items_of v xs
own_items v w [] xs is = refl
own_items v w (x ∷ log) xs is = rw is (ap (λ l. x ∷ l) (own_items v w log xs is))

other_items : (v w : ℕ) (log : List LogItem) (xs : List Item) → (w == v) ≡ false → items_of v (of_vehicle w log ++ xs) ≡ items_of v xs
other_items v w [] xs not = refl
other_items v w (x ∷ log) xs not = rw not (other_items v w log xs not)

no_items : (v : ℕ) (logs : List Logged) → All (λ (x : Logged). x.0 ≢ v) logs → items_of v (all_items logs) ≡ []
no_items v [] each = refl
no_items v (x ∷ xs) each =
    other_items v x.0 x.1 (all_items xs) (ne_eqb x.0 v (All-head (λ (x : Logged). x.0 ≢ v) x xs each)) ∙ no_items v xs (All-tail (λ (x : Logged). x.0 ≢ v) x xs each)

pub log_is : (logs : List Logged) (v : ℕ) → AllPairs (λ (x y : Logged). x.0 ≢ y.0) logs → log_in logs v ≡ items_of v (all_items logs)
log_is [] v apart = refl
log_is (x ∷ xs) v apart = elim (cases_Bool (x.0 == v)) [
  | inl is ↦
      let none = no_items v xs (λ j y l same. apart 0 (suc j) y (omega arith) (omega arith) (eqb-true x.0 v is ∙ sym same)) in
      rw is (sym (own_items v x.0 x.1 (all_items xs) is ∙ ap (λ l. x.1 ++ l) none ∙ append-nil x.1))
  | inr not ↦ rw not (log_is xs v (λ j k y lt l. apart (suc j) (suc k) y (omega arith) (omega arith)) ∙ sym (other_items v x.0 x.1 (all_items xs) not))
]

-- what stands behind the logs

stays_begin : (P : ℕ → Type 0) (v : ℕ) (ss : List Stay) (more : List ℕ) → P 116 → Begins P more → Begins P (stay_lines v ss ++ more)
stays_begin P v [] more p h = h
stays_begin P v (s ∷ ss) more p h = p

pub tiles_begin : (P : ℕ → Type 0) (i : Intersection) (h : List Entry) (logs : List Logged) (more : List ℕ) → P 116 → Begins P more → Begins P (all_tiles i h logs ++ more)
tiles_begin P i h [] more p b = b
tiles_begin P i h (x ∷ xs) more p b =
    subst (Begins P) (sym (append_assoc (tile_lines i h x.0 x.1) (all_tiles i h xs) more))
    (stays_begin P x.0 (stays (occupied_cells i h x.1)) (all_tiles i h xs ++ more) p (tiles_begin P i h xs more p b))

abbrev pub behind_logs : Intersection → List Entry → List Logged → List ℕ
behind_logs i h logs = all_tiles i h logs ++ printed (spaced (end_words (length h)))

behind_begins : (P : ℕ → Type 0) (i : Intersection) (h : List Entry) (logs : List Logged) → P 116 → P 101 → Begins P (behind_logs i h logs)
behind_begins P i h logs p q = tiles_begin P i h logs (printed (spaced (end_words (length h)))) p q

letters : (i : Intersection) (h : List Entry) (logs : List Logged) → Begins (λ b. 57 < b) (all_logs logs ++ behind_logs i h logs)
letters i h logs =
    let P : ℕ → Type 0 = λ b. 57 < b in
    subst (λ (l : List ℕ). Begins (λ b. 57 < b) (l ++ behind_logs i h logs)) (sym (logs_are_lines logs))
    (items_begin P (all_items logs) (behind_logs i h logs) (omega arith) (behind_begins P i h logs (omega arith) (omega arith)))

no_log : (i : Intersection) (h : List Entry) (logs : List Logged) → Begins (λ b. b ≢ 108) (behind_logs i h logs)
no_log i h logs = behind_begins (λ b. b ≢ 108) i h logs (λ is. absurd (omega (arith, is))) (λ is. absurd (omega (arith, is)))

-- the two parts of a report

pub report_is : (i : Intersection) (h : List Entry) (logs : List Logged) → report i h logs ≡ journal_lines 0 h ++ (all_logs logs ++ behind_logs i h logs)
report_is i h logs =
    append_assoc (journal_lines 0 h ++ all_logs logs) (all_tiles i h logs) (printed (spaced (end_words (length h)))) ∙ append_assoc (journal_lines 0 h) (all_logs logs) (behind_logs i h logs)

parts_told : (i j : Intersection) (h k : List Entry) (logs others : List Logged) → AreTold h logs → AreTold k others → report i h logs ≡ report j k others
    → (h ≡ k) × (all_logs logs ++ behind_logs i h logs ≡ all_logs others ++ behind_logs j k others)
parts_told i j h k logs others a b e =
    let lh = a.few in
    let lk = b.few in
    journal_told 0 h k (all_logs logs ++ behind_logs i h logs) (all_logs others ++ behind_logs j k others) (omega arith) (omega arith) a.entries b.entries (letters i h logs) (letters j k others)
    (sym (report_is i h logs) ∙ e ∙ report_is j k others)

pub tells_journal : (i j : Intersection) (h k : List Entry) (logs others : List Logged) → AreTold h logs → AreTold k others → report i h logs ≡ report j k others → h ≡ k
tells_journal i j h k logs others a b e = (parts_told i j h k logs others a b e).0

pub tells_logs : (i j : Intersection) (h k : List Entry) (logs others : List Logged) (v : ℕ) → AreTold h logs → AreTold k others → report i h logs ≡ report j k others → log_in logs v ≡ log_in others v
tells_logs i j h k logs others v a b e =
    let lines = ap (λ l. l ++ behind_logs i h logs) (sym (logs_are_lines logs)) ∙ (parts_told i j h k logs others a b e).1 ∙ ap (λ l. l ++ behind_logs j k others) (logs_are_lines others) in
    let items = items_told (all_items logs) (all_items others) (behind_logs i h logs) (behind_logs j k others) (logs_are_items logs a.own) (logs_are_items others b.own) (no_log i h logs) (no_log j k others) lines in
    log_is logs v a.one_each ∙ ap (items_of v) items ∙ sym (log_is others v b.one_each)
