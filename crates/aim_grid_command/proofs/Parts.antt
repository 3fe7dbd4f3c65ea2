-- The lines of a text of several crossings, and those of each crossing.
use Rattle.std.proofs.Common.{◌≡◌, inl, inr, ℕ, ◌+◌, ◌≤◌, true, false, true≢false, List, [], ◌∷◌, ◌++◌, length, refl, sym, ap, ◌∙◌, arith, append_assoc}
use Rattle.std.specs.Prelude.{All, bytes_eq}
use Rattle.std.specs.List.{AllByRecursion}
use Rattle.std.proofs.lemmas.Bool.{cases_Bool, false_from_ne_true, ne_eqb}
use Rattle.std.proofs.lemmas.List.{append-nil}
use Rattle.std.proofs.lemmas.List.Elements.{All-head, All-tail}
use Rattle.std.proofs.lemmas.Fmt.{decimal_injective}
use Rattle.std.proofs.lemmas.Slice.Eq.{bytes_eq-Decides}
use Rattle.aim_io.specs.Lines.{lines_of}
use Rattle.aim_messages.specs.declared.entries.Entry.{Entry}
use Rattle.aim_messages.specs.Texts.{spaced, entry_text, IsOneLine}
use Rattle.aim_text_words.specs.Faults.{first, rest, words_of}
use Rattle.aim_text_words.specs.Ranges.{Is32}
use Rattle.aim_text_words.proofs.WordLaws.{AreWords, words_spaced}
use Rattle.aim_text_words.proofs.MessageWords.{w32}
use Rattle.aim_text_words.proofs.OneLine.{words_end_none}
use Rattle.aim_text_entries.proofs.OneLine.{entry_is_one_line}
use Rattle.aim_script.specs.Decided.{printed}
use Rattle.aim_layout.specs.Intersection.{Intersection}
use Rattle.aim_rules.specs.Cells.{IsIn}
use Rattle.aim_driver.specs.declared.logs.LogItem.{LogItem}
use Rattle.aim_safety.specs.Tiles.{occupied_cells}
use Rattle.aim_report.specs.declared.stays.Stay.{Stay}
use Rattle.aim_report.specs.Apart.{IsStay, AreOnOwnTiles}
use Rattle.aim_report.specs.Reports.{Logged, all_logs, all_tiles, end_words, item_words, journal_lines, log_lines, stay_lines, stay_words, tile_lines}
use Rattle.aim_report.specs.Stays.{stays}
use Rattle.aim_report.specs.Told.{AreTold, IsItem, IsLog, IsTold}
use Rattle.aim_report.proofs.Telling.{Begins, item_are_words}
use Rattle.aim_report.proofs.TileLines.{entry_begins, is_stay, item_begins_so, lines_begin, of_all, stay_are_words}
use Rattle.aim_grid_command.specs.Texts.{crossing_words}
use Rattle.aim_grid_command.specs.Tiles.{is_bound, part_behind, up_to_bound}

-- ---- texts of whole lines, none of which begins a crossing or ends the text

pub record Inner (body : List ℕ) : Type 0 where
  pub lines : List (List ℕ)
  pub split : (more : List ℕ) → lines_of (body ++ more) ≡ lines ++ lines_of more
  pub inner : AllByRecursion (λ l. is_bound l ≡ false) lines

none_inner : Inner []
none_inner = record { lines = []; split = λ more. refl; inner = tt }

all_both : {A : Type 0} (P : A → Type 0) (xs ys : List A) → AllByRecursion P xs → AllByRecursion P ys → AllByRecursion P (xs ++ ys)
all_both P [] ys a b = b
all_both P (x ∷ xs) ys a b = (a.0, all_both P xs ys a.1 b)

both_inner : (a b : List ℕ) → Inner a → Inner b → Inner (a ++ b)
both_inner a b x y = record {
  lines = x.lines ++ y.lines;
  split = λ more. ap lines_of (append_assoc a b more) ∙ x.split (b ++ more) ∙ ap (λ (ls : List (List ℕ)). x.lines ++ ls) (y.split more) ∙ sym (append_assoc x.lines y.lines (lines_of more));
  inner = all_both (λ l. is_bound l ≡ false) x.lines y.lines x.inner y.inner;
}

one_inner : (s : List ℕ) → IsOneLine s → is_bound s ≡ false → Inner (printed s)
one_inner s one plain = record { lines = s ∷ []; split = λ more. lines_begin s more one; inner = (plain, tt) }

-- a line that begins with another byte is no bound
other_byte : (s : List ℕ) → Begins (λ b. (b ≡ 99 → ⊥) × (b ≡ 101 → ⊥)) s → is_bound s ≡ false
other_byte [] h = absurd h
other_byte (b ∷ s) h = rw (ne_eqb 99 b (λ e. h.0 (sym e)), ne_eqb 101 b (λ e. h.1 (sym e))) refl

begins_as : (P Q : ℕ → Type 0) (s : List ℕ) → ((b : ℕ) → P b → Q b) → Begins P s → Begins Q s
begins_as P Q [] f h = h
begins_as P Q (b ∷ s) f h = f b h

journal_inner : (p : ℕ) (h : List Entry) → p + length h ≤ 4294967295 → All IsTold h → Inner (journal_lines p h)
journal_inner p [] few told = none_inner
journal_inner p (e ∷ es) few told =
    let small : Is32 p = omega (arith, few) in
    let its = All-head IsTold e es told in
    let low = begins_as (λ b. b ≤ 57) (λ b. (b ≡ 99 → ⊥) × (b ≡ 101 → ⊥)) (entry_text p e) (λ b le. ((λ is. absurd (omega (arith, le, is))), (λ is. absurd (omega (arith, le, is))))) (entry_begins p e small) in
    both_inner (printed (entry_text p e)) (journal_lines (p + 1) es) (one_inner (entry_text p e) (entry_is_one_line p e small its.values) (other_byte (entry_text p e) low))
    (journal_inner (p + 1) es (omega (arith, few)) (All-tail IsTold e es told))

log_inner : (v : ℕ) (log : List LogItem) → Is32 v → All IsItem log → Inner (log_lines v log)
log_inner v [] small each = none_inner
log_inner v (x ∷ xs) small each =
    let log = begins_as (λ b. b ≡ 108) (λ b. (b ≡ 99 → ⊥) × (b ≡ 101 → ⊥)) (spaced (item_words v x)) (λ b is. ((λ e. absurd (omega (arith, is, e))), (λ e. absurd (omega (arith, is, e))))) (item_begins_so v x) in
    both_inner (printed (spaced (item_words v x))) (log_lines v xs) (one_inner (spaced (item_words v x)) (words_end_none (item_words v x) (item_are_words v x small (All-head IsItem x xs each))) (other_byte (spaced (item_words v x)) log))
    (log_inner v xs small (All-tail IsItem x xs each))

logs_inner : (logs : List Logged) → All IsLog logs → Inner (all_logs logs)
logs_inner [] each = none_inner
logs_inner (x ∷ xs) each =
    let its = All-head IsLog x xs each in
    both_inner (log_lines x.0 x.1) (all_logs xs) (log_inner x.0 x.1 its.vehicle its.items) (logs_inner xs (All-tail IsLog x xs each))

stays_inner : (v : ℕ) (ss : List Stay) → Is32 v → ((s : Stay) → IsIn s ss → IsStay s) → Inner (stay_lines v ss)
stays_inner v [] small each = none_inner
stays_inner v (s ∷ ss) small each =
    both_inner (printed (spaced (stay_words v s))) (stay_lines v ss) (one_inner (spaced (stay_words v s)) (words_end_none (stay_words v s) (stay_are_words v s small (each s (inl refl)))) refl)
    (stays_inner v ss small (λ u k. each u (inr k)))

tiles_inner : (i : Intersection) (h : List Entry) (logs : List Logged) → ((x : Logged) → IsIn x logs → Is32 x.0 × ((s : Stay) → IsIn s (stays (occupied_cells i h x.1)) → IsStay s)) → Inner (all_tiles i h logs)
tiles_inner i h [] each = none_inner
tiles_inner i h (x ∷ xs) each =
    let its = each x (inl refl) in
    both_inner (tile_lines i h x.0 x.1) (all_tiles i h xs) (stays_inner x.0 (stays (occupied_cells i h x.1)) its.0 its.1) (tiles_inner i h xs (λ y k. each y (inr k)))

-- what is printed of a journal and logs, in front of a last line
abbrev pub body : Intersection → List Entry → List Logged → List ℕ
body i h logs = journal_lines 0 h ++ all_logs logs ++ all_tiles i h logs

pub body_inner : (i : Intersection) (h : List Entry) (logs : List Logged) → i.grid.n ≤ 64 → AreTold h logs → AreOnOwnTiles i h logs → Inner (body i h logs)
body_inner i h logs rows told on =
    let few = told.few in
    both_inner (journal_lines 0 h ++ all_logs logs) (all_tiles i h logs)
    (both_inner (journal_lines 0 h) (all_logs logs) (journal_inner 0 h (omega (arith, few)) told.entries) (logs_inner logs told.own))
    (tiles_inner i h logs (λ x m. ((of_all IsLog logs x told.own m).vehicle, (λ s k. is_stay i h logs rows told on x s m k))))

-- ---- the lines of a crossing

-- a line that begins a crossing, or ends the text
pub record Bound (rest : List ℕ) : Type 0 where
  pub line : List ℕ
  pub more : List (List ℕ)
  pub is : lines_of rest ≡ line ∷ more
  pub bound : is_bound line ≡ true

up_to : (lines more : List (List ℕ)) → AllByRecursion (λ l. is_bound l ≡ false) lines → up_to_bound (lines ++ more) ≡ lines ++ up_to_bound more
up_to [] more each = refl
up_to (l ∷ lines) more each = rw each.0 (ap (λ (ls : List (List ℕ)). l ∷ ls) (up_to lines more each.1))

pub up_to_there : (b rest : List ℕ) (x : Inner b) → Bound rest → up_to_bound (lines_of (b ++ rest)) ≡ x.lines
up_to_there b rest x bound =
    ap up_to_bound (x.split rest) ∙ up_to x.lines (lines_of rest) x.inner ∙ ap (λ (ls : List (List ℕ)). x.lines ++ up_to_bound ls) bound.is ∙ (rw bound.bound (append-nil x.lines))

-- a head among lines that are none
pub behind_inner : (head : List ℕ) (lines more : List (List ℕ)) → is_bound head ≡ true → AllByRecursion (λ l. is_bound l ≡ false) lines → part_behind head (lines ++ more) ≡ part_behind head more
behind_inner head [] more bound each = refl
behind_inner head (l ∷ lines) more bound each = elim (cases_Bool (bytes_eq l head)) [
  | inl same ↦ absurd (true≢false (sym bound ∙ ap is_bound (sym ((bytes_eq-Decides l head).0 same)) ∙ each.0))
  | inr other ↦ rw other (behind_inner head lines more bound each.1)
]

-- the part behind a head that is found, and one that isn't
pub found_head : (head : List ℕ) (lines : List (List ℕ)) → part_behind head (head ∷ lines) ≡ up_to_bound lines
found_head head lines = rw ((bytes_eq-Decides head head).1 refl) refl

pub other_head : (head line : List ℕ) (lines : List (List ℕ)) → (line ≡ head → ⊥) → part_behind head (line ∷ lines) ≡ part_behind head lines
other_head head line lines differ = rw (false_from_ne_true (bytes_eq line head) (λ e. differ ((bytes_eq-Decides line head).0 e))) refl

head_words : (c : ℕ) → Is32 c → AreWords (crossing_words c)
head_words c small = (refl, (w32 c small, tt))

pub head_one : (c : ℕ) → Is32 c → IsOneLine (spaced (crossing_words c))
head_one c small = words_end_none (crossing_words c) (head_words c small)

pub head_alone : (c d : ℕ) → Is32 c → Is32 d → spaced (crossing_words c) ≡ spaced (crossing_words d) → c ≡ d
head_alone c d a b e =
    let words : crossing_words c ≡ crossing_words d = sym (words_spaced _ _ (head_words c a)) ∙ ap words_of e ∙ words_spaced _ _ (head_words d b) in
    decimal_injective c d (omega (arith, a)) (omega (arith, b)) (ap (λ ws. first (rest ws)) words)

-- one crossing's text, and what stands behind it
abbrev pub last_line : ℕ → List ℕ
last_line n = printed (spaced (end_words n))

pub end_bound : (n : ℕ) → Is32 n → Bound (last_line n)
end_bound n small = record {
  line = spaced (end_words n);
  more = [];
  is = ap lines_of (sym (append-nil (last_line n))) ∙ lines_begin (spaced (end_words n)) [] (words_end_none (end_words n) (refl, (w32 n small, tt)));
  bound = refl;
}

pub head_bound : (c : ℕ) (more : List ℕ) → Is32 c → Bound (printed (spaced (crossing_words c)) ++ more)
head_bound c more small = record {
  line = spaced (crossing_words c);
  more = lines_of more;
  is = lines_begin (spaced (crossing_words c)) more (head_one c small);
  bound = refl;
}
