-- The lines of tiles that a report has are those of its logs, so they say of no tile that two drivers are on it in one step.
use Rattle.std.proofs.Common.{◌≡◌, ◌⊎◌, inl, inr, ℕ, ◌+◌, ◌≤◌, ◌==◌, true, true≢false, List, [], ◌∷◌, ◌++◌, length, decimal, refl, sym, ap, ◌∙◌, subst, arith, append_assoc}
use Rattle.std.specs.Prelude.{All}
use Rattle.std.specs.List.{list_any}
use Rattle.std.proofs.lemmas.Bool.{or_parts}
use Rattle.std.proofs.lemmas.List.{append-nil}
use Rattle.std.proofs.lemmas.List.Elements.{All-head, All-tail}
use Rattle.std.proofs.lemmas.Fmt.{decimal_injective}
use Rattle.aim_io.specs.Lines.{lines_of}
use Rattle.aim_messages.specs.declared.entries.Entry.{Entry}
use Rattle.aim_messages.specs.Texts.{Words, spaced, entry_words, entry_text, IsOneLine}
use Rattle.aim_text_words.specs.Faults.{first, rest, words_of}
use Rattle.aim_text_words.specs.Ranges.{Is32}
use Rattle.aim_text_words.proofs.WordLaws.{AreWords, words_spaced}
use Rattle.aim_text_words.proofs.MessageWords.{w32, w8}
use Rattle.aim_text_words.proofs.OneLine.{words_end_none}
use Rattle.aim_text_entries.proofs.OneLine.{entry_is_one_line}
use Rattle.aim_script.specs.Decided.{printed}
use Rattle.aim_geometry.specs.Cells.{Cell}
use Rattle.aim_layout.specs.Intersection.{Intersection}
use Rattle.aim_rules.specs.Cells.{IsIn}
use Rattle.aim_driver.specs.declared.logs.LogItem.{LogItem}
use Rattle.aim_driver.specs.declared.logs.LogItem.TheVariants as item
use Rattle.aim_safety.specs.Occupied.{is_occupied}
use Rattle.aim_safety.specs.Tiles.{EntersBy, occupied_cells}
use Rattle.aim_safety.proofs.ListLemmas.{list_has, list_rises}
use Rattle.aim_safety.proofs.ReservedLemmas.{occupied_within}
use Rattle.aim_report.specs.declared.stays.Stay.{Stay}
use Rattle.aim_report.specs.Apart.{IsStay, IsPrinted, TilesAreApart, IsOwn, TilesAreOwn, AreOnOwnTiles}
use Rattle.aim_report.specs.Reports.{Logged, journal_lines, item_words, stay_words, stay_lines, tile_lines, end_words, all_logs, all_tiles, report}
use Rattle.aim_report.specs.Stays.{Covers, stays}
use Rattle.aim_report.specs.Told.{IsTold, IsLog, AreTold}
use Rattle.aim_report.proofs.StayLemmas.{start_of, end_of, stay_has, stay_order}
use Rattle.aim_report.proofs.Telling.{Begins, Begins-append, Begins-both, number_low, Item, all_items, item_lines, AreItems, logs_are_lines, logs_are_items, item_are_words, behind_logs, report_is}

-- the lines of a text, one after another

line_first : (s more : List ℕ) → IsOneLine s → lines_of (s ++ 10 ∷ more) ≡ s ∷ lines_of more
line_first [] more one = refl
line_first (b ∷ s) more one =
    let parts = or_parts (b == 10) (list_any (λ c. c == 10) s) one in
    rw (parts.0, line_first s more parts.1) refl

pub lines_begin : (s more : List ℕ) → IsOneLine s → lines_of (printed s ++ more) ≡ s ∷ lines_of more
lines_begin s more one = ap lines_of (append_assoc s (10 ∷ []) more) ∙ line_first s more one

pub entry_begins : (p : ℕ) (e : Entry) → Is32 p → Begins (λ b. b ≤ 57) (entry_text p e)
entry_begins p e small = Begins-append (λ b. b ≤ 57) (decimal p) (32 ∷ spaced (rest (entry_words p e))) (number_low p small)

pub item_begins_so : (v : ℕ) (x : LogItem) → Begins (λ b. b ≡ 108) (spaced (item_words v x))
item_begins_so v (item.Sent step m) = refl
item_begins_so v (item.Got step seq r) = refl
item_begins_so v (item.Entered step id) = refl

number_or_tiles : (b : ℕ) → b ≤ 57 → b ≡ 116 → ⊥
number_or_tiles b low is = absurd (omega arith)

log_or_tiles : (b : ℕ) → b ≡ 108 → b ≡ 116 → ⊥
log_or_tiles b log is = absurd (omega arith)

end_or_tiles : (b : ℕ) → b ≡ 101 → b ≡ 116 → ⊥
end_or_tiles b end is = absurd (omega arith)

-- the words of a stay

pub stay_are_words : (v : ℕ) (s : Stay) → Is32 v → IsStay s → AreWords (stay_words v s)
stay_are_words v s small r = (refl, (w32 v small, (w8 s.row r.row, (w8 s.col r.col, (w32 s.first r.first, (w32 s.last r.last, tt))))))

stay_back : (v : ℕ) (s : Stay) → Is32 v → IsStay s → words_of (spaced (stay_words v s)) ≡ stay_words v s
stay_back v s small r = words_spaced _ _ (stay_are_words v s small r)

number_alone : (m n : ℕ) → Is32 m → Is32 n → decimal m ≡ decimal n → m ≡ n
number_alone m n a b e = decimal_injective m n (omega arith) (omega arith) e

abbrev behind_vehicle : Words → Words
behind_vehicle ws = rest (rest ws)

stay_alone : (v w : ℕ) (s t : Stay) → Is32 v → Is32 w → IsStay s → IsStay t → spaced (stay_words v s) ≡ spaced (stay_words w t) → (v ≡ w) × (s ≡ t)
stay_alone v w s t a b c d e =
    let words : stay_words v s ≡ stay_words w t = sym (stay_back v s a c) ∙ ap words_of e ∙ stay_back w t b d in
    let vehicle = number_alone v w (omega (arith, a)) (omega (arith, b)) (ap (λ ws. first (rest ws)) words) in
    let low = c.row in let low_too = d.row in let side = c.col in let side_too = d.col in
    let row = number_alone s.row t.row (omega arith) (omega arith) (ap (λ ws. first (behind_vehicle ws)) words) in
    let col = number_alone s.col t.col (omega arith) (omega arith) (ap (λ ws. first (rest (behind_vehicle ws))) words) in
    let from = number_alone s.first t.first c.first d.first (ap (λ ws. first (rest (rest (behind_vehicle ws)))) words) in
    let to = number_alone s.last t.last c.last d.last (ap (λ ws. first (rest (rest (rest (behind_vehicle ws))))) words) in
    (vehicle, (λ j. record { row = row j; col = col j; first = from j; last = to j }))

-- a line that begins as those of tiles do

module _ (t : List ℕ) (tiles : Begins (λ b. b ≡ 116) t) where
  peel : (s lines more : List ℕ) → IsOneLine s → IsIn t (lines_of ((printed s ++ lines) ++ more)) → (t ≡ s) ⊎ IsIn t (lines_of (lines ++ more))
  peel s lines more one m = subst (λ ls. IsIn t ls) (ap lines_of (append_assoc (printed s) lines more) ∙ lines_begin s (lines ++ more) one) m

  behind_journal : (p : ℕ) (h : List Entry) (more : List ℕ) → p + length h ≤ 4294967295 → All IsTold h → IsIn t (lines_of (journal_lines p h ++ more)) → IsIn t (lines_of more)
  behind_journal p [] more few told m = m
  behind_journal p (e ∷ es) more few told m =
      let small : Is32 p = omega arith in
      let its = All-head IsTold e es told in
      elim (peel (entry_text p e) (journal_lines (p + 1) es) more (entry_is_one_line p e small its.values) m) [
        | inl is ↦ absurd (Begins-both (λ b. b ≤ 57) (λ b. b ≡ 116) t number_or_tiles (subst (Begins (λ b. b ≤ 57)) (sym is) (entry_begins p e small)) tiles)
        | inr n ↦ behind_journal (p + 1) es more (omega arith) (All-tail IsTold e es told) n
      ]

  behind_items : (xs : List Item) (more : List ℕ) → AreItems xs → IsIn t (lines_of (item_lines xs ++ more)) → IsIn t (lines_of more)
  behind_items [] more are m = m
  behind_items (x ∷ xs) more are m =
      elim (peel (spaced (item_words x.0 x.1)) (item_lines xs) more (words_end_none (item_words x.0 x.1) (item_are_words x.0 x.1 are.0 are.1)) m) [
        | inl is ↦ absurd (Begins-both (λ b. b ≡ 108) (λ b. b ≡ 116) t log_or_tiles (subst (Begins (λ b. b ≡ 108)) (sym is) (item_begins_so x.0 x.1)) tiles)
        | inr n ↦ behind_items xs more are.2 n
      ]

  -- one of these stays of the vehicle is told by the line
  record IsLineOf (v : ℕ) (ss : List Stay) : Type 0 where
    stay : Stay
    there : IsIn stay ss
    is : t ≡ spaced (stay_words v stay)

  in_stays : (v : ℕ) (ss : List Stay) (more : List ℕ) → Is32 v → ((s : Stay) → IsIn s ss → IsStay s) → IsIn t (lines_of (stay_lines v ss ++ more)) → IsLineOf v ss ⊎ IsIn t (lines_of more)
  in_stays v [] more small each m = inr m
  in_stays v (s ∷ ss) more small each m =
      elim (peel (spaced (stay_words v s)) (stay_lines v ss) more (words_end_none (stay_words v s) (stay_are_words v s small (each s (inl refl)))) m) [
        | inl is ↦ inl (record { stay = s; there = inl refl; is = is })
        | inr n ↦ elim (in_stays v ss more small (λ u k. each u (inr k)) n) [
          | inl f ↦ inl (record { stay = f.stay; there = inr f.there; is = f.is })
          | inr k ↦ inr k
        ]
      ]

  module _ (i : Intersection) (h : List Entry) where
    -- one of these logs has it
    record IsLineAmong (logs : List Logged) : Type 0 where
      log : Logged
      among : IsIn log logs
      line : IsLineOf log.0 (stays (occupied_cells i h log.1))

    abbrev AreShown : Logged → Type 0
    AreShown x = Is32 x.0 × ((s : Stay) → IsIn s (stays (occupied_cells i h x.1)) → IsStay s)

    in_tiles : (logs : List Logged) (more : List ℕ) → ((x : Logged) → IsIn x logs → AreShown x) → IsIn t (lines_of (all_tiles i h logs ++ more)) → IsLineAmong logs ⊎ IsIn t (lines_of more)
    in_tiles [] more each m = inr m
    in_tiles (x ∷ xs) more each m =
        let its = each x (inl refl) in
        elim (in_stays x.0 (stays (occupied_cells i h x.1)) (all_tiles i h xs ++ more) its.0 its.1 (subst (λ l. IsIn t (lines_of l)) (append_assoc (tile_lines i h x.0 x.1) (all_tiles i h xs) more) m)) [
          | inl f ↦ inl (record { log = x; among = inl refl; line = f })
          | inr n ↦ elim (in_tiles xs more (λ y k. each y (inr k)) n) [
            | inl f ↦ inl (record { log = f.log; among = inr f.among; line = f.line })
            | inr k ↦ inr k
          ]
        ]

    not_end : (n : ℕ) → Is32 n → IsIn t (lines_of (printed (spaced (end_words n)))) → ⊥
    not_end n small m =
        let alone : printed (spaced (end_words n)) ≡ (printed (spaced (end_words n)) ++ []) ++ [] = sym (append-nil (printed (spaced (end_words n)))) ∙ sym (append-nil (printed (spaced (end_words n)) ++ [])) in
        elim (peel (spaced (end_words n)) [] [] (words_end_none (end_words n) (refl, (w32 n small, tt))) (subst (λ l. IsIn t (lines_of l)) alone m)) [
          | inl is ↦ Begins-both (λ b. b ≡ 101) (λ b. b ≡ 116) t end_or_tiles (subst (Begins (λ b. b ≡ 101)) (sym is) refl) tiles
          | inr none ↦ none
        ]

    in_report : (logs : List Logged) → AreTold h logs → ((x : Logged) → IsIn x logs → AreShown x) → IsIn t (lines_of (report i h logs)) → IsLineAmong logs
    in_report logs told each m =
        let few = told.few in
        let parts = behind_journal 0 h (all_logs logs ++ behind_logs i h logs) (omega arith) told.entries (subst (λ l. IsIn t (lines_of l)) (report_is i h logs) m) in
        let behind = behind_items (all_items logs) (behind_logs i h logs) (logs_are_items logs told.own) (subst (λ l. IsIn t (lines_of (l ++ behind_logs i h logs))) (logs_are_lines logs) parts) in
        elim (in_tiles logs (printed (spaced (end_words (length h)))) each behind) [
          | inl f ↦ f
          | inr n ↦ absurd (not_end (length h) (omega arith) n)
        ]

-- what holds of all holds of one
pub of_all : {A : Type 0} (P : A → Type 0) (xs : List A) (x : A) → All P xs → IsIn x xs → P x
of_all P [] x each m = absurd m
of_all P (y ∷ ys) x each (inl is) = subst P (sym is) (All-head P y ys each)
of_all P (y ∷ ys) x each (inr m) = of_all P ys x (All-tail P y ys each) m

module _ (i : Intersection) (h : List Entry) (logs : List Logged) (rows : i.grid.n ≤ 64) (told : AreTold h logs) (on : AreOnOwnTiles i h logs) where
  is_on_it : (x : Logged) (s : Stay) (c : Cell) → IsIn s (stays (occupied_cells i h x.1)) → Covers s c → is_occupied i h x.1 c ≡ true
  is_on_it x s c m v = (list_has i h x.1 c).0 (stay_has (occupied_cells i h x.1) s c (list_rises i h x.1) m v)

  pub is_stay : (x : Logged) (s : Stay) → IsIn x logs → IsIn s (stays (occupied_cells i h x.1)) → IsStay s
  is_stay x s there m =
      let order = stay_order (occupied_cells i h x.1) s m in
      let enters = of_all (λ (y : Logged). EntersBy 2147483648 y.1) logs x on.enters there in
      let from = occupied_within 2147483648 i h x.1 (start_of s) enters (is_on_it x s (start_of s) m (record { row = refl; col = refl; after = omega arith; before = order })) in
      let to = occupied_within 2147483648 i h x.1 (end_of s) enters (is_on_it x s (end_of s) m (record { row = refl; col = refl; after = order; before = omega arith })) in
      let a = from.row in
      let b = from.col in
      let c = from.step in
      let d = to.step in
      record { row = omega arith; col = omega arith; first = omega arith; last = omega arith }

  -- the log whose driver is on a printed tile
  record IsTheLog (v : ℕ) (c : Cell) : Type 0 where
    log : Logged
    among : IsIn log logs
    vehicle : log.0 ≡ v
    occupies : is_occupied i h log.1 c ≡ true

  the_log : (v : ℕ) (c : Cell) → IsPrinted (report i h logs) v c → IsTheLog v c
  the_log v c p =
      let each : (x : Logged) → IsIn x logs → Is32 x.0 × ((s : Stay) → IsIn s (stays (occupied_cells i h x.1)) → IsStay s) = λ x m. ((of_all IsLog logs x told.own m).vehicle, λ s k. is_stay x s m k) in
      let f = in_report (spaced (stay_words v p.stay)) refl i h logs told each p.line in
      let x = f.log in
      let its = f.line in
      let same = stay_alone v x.0 p.stay its.stay p.vehicle (each x f.among).0 p.values ((each x f.among).1 its.stay its.there) its.is in
      record { log = x; among = f.among; vehicle = sym same.0; occupies = is_on_it x its.stay c its.there (subst (λ s. Covers s c) same.1 p.covers) }

  tiles_apart : TilesAreApart (report i h logs)
  tiles_apart v w c ne p q =
      let x = the_log v c p in
      let y = the_log w c q in
      let free = on.apart x.log y.log c x.among y.among (λ e. ne (sym x.vehicle ∙ e ∙ y.vehicle)) x.occupies in
      true≢false (sym y.occupies ∙ free)

  tiles_own : TilesAreOwn i h (report i h logs)
  tiles_own v c p =
      let x = the_log v c p in
      subst (λ n. IsOwn i h n c) x.vehicle (on.own x.log c x.among x.occupies)

pub printed_apart : (i : Intersection) (h : List Entry) (logs : List Logged) → i.grid.n ≤ 64 → AreTold h logs → AreOnOwnTiles i h logs → TilesAreApart (report i h logs)
printed_apart = tiles_apart

pub printed_own : (i : Intersection) (h : List Entry) (logs : List Logged) → i.grid.n ≤ 64 → AreTold h logs → AreOnOwnTiles i h logs → TilesAreOwn i h (report i h logs)
printed_own = tiles_own
