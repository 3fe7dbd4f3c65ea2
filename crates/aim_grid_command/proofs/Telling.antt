-- A text of several crossings tells the journal of each, and the log of each vehicle there.
use Rattle.std.proofs.Common.{◌≡◌, ◌≢◌, ℕ, zero, suc, ◌+◌, ◌<◌, ◌≤◌, List, [], ◌∷◌, ◌++◌, length, Some, refl, sym, ap, ◌∙◌, subst, arith, append_assoc}
use Rattle.std.specs.Prelude.{slice_get}
use Rattle.std.specs.Option.{unwrap_or}
use Rattle.std.proofs.lemmas.List.{append_cancel_left}
use Rattle.aim_messages.specs.declared.entries.Entry.{Entry}
use Rattle.aim_messages.specs.Texts.{spaced}
use Rattle.aim_script.specs.Decided.{printed}
use Rattle.aim_layout.specs.Intersection.{Intersection}
use Rattle.aim_report.specs.Reports.{Logged, all_logs, all_tiles, journal_lines}
use Rattle.aim_report.specs.Told.{AreTold}
use Rattle.aim_report.proofs.Telling.{Begins, all_items, items_begin, items_of, items_told, journal_told, log_is, logs_are_items, logs_are_lines, tiles_begin}
use Rattle.aim_driver.proofs.SmallFacts.{none_some}
use Rattle.aim_grid.specs.Headline.{VehicleLog}
use Rattle.aim_drive_command.specs.Ordered.{in_order, log_among, logs_from}
use Rattle.aim_drive_command.proofs.OwnTiles.{log_in_order}
use Rattle.aim_grid_command.specs.Texts.{all_entries, crossing_words, crossings_text, grid_report}
use Rattle.aim_grid_command.proofs.Parts.{body, last_line}
use Rattle.aim_grid_command.proofs.Sections.{whole_text}

-- logs that are the same for each vehicle are the same in order
same_logs : (first count : ℕ) (xs ys : List VehicleLog) → ((v : ℕ) → first ≤ v → v < first + count → log_among v xs ≡ log_among v ys) → logs_from first count xs ≡ logs_from first count ys
same_logs first zero xs ys each = refl
same_logs first (suc n) xs ys each =
    let here = each first (omega arith) (omega arith) in
    let more = same_logs (first + 1) n xs ys (λ v from to. each v (omega (arith, from)) (omega (arith, to))) in
    λ i. (first, here i) ∷ more i

module _ (vehicles : ℕ) where
  -- of each crossing
  abbrev pub AllTold : List (List Entry) → List (List VehicleLog) → Type 0
  AllTold (h ∷ hs) (x ∷ xs) = AreTold h (in_order vehicles x) × AllTold hs xs
  AllTold hs xs = Unit {0}

  pub all_told : (hs : List (List Entry)) (xs : List (List VehicleLog)) → ((c : ℕ) (h : List Entry) (x : List VehicleLog) → slice_get hs c ≡ Some h → slice_get xs c ≡ Some x → AreTold h (in_order vehicles x)) → AllTold hs xs
  all_told [] xs each = tt
  all_told (h ∷ hs) [] each = tt
  all_told (h ∷ hs) (x ∷ xs) each = (each 0 h x refl refl, all_told hs xs (λ c k y. each (suc c) k y))

  -- at each crossing each vehicle has one log
  abbrev pub SameLogs : List (List VehicleLog) → List (List VehicleLog) → Type 0
  SameLogs (x ∷ xs) (y ∷ ys) = ((v : ℕ) → v < vehicles → log_among v x ≡ log_among v y) × SameLogs xs ys
  SameLogs xs ys = Unit {0}

  pub logs_same : (xs ys : List (List VehicleLog)) → SameLogs xs ys → (c v : ℕ) (x y : List VehicleLog) → slice_get xs c ≡ Some x → slice_get ys c ≡ Some y → v < vehicles → log_among v x ≡ log_among v y
  logs_same [] ys same c v x y a b lt = absurd (none_some x a)
  logs_same (w ∷ xs) [] same c v x y a b lt = absurd (none_some y b)
  logs_same (w ∷ xs) (z ∷ ys) same zero v x y a b lt =
      let x_is : w ≡ x = ap (λ o. unwrap_or o x) a in
      let y_is : z ≡ y = ap (λ o. unwrap_or o y) b in
      ap (log_among v) (sym x_is) ∙ same.0 v lt ∙ ap (log_among v) y_is
  logs_same (w ∷ xs) (z ∷ ys) same (suc c) v x y a b lt = logs_same xs ys same.1 c v x y a b lt

  -- one crossing in front of texts that begin with no line of it
  record One (h k : List Entry) (x y : List VehicleLog) (more others : List ℕ) : Type 0 where
    journal : h ≡ k
    logs : (v : ℕ) → v < vehicles → log_among v x ≡ log_among v y
    behind : more ≡ others

  abbrev Other : ℕ → Type 0
  Other b = (57 < b) × (b ≢ 108)

  one_told : (i : Intersection) (h k : List Entry) (x y : List VehicleLog) (more others : List ℕ) → AreTold h (in_order vehicles x) → AreTold k (in_order vehicles y) → Begins Other more → Begins Other others
      → body i h (in_order vehicles x) ++ more ≡ body i k (in_order vehicles y) ++ others → One h k x y more others
  one_told i h k x y more others a b p q e = record {
    journal = parts.0;
    logs = λ v lt. same v lt;
    behind = append_cancel_left (all_tiles i h xs) more others (tail ∙ ap (λ (l : List ℕ). l ++ others) (sym tiles));
  }
    where
      xs : List Logged
      xs = in_order vehicles x

      ys : List Logged
      ys = in_order vehicles y

      high : (b : ℕ) → Other b → 57 < b
      high b o = o.0

      weaker : (P : ℕ → Type 0) (w : List ℕ) → ((b : ℕ) → Other b → P b) → Begins Other w → Begins P w
      weaker P [] f h = h
      weaker P (b ∷ w) f h = f b h

      split : (h : List Entry) (logs : List Logged) (more : List ℕ) → body i h logs ++ more ≡ journal_lines 0 h ++ (all_logs logs ++ (all_tiles i h logs ++ more))
      split h logs more = append_assoc (journal_lines 0 h ++ all_logs logs) (all_tiles i h logs) more ∙ append_assoc (journal_lines 0 h) (all_logs logs) (all_tiles i h logs ++ more)

      letters : (h : List Entry) (logs : List Logged) (more : List ℕ) → Begins Other more → Begins (λ b. 57 < b) (all_logs logs ++ (all_tiles i h logs ++ more))
      letters h logs more o =
          subst (λ (l : List ℕ). Begins (λ b. 57 < b) (l ++ (all_tiles i h logs ++ more))) (sym (logs_are_lines logs))
          (items_begin (λ b. 57 < b) (all_items logs) (all_tiles i h logs ++ more) (omega arith) (tiles_begin (λ b. 57 < b) i h logs more (omega arith) (weaker (λ b. 57 < b) more (λ b t. t.0) o)))

      no_log : (h : List Entry) (logs : List Logged) (more : List ℕ) → Begins Other more → Begins (λ b. b ≢ 108) (all_tiles i h logs ++ more)
      no_log h logs more o = tiles_begin (λ b. b ≢ 108) i h logs more (λ is. absurd (omega (arith, is))) (weaker (λ b. b ≢ 108) more (λ b t. t.1) o)

      few : length h ≤ 4294967295
      few = a.few

      low : length k ≤ 4294967295
      low = b.few

      parts : (h ≡ k) × (all_logs xs ++ (all_tiles i h xs ++ more) ≡ all_logs ys ++ (all_tiles i k ys ++ others))
      parts = journal_told 0 h k (all_logs xs ++ (all_tiles i h xs ++ more)) (all_logs ys ++ (all_tiles i k ys ++ others)) (omega (arith, few)) (omega (arith, low)) a.entries b.entries
          (letters h xs more p) (letters k ys others q) (sym (split h xs more) ∙ e ∙ split k ys others)

      items : all_items xs ≡ all_items ys
      items = items_told (all_items xs) (all_items ys) (all_tiles i h xs ++ more) (all_tiles i k ys ++ others) (logs_are_items xs a.own) (logs_are_items ys b.own) (no_log h xs more p) (no_log k ys others q)
          (ap (λ (l : List ℕ). l ++ (all_tiles i h xs ++ more)) (sym (logs_are_lines xs)) ∙ parts.1 ∙ ap (λ (l : List ℕ). l ++ (all_tiles i k ys ++ others)) (logs_are_lines ys))

      same : (v : ℕ) → v < vehicles → log_among v x ≡ log_among v y
      same v lt =
          sym (log_in_order 0 vehicles v x (omega arith) (omega (arith, lt))) ∙ log_is xs v a.one_each ∙ ap (items_of v) items ∙ sym (log_is ys v b.one_each) ∙ log_in_order 0 vehicles v y (omega arith) (omega (arith, lt))

      order : xs ≡ ys
      order = same_logs 0 vehicles x y (λ v from to. same v (omega (arith, to)))

      tiles : all_tiles i h xs ≡ all_tiles i k ys
      tiles = ap (λ (g : List Entry). all_tiles i g xs) parts.0 ∙ ap (λ (l : List Logged). all_tiles i k l) order

      tail : all_tiles i h xs ++ more ≡ all_tiles i k ys ++ others
      tail = append_cancel_left (all_logs xs) (all_tiles i h xs ++ more) (all_tiles i k ys ++ others) (parts.1 ∙ ap (λ (l : List Logged). all_logs l ++ (all_tiles i k ys ++ others)) (sym order))

  behind_other : (c n : ℕ) (is : List Intersection) (hs : List (List Entry)) (xs : List (List VehicleLog)) → Begins Other (crossings_text vehicles c is hs xs ++ last_line n)
  behind_other c n [] hs xs = (omega arith, λ is. absurd (omega (arith, is)))
  behind_other c n (i ∷ is) [] xs = (omega arith, λ is. absurd (omega (arith, is)))
  behind_other c n (i ∷ is) (h ∷ hs) [] = (omega arith, λ is. absurd (omega (arith, is)))
  behind_other c n (i ∷ is) (h ∷ hs) (x ∷ xs) =
      subst (Begins Other) (sym (whole_text c i h (in_order vehicles x) (crossings_text vehicles (c + 1) is hs xs) (last_line n))) (omega arith, λ is. absurd (omega (arith, is)))

  crossings_told : (c m n : ℕ) (is : List Intersection) (hs ks : List (List Entry)) (xs ys : List (List VehicleLog)) → length hs ≡ length is → length ks ≡ length is → length xs ≡ length is → length ys ≡ length is → AllTold hs xs → AllTold ks ys
      → crossings_text vehicles c is hs xs ++ last_line m ≡ crossings_text vehicles c is ks ys ++ last_line n → (hs ≡ ks) × SameLogs xs ys
  crossings_told c m n [] [] [] xs ys a b d f told others e = (refl, none xs ys (omega (arith, d)))
    where
      none : (xs ys : List (List VehicleLog)) → length xs ≡ 0 → SameLogs xs ys
      none [] ys e = tt
      none (x ∷ xs) ys e = absurd (omega (arith, e))
  crossings_told c m n [] (h ∷ hs) ks xs ys a b d f told others e = absurd (omega (arith, a))
  crossings_told c m n [] [] (k ∷ ks) xs ys a b d f told others e = absurd (omega (arith, b))
  crossings_told c m n (i ∷ is) [] ks xs ys a b d f told others e = absurd (omega (arith, a))
  crossings_told c m n (i ∷ is) (h ∷ hs) [] xs ys a b d f told others e = absurd (omega (arith, b))
  crossings_told c m n (i ∷ is) (h ∷ hs) (k ∷ ks) [] ys a b d f told others e = absurd (omega (arith, d))
  crossings_told c m n (i ∷ is) (h ∷ hs) (k ∷ ks) (x ∷ xs) [] a b d f told others e = absurd (omega (arith, f))
  crossings_told c m n (i ∷ is) (h ∷ hs) (k ∷ ks) (x ∷ xs) (y ∷ ys) a b d f told others e =
      let head = printed (spaced (crossing_words c)) in
      let more = crossings_text vehicles (c + 1) is hs xs in
      let rest = crossings_text vehicles (c + 1) is ks ys in
      let bodies = append_cancel_left head (body i h (in_order vehicles x) ++ (more ++ last_line m)) (body i k (in_order vehicles y) ++ (rest ++ last_line n))
      (sym (whole_text c i h (in_order vehicles x) more (last_line m)) ∙ e ∙ whole_text c i k (in_order vehicles y) rest (last_line n)) in
      let one = one_told i h k x y (more ++ last_line m) (rest ++ last_line n) told.0 others.0 (behind_other (c + 1) m is hs xs) (behind_other (c + 1) n is ks ys) bodies in
      let behind = crossings_told (c + 1) m n is hs ks xs ys (omega (arith, a)) (omega (arith, b)) (omega (arith, d)) (omega (arith, f)) told.1 others.1 one.behind in
      ((λ j. one.journal j ∷ behind.0 j), (one.logs, behind.1))

  pub grid_told : (is : List Intersection) (hs ks : List (List Entry)) (xs ys : List (List VehicleLog)) → length hs ≡ length is → length ks ≡ length is → length xs ≡ length is → length ys ≡ length is → AllTold hs xs → AllTold ks ys
      → grid_report is vehicles hs xs ≡ grid_report is vehicles ks ys → (hs ≡ ks) × SameLogs xs ys
  grid_told is hs ks xs ys a b d f told others e = crossings_told 0 (all_entries hs) (all_entries ks) is hs ks xs ys a b d f told others e
