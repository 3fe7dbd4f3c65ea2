-- The lines of each crossing in a text of several: they are those of its journal, its logs and its tiles.
use Rattle.std.proofs.Common.{◌≡◌, inl, inr, ℕ, suc, ◌+◌, ◌<◌, ◌≤◌, List, [], ◌∷◌, ◌++◌, length, Some, refl, sym, ap, ◌∙◌, subst, arith, append_assoc}
use Rattle.std.specs.Prelude.{slice_get}
use Rattle.std.specs.Option.{unwrap_or}
use Rattle.std.proofs.lemmas.Bool.{cases_lt}
use Rattle.aim_io.specs.Lines.{lines_of}
use Rattle.aim_messages.specs.declared.entries.Entry.{Entry}
use Rattle.aim_messages.specs.Texts.{spaced}
use Rattle.aim_text_words.specs.Ranges.{Is32}
use Rattle.aim_script.specs.Decided.{printed}
use Rattle.aim_geometry.specs.Cells.{Cell}
use Rattle.aim_layout.specs.Intersection.{Intersection}
use Rattle.aim_rules.specs.Cells.{IsIn}
use Rattle.aim_report.specs.Apart.{AreOnOwnTiles, IsOwn, IsPrinted}
use Rattle.aim_report.specs.Reports.{Logged, all_logs, all_tiles, journal_lines, report}
use Rattle.aim_report.specs.Told.{AreTold}
use Rattle.aim_report.proofs.TileLines.{lines_begin, printed_apart, printed_own}
use Rattle.aim_grid.specs.Headline.{VehicleLog}
use Rattle.aim_drive_command.specs.Ordered.{in_order}
use Rattle.aim_grid_command.specs.Texts.{crossing_words, crossings_text}
use Rattle.aim_grid_command.specs.Tiles.{IsPrintedAt, TilesAreApartAt, TilesAreOwnAt, part_behind}
use Rattle.aim_grid_command.proofs.Parts.{Bound, Inner, behind_inner, body, body_inner, end_bound, found_head, head_alone, head_bound, head_one, last_line, other_head, up_to_there}

-- what is asked of a crossing's journal and of the logs there, in the order of their vehicles
pub record IsGood (i : Intersection) (h : List Entry) (logs : List Logged) : Type 0 where
  pub rows : i.grid.n ≤ 64
  pub told : AreTold h logs
  pub on : AreOnOwnTiles i h logs

some_is : {A : Type 0} (x y : A) → Some x ≡ Some y → x ≡ y
some_is x y e = ap (λ o. unwrap_or o x) e

-- one crossing's text in front of others
pub whole_text : (c : ℕ) (i : Intersection) (h : List Entry) (logs : List Logged) (more last : List ℕ)
    → ((printed (spaced (crossing_words c)) ++ journal_lines 0 h ++ all_logs logs ++ all_tiles i h logs) ++ more) ++ last ≡ printed (spaced (crossing_words c)) ++ (body i h logs ++ (more ++ last))
whole_text c i h logs more last =
    let head = printed (spaced (crossing_words c)) in
    let j = journal_lines 0 h in
    let a = all_logs logs in
    let t = all_tiles i h logs in
    let three : ((head ++ j) ++ a) ++ t ≡ head ++ ((j ++ a) ++ t) = ap (λ (l : List ℕ). l ++ t) (append_assoc head j a) ∙ append_assoc head (j ++ a) t in
    ap (λ (l : List ℕ). (l ++ more) ++ last) three ∙ append_assoc (head ++ ((j ++ a) ++ t)) more last ∙ append_assoc head ((j ++ a) ++ t) (more ++ last)

module _ (vehicles : ℕ) where
  -- of all crossings
  abbrev pub AreGood : List Intersection → List (List Entry) → List (List VehicleLog) → Type 0
  AreGood (i ∷ is) (h ∷ hs) (x ∷ xs) = IsGood i h (in_order vehicles x) × AreGood is hs xs
  AreGood _ hs xs = Unit {0}

  pub are_good : (is : List Intersection) (hs : List (List Entry)) (xs : List (List VehicleLog))
      → ((c : ℕ) (i : Intersection) (h : List Entry) (x : List VehicleLog) → slice_get is c ≡ Some i → slice_get hs c ≡ Some h → slice_get xs c ≡ Some x → IsGood i h (in_order vehicles x)) → AreGood is hs xs
  are_good [] hs xs each = tt
  are_good (i ∷ is) [] xs each = tt
  are_good (i ∷ is) (h ∷ hs) [] each = tt
  are_good (i ∷ is) (h ∷ hs) (x ∷ xs) each = (each 0 i h x refl refl refl, are_good is hs xs (λ c j k y. each (suc c) j k y))

  -- the lines of a crossing among those from one on are lines of the report of its journal and logs
  pub record Section (first c : ℕ) (is : List Intersection) (hs : List (List Entry)) (xs : List (List VehicleLog)) (text : List ℕ) : Type 0 where
    pub place : ℕ
    pub at : c ≡ first + place
    pub layout : Intersection
    pub journal : List Entry
    pub logs : List VehicleLog
    pub layout_is : slice_get is place ≡ Some layout
    pub journal_is : slice_get hs place ≡ Some journal
    pub logs_are : slice_get xs place ≡ Some logs
    pub good : IsGood layout journal (in_order vehicles logs)
    pub there : (t : List ℕ) → IsIn t (part_behind (spaced (crossing_words c)) (lines_of text)) → IsIn t (lines_of (report layout journal (in_order vehicles logs)))

  in_front : (t : List ℕ) (lines more : List (List ℕ)) → IsIn t lines → IsIn t (lines ++ more)
  in_front t [] more m = absurd m
  in_front t (l ∷ lines) more (inl is) = inl is
  in_front t (l ∷ lines) more (inr m) = inr (in_front t lines more m)

  behind_bound : (c n : ℕ) (is : List Intersection) (hs : List (List Entry)) (xs : List (List VehicleLog)) → Is32 c → Is32 n → Bound (crossings_text vehicles c is hs xs ++ last_line n)
  behind_bound c n [] hs xs small low = end_bound n low
  behind_bound c n (i ∷ is) [] xs small low = end_bound n low
  behind_bound c n (i ∷ is) (h ∷ hs) [] small low = end_bound n low
  behind_bound c n (i ∷ is) (h ∷ hs) (x ∷ xs) small low =
      subst Bound (sym (whole_text c i h (in_order vehicles x) (crossings_text vehicles (c + 1) is hs xs) (last_line n)))
      (head_bound c (body i h (in_order vehicles x) ++ (crossings_text vehicles (c + 1) is hs xs ++ last_line n)) small)

  section : (first c n : ℕ) (is : List Intersection) (hs : List (List Entry)) (xs : List (List VehicleLog)) → length hs ≡ length is → length xs ≡ length is → AreGood is hs xs → Is32 n
      → first + length is ≤ 4294967295 → first ≤ c → c < first + length is → Section first c is hs xs (crossings_text vehicles first is hs xs ++ last_line n)
  section first c n [] hs xs many all good small few from to = absurd (omega (arith, from, to))
  section first c n (i ∷ is) [] xs many all good small few from to = absurd (omega (arith, many))
  section first c n (i ∷ is) (h ∷ hs) [] many all good small few from to = absurd (omega (arith, all))
  section first c n (i ∷ is) (h ∷ hs) (x ∷ xs) many all good small few from to = elim (cases_lt first c) [
    | inr past ↦ here (omega (arith, from, past))
    | inl behind ↦ later behind (section (first + 1) c n is hs xs (omega (arith, many)) (omega (arith, all)) good.1 small (omega (arith, few)) (omega (arith, behind)) (omega (arith, to)))
  ]
    where
      logs : List Logged
      logs = in_order vehicles x

      rest : List ℕ
      rest = crossings_text vehicles (first + 1) is hs xs ++ last_line n

      head : List ℕ
      head = spaced (crossing_words first)

      inner : Inner (body i h logs)
      inner = body_inner i h logs good.0.rows good.0.told good.0.on

      low : Is32 first
      low = omega (arith, few)

      bound : Bound rest
      bound = behind_bound (first + 1) n is hs xs (omega (arith, few)) small

      lines_are : lines_of (crossings_text vehicles first (i ∷ is) (h ∷ hs) (x ∷ xs) ++ last_line n) ≡ head ∷ lines_of (body i h logs ++ rest)
      lines_are = ap lines_of (whole_text first i h logs (crossings_text vehicles (first + 1) is hs xs) (last_line n)) ∙ lines_begin head (body i h logs ++ rest) (head_one first low)

      in_report : (t : List ℕ) → IsIn t inner.lines → IsIn t (lines_of (report i h logs))
      in_report t m = subst (λ (ls : List (List ℕ)). IsIn t ls) (sym (inner.split (last_line (length h)))) (in_front t inner.lines (lines_of (last_line (length h))) m)

      wanted : List ℕ
      wanted = spaced (crossing_words c)

      part_here : first ≡ c → part_behind wanted (lines_of (crossings_text vehicles first (i ∷ is) (h ∷ hs) (x ∷ xs) ++ last_line n)) ≡ inner.lines
      part_here same =
          ap (λ (k : ℕ). part_behind (spaced (crossing_words k)) (lines_of (crossings_text vehicles first (i ∷ is) (h ∷ hs) (x ∷ xs) ++ last_line n))) (sym same)
          ∙ ap (part_behind head) lines_are ∙ found_head head (lines_of (body i h logs ++ rest)) ∙ up_to_there (body i h logs) rest inner bound

      here : first ≡ c → Section first c (i ∷ is) (h ∷ hs) (x ∷ xs) (crossings_text vehicles first (i ∷ is) (h ∷ hs) (x ∷ xs) ++ last_line n)
      here same = record {
        place = 0;
        at = omega (arith, same);
        layout = i;
        journal = h;
        logs = x;
        layout_is = refl;
        journal_is = refl;
        logs_are = refl;
        good = good.0;
        there = λ t m. in_report t (subst (λ (ls : List (List ℕ)). IsIn t ls) (part_here same) m);
      }

      differs : first < c → head ≡ wanted → ⊥
      differs behind e = let same : first ≡ c = head_alone first c low (omega (arith, few, to)) e in absurd (omega (arith, behind, same))

      part_later : first < c → part_behind wanted (lines_of (crossings_text vehicles first (i ∷ is) (h ∷ hs) (x ∷ xs) ++ last_line n)) ≡ part_behind wanted (lines_of rest)
      part_later behind =
          ap (part_behind wanted) lines_are ∙ other_head wanted head (lines_of (body i h logs ++ rest)) (differs behind)
          ∙ ap (part_behind wanted) (inner.split rest) ∙ behind_inner wanted inner.lines (lines_of rest) refl inner.inner

      later : first < c → Section (first + 1) c is hs xs rest → Section first c (i ∷ is) (h ∷ hs) (x ∷ xs) (crossings_text vehicles first (i ∷ is) (h ∷ hs) (x ∷ xs) ++ last_line n)
      later behind s = record {
        place = suc s.place;
        at = (let at = s.at in omega (arith, at));
        layout = s.layout;
        journal = s.journal;
        logs = s.logs;
        layout_is = s.layout_is;
        journal_is = s.journal_is;
        logs_are = s.logs_are;
        good = s.good;
        there = λ t m. s.there t (subst (λ (ls : List (List ℕ)). IsIn t ls) (part_later behind) m);
      }

  -- the crossings of a whole text
  pub at_crossing : (c n : ℕ) (is : List Intersection) (hs : List (List Entry)) (xs : List (List VehicleLog)) → length hs ≡ length is → length xs ≡ length is → AreGood is hs xs → Is32 n → length is ≤ 8 → c < length is
      → Section 0 c is hs xs (crossings_text vehicles 0 is hs xs ++ last_line n)
  at_crossing c n is hs xs many all good small few there = section 0 c n is hs xs many all good small (omega (arith, few)) (omega arith) (omega (arith, there))

  -- a printed tile of the crossing is one of the report of its journal and logs
  printed_there : (c : ℕ) (is : List Intersection) (hs : List (List Entry)) (xs : List (List VehicleLog)) (text : List ℕ) (s : Section 0 c is hs xs text) (v : ℕ) (cell : Cell) → IsPrintedAt c text v cell
      → IsPrinted (report s.layout s.journal (in_order vehicles s.logs)) v cell
  printed_there c is hs xs text s v cell p = record { stay = p.stay; vehicle = p.vehicle; values = p.values; line = s.there _ p.line; covers = p.covers }

  pub tiles_apart : (c : ℕ) (is : List Intersection) (hs : List (List Entry)) (xs : List (List VehicleLog)) (text : List ℕ) → Section 0 c is hs xs text → TilesAreApartAt c text
  tiles_apart c is hs xs text s = λ v w cell other p q.
      printed_apart s.layout s.journal (in_order vehicles s.logs) s.good.rows s.good.told s.good.on v w cell other (printed_there c is hs xs text s v cell p) (printed_there c is hs xs text s w cell q)

  pub tiles_own : (c : ℕ) (is : List Intersection) (hs : List (List Entry)) (xs : List (List VehicleLog)) (text : List ℕ) → Section 0 c is hs xs text → (i : Intersection) (h : List Entry) → slice_get is c ≡ Some i → slice_get hs c ≡ Some h → TilesAreOwnAt i h c text
  tiles_own c is hs xs text s i h layout journal = λ v cell p.
      let own = printed_own s.layout s.journal (in_order vehicles s.logs) s.good.rows s.good.told s.good.on v cell (printed_there c is hs xs text s v cell p) in
      let at : s.place ≡ c = (let at = s.at in omega (arith, at)) in
      let i_is : s.layout ≡ i = some_is _ _ (sym s.layout_is ∙ ap (λ n. slice_get is n) at ∙ layout) in
      let h_is : s.journal ≡ h = some_is _ _ (sym s.journal_is ∙ ap (λ n. slice_get hs n) at ∙ journal) in
      subst (λ (j : Intersection). IsOwn j h v cell) i_is (subst (λ (k : List Entry). IsOwn s.layout k v cell) h_is own)
