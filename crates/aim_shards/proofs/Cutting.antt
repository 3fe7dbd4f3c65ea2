-- Spans that are cut along the borders of the quadrants.
use Rattle.std.proofs.Common.{◌≡◌, ℕ, zero, suc, ◌+◌, ◌-◌, ◌*◌, ◌%◌, ◌^◌, ◌<◌, ◌≤◌, ◌==◌, Bool, true, false, ◌&&◌, ◌||◌, not, List, [], ◌∷◌, ◌++◌, length, length-append, take, get_or, refl, sym, ap, ◌∙◌, subst, arith, leb}
use Rattle.std.specs.Prelude.{bit_and, nat_le, if◌then◌else◌, filter}
use Rattle.std.proofs.lemmas.List.Elements.{filter-append}
use Rattle.std.proofs.lemmas.List.Folds.{list_any-append}
use Rattle.std.proofs.Math.Decide.{dec_lt}
use Rattle.std.proofs.Math.Pow.{pow-lt}
use Rattle.std.proofs.lemmas.Bool.{and_parts, le-leb, lt-leb}
use Rattle.std.proofs.lemmas.Nat.Bits.{bit_at_ones, bit_at_ones_above, bit_at_mask_inside, bit_at_mask_below, bit_at_above, ones_shl}
use Rattle.aim_sheets.specs.declared.spans.Span.{Span}
use Rattle.aim_geometry.specs.Cells.{Cell}
use Rattle.aim_geometry.specs.Rects.{has_bit}
use Rattle.aim_sheets.specs.Spans.{is_at, in_span, in_spans}
use Rattle.aim_geometry.proofs.Bits.{has_bit_and}
use Rattle.aim_sheets.proofs.Masks.{no_bit}
use Rattle.aim_sheets.proofs.Order.{is_at_parts}
use Rattle.aim_sheets.specs.Sheets.{Spans}
use Rattle.aim_shards.specs.Sets.{Quarters, part, set_at}
use Rattle.aim_shards.specs.Cuts.{one, quadrant_at, lies_at, is_beside, spans_at, AreCut, AreWithin}
use Rattle.aim_shards.specs.Grid.{AreOnGrid}
use Rattle.aim_shards.specs.declared.cuts.Corner.{Corner}
use Rattle.aim_tiles.specs.Sheets.{AreTiles, AreAhead}
use mathlib.Core.Logic.{dite}
use native.Mathlib.Decide.{dec_le}
use Rattle.aim_shards.proofs.Lines.{next_of_suc}
use Rattle.aim_shards.proofs.Sharing.{differ}

-- whether a tile of a row of the quadrant is in it
corner_is : (d r x y : Bool) → (if d then x else not x) ≡ true → (2 * one x + one y == 2 * one d + one r) ≡ (if r then y else not y)
corner_is true true true true h = refl
corner_is true true true false h = refl
corner_is true false true true h = refl
corner_is true false true false h = refl
corner_is true r false y h = absurd (differ (sym h))
corner_is false true false true h = refl
corner_is false true false false h = refl
corner_is false false false true h = refl
corner_is false false false false h = refl
corner_is false r true y h = absurd (differ (sym h))

corner_not : (d r x y : Bool) → (if d then x else not x) ≡ false → (2 * one x + one y == 2 * one d + one r) ≡ false
corner_not true true false true h = refl
corner_not true true false false h = refl
corner_not true false false true h = refl
corner_not true false false false h = refl
corner_not true r true y h = absurd (differ h)
corner_not false true true true h = refl
corner_not false true true false h = refl
corner_not false false true true h = refl
corner_not false false true false h = refl
corner_not false r false y h = absurd (differ h)

-- the columns from the second half on, and those before
second_half : (half c : ℕ) → half ≤ 32 → c < 64 → has_bit ((2 ^ 64 - 1) * 2 ^ half % 2 ^ 64) c ≡ nat_le half c
second_half half c h l =
    rw (ones_shl 64 half (omega arith))
    (elim (dec_lt c half) [
      | yes b ↦ (let z : leb half c ≡ false = lt-leb half c b in rw (bit_at_mask_below half 64 c b, z) refl)
      | no b ↦ (let z : leb half c ≡ true = le-leb half c (omega arith) in rw (bit_at_mask_inside half 64 c (omega arith) l, z) refl)
    ])

first_half : (half c : ℕ) → has_bit (2 ^ half - 1) c ≡ not (nat_le half c)
first_half half c =
    elim (dec_lt c half) [
      | yes b ↦ (let z : leb half c ≡ false = lt-leb half c b in rw (bit_at_ones half c b, z) refl)
      | no b ↦ (let z : leb half c ≡ true = le-leb half c (omega arith) in rw (bit_at_ones_above half c (omega arith), z) refl)
    ]

pub columns_right : (half : ℕ) (down : Bool) (row mask : ℕ) (right : Bool) → half ≤ 32 → mask < 2 ^ 64 → (if down then nat_le half row else not (nat_le half row)) ≡ true → right ≡ true → (c : ℕ) → has_bit (bit_and mask ((2 ^ 64 - 1) * 2 ^ half % 2 ^ 64)) c ≡ (has_bit mask c && (quadrant_at half row c == 2 * one down + one right))
columns_right half down row mask right h small beside e c =
    has_bit_and mask ((2 ^ 64 - 1) * 2 ^ half % 2 ^ 64) c
    ∙ elim (dec_lt c 64) [
      | yes b ↦ (λ i. has_bit mask c && (second_half half c h b ∙ sym (corner_is down right (nat_le half row) (nat_le half c) beside ∙ ap (λ r. if r then nat_le half c else not (nat_le half c)) e)) i)
      | no b ↦ (let z : has_bit mask c ≡ false = ap (λ k. k == 1) (bit_at_above mask 64 c small (omega arith)) in rw z refl)
    ]

pub columns_left : (half : ℕ) (down : Bool) (row mask : ℕ) (right : Bool) → half ≤ 32 → (if down then nat_le half row else not (nat_le half row)) ≡ true → right ≡ false → (c : ℕ) → has_bit (bit_and mask (1 * 2 ^ half % 2 ^ 64 - 1)) c ≡ (has_bit mask c && (quadrant_at half row c == 2 * one down + one right))
columns_left half down row mask right h beside e c =
    ap (λ k. has_bit (bit_and mask (k - 1)) c) (whole half h)
    ∙ (has_bit_and mask (2 ^ half - 1) c
    ∙ (λ i. has_bit mask c && (first_half half c ∙ sym (corner_is down right (nat_le half row) (nat_le half c) beside ∙ ap (λ r. if r then nat_le half c else not (nat_le half c)) e)) i))
  where
    whole : (k : ℕ) → k ≤ 32 → 1 * 2 ^ k % 2 ^ 64 ≡ 2 ^ k
    whole k le = let lt : 2 ^ k < 2 ^ 64 = pow-lt {i = k} {j = 64} (omega arith) in omega (arith, lt)

-- a span's cells in the quadrant
pub part_span : (half k : ℕ) (span span' : Span) (cell : Cell) → span'.step ≡ span.step → span'.row ≡ span.row → ((c : ℕ) → has_bit span'.mask c ≡ (has_bit span.mask c && (quadrant_at half span.row c == k))) → in_span span' cell ≡ (in_span span cell && lies_at half k cell)
part_span half k span span' cell step row bits = (λ i. ((step i == cell.step) && (row i == cell.row)) && bits cell.col i) ∙ at (is_at span cell.step cell.row) refl
  where
    at : (b : Bool) → is_at span cell.step cell.row ≡ b → (is_at span cell.step cell.row && (has_bit span.mask cell.col && (quadrant_at half span.row cell.col == k))) ≡ ((is_at span cell.step cell.row && has_bit span.mask cell.col) && lies_at half k cell)
    at false e = rw e refl
    at true e = rw e (ap (λ r. has_bit span.mask cell.col && (quadrant_at half r cell.col == k)) (is_at_parts span cell.step cell.row e).1)

-- a span without cells there
pub none_span : (half k : ℕ) (span : Span) (cell : Cell) (mask : ℕ) → mask ≡ 0 → ((c : ℕ) → has_bit mask c ≡ (has_bit span.mask c && (quadrant_at half span.row c == k))) → (in_span span cell && lies_at half k cell) ≡ false
none_span half k span cell mask none bits =
    sym (part_span half k span (record { step = span.step; row = span.row; mask = 0 }) cell refl refl (λ c. ap (λ m. has_bit m c) (sym none) ∙ bits c)) ∙ (ap (λ b. is_at span cell.step cell.row && b) (no_bit cell.col) ∙ and_none (is_at span cell.step cell.row))
  where
    and_none : (b : Bool) → (b && false) ≡ false
    and_none true = refl
    and_none false = refl

-- a span beside the quadrant
pub off_span : (half : ℕ) (down right : Bool) (span : Span) (cell : Cell) → is_beside half down span ≡ false → (in_span span cell && lies_at half (2 * one down + one right) cell) ≡ false
off_span half down right span cell off = at (in_span span cell) refl
  where
    at : (b : Bool) → in_span span cell ≡ b → (in_span span cell && lies_at half (2 * one down + one right) cell) ≡ false
    at false e = rw e refl
    at true e =
        let row : span.row ≡ cell.row = (is_at_parts span cell.step cell.row (and_parts (is_at span cell.step cell.row) (has_bit span.mask cell.col) e).0).1 in
        rw e (corner_not down right (nat_le half cell.row) (nat_le half cell.col) (sym (ap (λ r. if down then nat_le half r else not (nat_le half r)) row) ∙ off))

pub or_none : (a b : Bool) → b ≡ false → a ≡ (a || b)
or_none true b e = refl
or_none false b e = sym e

-- one more
pub taken_more : {A : Type 0} (xs : List A) (i : ℕ) (d : A) → i < length xs → take (i + 1) xs ≡ take i xs ++ get_or xs i d ∷ []
taken_more xs i d lt = ap (λ k. take k xs) (next_of_suc i) ∙ up xs i d lt
  where
    up : {A : Type 0} (xs : List A) (i : ℕ) (d : A) → i < length xs → take (suc i) xs ≡ take i xs ++ get_or xs i d ∷ []
    up [] i d lt = absurd (omega arith)
    up (y ∷ ys) zero d lt = refl
    up (y ∷ ys) (suc i) d lt = ap (λ l. y ∷ l) (up ys i d (omega arith))

pub cells_more : (half k : ℕ) (xs part part' : List Span) (i : ℕ) (d : Span) (cell : Cell) → i < length xs → in_spans part' cell ≡ (in_spans part cell || (in_span (get_or xs i d) cell && lies_at half k cell)) → in_spans part cell ≡ (in_spans (take i xs) cell && lies_at half k cell)
    → in_spans part' cell ≡ (in_spans (take (i + 1) xs) cell && lies_at half k cell)
cells_more half k xs part part' i d cell lt more old =
    let x : Span = get_or xs i d in
    more ∙ (ap (λ b. b || (in_span x cell && lies_at half k cell)) old
    ∙ (over (in_spans (take i xs) cell) (in_span x cell) (lies_at half k cell)
    ∙ sym (ap (λ l. in_spans l cell && lies_at half k cell) (taken_more xs i d lt) ∙ ap (λ b. b && lies_at half k cell) (list_any-append (λ s. in_span s cell) (take i xs) (x ∷ [])))))
  where
    over : (a b c : Bool) → ((a && c) || (b && c)) ≡ ((a || (b || false)) && c)
    over true true true = refl
    over true true false = refl
    over true false true = refl
    over true false false = refl
    over false true true = refl
    over false true false = refl
    over false false true = refl
    over false false false = refl

-- how many spans have passed the test
kept_more : (p : Span → Bool) (xs : List Span) (i : ℕ) (d : Span) → i < length xs → length (filter p (take (i + 1) xs)) ≡ length (filter p (take i xs)) + one (p (get_or xs i d))
kept_more p xs i d lt = ap (λ l. length (filter p l)) (taken_more xs i d lt) ∙ (ap length (filter-append p (take i xs) (get_or xs i d ∷ [])) ∙ (length-append (filter p (take i xs)) (filter p (get_or xs i d ∷ [])) ∙ ap (λ k. length (filter p (take i xs)) + k) (at (p (get_or xs i d)) (get_or xs i d))))
  where
    at : (b : Bool) (x : Span) → length (if b then x ∷ [] else []) ≡ one b
    at true x = refl
    at false x = refl

kept_all : (p : Span → Bool) (xs : List Span) (i : ℕ) → length (filter p (take i xs)) ≤ length (filter p xs)
kept_all p [] zero = omega arith
kept_all p [] (suc i) = omega arith
kept_all p (y ∷ ys) zero = omega arith
kept_all p (y ∷ ys) (suc i) = at (p y) (filter p (take i ys)) (filter p ys) (kept_all p ys i)
  where
    at : (b : Bool) (l m : List Span) → length l ≤ length m → length (if b then y ∷ l else l) ≤ length (if b then y ∷ m else m)
    at true l m le = omega arith
    at false l m le = le

pub room_for : (p : Span → Bool) (xs part : List Span) (i room : ℕ) (d : Span) → i < length xs → length part ≤ length (filter p (take i xs)) → length (filter p xs) ≤ room → p (get_or xs i d) ≡ true → length part < room
room_for p xs part i room d lt le fits yes' = omega (arith, le, fits, kept_more p xs i d lt, kept_all p xs (i + 1), ap one yes')

pub count_more : (p : Span → Bool) (xs part part' : List Span) (i : ℕ) (d : Span) → i < length xs → length part ≤ length (filter p (take i xs)) → length part' ≤ length part + one (p (get_or xs i d)) → length part' ≤ length (filter p (take (i + 1) xs))
count_more p xs part part' i d lt le more = omega (arith, le, more, kept_more p xs i d lt)

-- one set more
module _ (half : ℕ) where
  abbrev IsPart : List Spans → List Quarters → ℕ → ℕ → Cell → Type 0
  IsPart sheets sets k q cell = in_spans (part (set_at sets k) q) cell ≡ (in_spans (spans_at sheets k) cell && lies_at half q cell)

  cut_at : (sheets : List Spans) (sets : List Quarters) (sheet : Spans) (set : Quarters) (k q : ℕ) (cell : Cell) → length sets ≡ length sheets → ((j : ℕ) → IsPart sheets sets j q cell) → in_spans (part set q) cell ≡ (in_spans sheet.spans cell && lies_at half q cell)
      → IsPart (sheets ++ sheet ∷ []) (sets ++ set ∷ []) k q cell
  cut_at [] [] sheet set zero q cell e old new = new
  cut_at [] [] sheet set (suc k) q cell e old new = old k
  cut_at [] (t ∷ ts) sheet set k q cell e old new = absurd (omega (arith, e))
  cut_at (s ∷ ss) [] sheet set k q cell e old new = absurd (omega (arith, e))
  cut_at (s ∷ ss) (t ∷ ts) sheet set zero q cell e old new = old zero
  cut_at (s ∷ ss) (t ∷ ts) sheet set (suc k) q cell e old new = cut_at ss ts sheet set k q cell (omega (arith, e)) (λ j. old (suc j)) new

  pub cut_one : (sheets : List Spans) (sets sets' : List Quarters) (sheet : Spans) (set : Quarters) → AreCut half sheets sets → sets' ≡ sets ++ set ∷ [] → ((q : ℕ) (cell : Cell) → q < 4 → in_spans (part set q) cell ≡ (in_spans sheet.spans cell && lies_at half q cell)) → AreCut half (sheets ++ sheet ∷ []) sets'
  cut_one sheets sets sets' sheet set old e new = subst (AreCut half (sheets ++ sheet ∷ [])) (sym e) record {
    count = length-append sets (set ∷ []) ∙ (ap (λ k. k + 1) old.count ∙ sym (length-append sheets (sheet ∷ [])));
    cells = λ k q cell b. cut_at sheets sets sheet set k q cell old.count (λ j. old.cells j q cell b) (new q cell b);
  }

  pub cut_none : AreCut half [] []
  cut_none = record { count = refl; cells = λ k q cell b. refl }

-- the cells of the parts lie where those of the sets do
past : {A : Type 0} (xs : List A) (k : ℕ) (d : A) → length xs ≤ k → get_or xs k d ≡ d
past [] k d le = refl
past (x ∷ xs) zero d le = absurd (omega arith)
past (x ∷ xs) (suc k) d le = past xs k d (omega arith)

pub within_cut : (half n horizon : ℕ) (sheets sheets' : List Spans) (sets : List Quarters) → sheets' ≡ sheets → AreCut half sheets' sets → AreOnGrid n horizon sheets → AreWithin n horizon sets
within_cut half n horizon sheets sheets' sets same cut grid = record { tiles = λ k q lt cell h. (there k cell (whole k q lt cell h)).0 cell (whole k q lt cell h); ahead = λ k q lt cell h. (there k cell (whole k q lt cell h)).1 cell (whole k q lt cell h) }
  where
    none : Spans
    none = record { spans = []; room = 0 }

    whole : (k q : ℕ) → q < 4 → (cell : Cell) → in_spans (part (set_at sets k) q) cell ≡ true → in_spans (spans_at sheets k) cell ≡ true
    whole k q lt cell h = ap (λ (s : List Spans). in_spans (spans_at s k) cell) (sym same) ∙ (and_parts (in_spans (spans_at sheets' k) cell) (lies_at half q cell) (sym (cut.cells k q cell lt) ∙ h)).0

    there : (k : ℕ) (cell : Cell) → in_spans (spans_at sheets k) cell ≡ true → AreTiles n (spans_at sheets k) × AreAhead 0 horizon (spans_at sheets k)
    there k cell h = dite (dec_le (length sheets) k) (λ le. absurd (differ (sym h ∙ ap (λ (s : Spans). in_spans s.spans cell) (past sheets k none le)))) (λ lt. grid k none (omega (arith, lt)))

-- the part of a set in the quadrant of a corner, by what the corner is
pub part_at : (half : ℕ) (down right : Bool) (spans a : List Span) {k : Corner} → k ≡ record { half = half; down = down; right = right } → ((cell : Cell) → in_spans a cell ≡ (in_spans spans cell && lies_at k.half (2 * one k.down + one k.right) cell))
    → (cell : Cell) → in_spans a cell ≡ (in_spans spans cell && lies_at half (2 * one down + one right) cell)
part_at half down right spans a is p cell = p cell ∙ ap (λ (x : Corner). in_spans spans cell && lies_at x.half (2 * one x.down + one x.right) cell) is

-- the room for them
pub room_at : (half : ℕ) (down right : Bool) (spans : List Span) (room : ℕ) {k : Corner} → k ≡ record { half = half; down = down; right = right } → length (filter (is_beside half down) spans) ≤ room → length (filter (is_beside k.half k.down) spans) ≤ room
room_at half down right spans room is le = subst (λ (x : Corner). length (filter (is_beside x.half x.down) spans) ≤ room) (sym is) le

-- the parts of one set in the four quadrants
pub four_parts : (half : ℕ) (spans a b c d : List Span) → ((cell : Cell) → in_spans a cell ≡ (in_spans spans cell && lies_at half (2 * one false + one false) cell)) → ((cell : Cell) → in_spans b cell ≡ (in_spans spans cell && lies_at half (2 * one false + one true) cell))
    → ((cell : Cell) → in_spans c cell ≡ (in_spans spans cell && lies_at half (2 * one true + one false) cell)) → ((cell : Cell) → in_spans d cell ≡ (in_spans spans cell && lies_at half (2 * one true + one true) cell))
    → (q : ℕ) (cell : Cell) → q < 4 → in_spans (part (a ∷ b ∷ c ∷ d ∷ []) q) cell ≡ (in_spans spans cell && lies_at half q cell)
four_parts half spans a b c d pa pb pc pd zero cell lt = pa cell
four_parts half spans a b c d pa pb pc pd (suc zero) cell lt = pb cell
four_parts half spans a b c d pa pb pc pd (suc (suc zero)) cell lt = pc cell
four_parts half spans a b c d pa pb pc pd (suc (suc (suc zero))) cell lt = pd cell
four_parts half spans a b c d pa pb pc pd (suc (suc (suc (suc q)))) cell lt = absurd (omega (arith, lt))
