-- A chart is its rows, one after the other.
use Rattle.std.proofs.Common.{◌≡◌, ℕ, zero, suc, ◌+◌, ◌-◌, ◌<◌, ◌≤◌, Bool, true, false, ◌&&◌, not, nat_lt, List, [], ◌∷◌, ◌++◌, length, map, take, drop, get_or, Option, refl, sym, ap, ◌∙◌, subst, arith, append_assoc, if◌then◌else◌}
use Rattle.std.specs.Prelude.{reverse, flat_map}
use Rattle.std.specs.List.{range_with_len}
use Rattle.std.specs.Io.KnownBytes.{Appends}
use Rattle.std.proofs.KnownBytes.{Appends-trans}
use Rattle.std.proofs.lemmas.List.{append-nil, get_or-reverse, length-reverse, take_all, take_more, take-append-drop}
use Rattle.std.proofs.lemmas.List.FromFn.{length-range_with_len, get_or-range_with_len}
use Rattle.std.proofs.lemmas.Grind.{flat_map-append}
use Rattle.aim_io.specs.Known.{AppendsFront}
use Rattle.aim_messages.specs.declared.entries.Entry.{Entry}
use Rattle.aim_geometry.specs.Cells.{Cell}
use Rattle.aim_geometry.specs.Rects.{has_bit}
use Rattle.aim_layout.specs.Intersection.{Intersection}
use Rattle.aim_rules.specs.History.{fresh, now_of}
use Rattle.aim_rules.specs.Holds.{reservations}
use Rattle.aim_rules.specs.Charts.{mark, blank_row, chart_row, chart}
use Rattle.aim_line_session.specs.Charted.{Marks}
use Rattle.aim_replay.specs.Charted.{mark_of, row_text}
use Rattle.aim_book.specs.Charted.{is_claimed_by_some, is_held}

map_same : (f g : ℕ → ℕ) (a n : ℕ) → ((x : ℕ) → x < a + n → f x ≡ g x) → map f (range_with_len a n) ≡ map g (range_with_len a n)
map_same f g a zero same = refl
map_same f g a (suc n) same = rw (same a (omega arith), map_same f g (a + 1) n (λ x below. same x (omega arith))) refl

-- masks that mark a row give its characters
pub marks_are : (i : Intersection) (h : List Entry) (row step held claimed : ℕ) → i.grid.n ≤ 64 → Marks i h row step held claimed → map (mark_of held claimed) (range_with_len 0 i.grid.n) ++ 10 ∷ [] ≡ row_text i h step row
marks_are i h row step held claimed few m =
    ap (λ (xs : List ℕ). xs ++ 10 ∷ []) (go (nat_lt step (now_of h 0)) m.held_columns m.claimed_columns) ∙ sym (joined (nat_lt step (now_of h 0)))
  where
    at : ℕ → Cell
    at col = record { row = row; col = col; step = step }

    chars : Bool → ℕ → ℕ
    chars past col = if past then 46 else mark i h (reservations i (fresh h) (now_of h 0)) (at col)

    go : (past : Bool) → ((col : ℕ) → has_bit held col ≡ (not past && is_held i h (at col))) → ((col : ℕ) → col < 64 → has_bit claimed col ≡ (not past && is_claimed_by_some i h (at col)))
        → map (mark_of held claimed) (range_with_len 0 i.grid.n) ≡ map (chars past) (range_with_len 0 i.grid.n)
    go true k c = map_same (mark_of held claimed) (chars true) 0 i.grid.n (λ col below. rw (k col, c col (omega arith)) refl)
    go false k c = map_same (mark_of held claimed) (chars false) 0 i.grid.n (λ col below. rw (k col, c col (omega arith)) refl)

    joined : (past : Bool) → (if past then blank_row i else chart_row i h (reservations i (fresh h) (now_of h 0)) step row) ≡ map (chars past) (range_with_len 0 i.grid.n) ++ 10 ∷ []
    joined true = refl
    joined false = refl

same_rows : (c xs ys : List ℕ) → length xs ≡ length ys → flat_map (λ (x : ℕ). c) xs ≡ flat_map (λ (x : ℕ). c) ys
same_rows c [] [] is = refl
same_rows c [] (y ∷ ys) is = absurd (omega arith)
same_rows c (x ∷ xs) [] is = absurd (omega arith)
same_rows c (x ∷ xs) (y ∷ ys) is = ap (λ (t : List ℕ). c ++ t) (same_rows c xs ys (omega arith))

-- the rows, the north one first
abbrev pub rows_of : Intersection → List ℕ
rows_of i = reverse (range_with_len 0 i.grid.n)

pub chart_is : (i : Intersection) (h : List Entry) (step : ℕ) → flat_map (row_text i h step) (rows_of i) ≡ chart i h step
chart_is i h step = go (nat_lt step (now_of h 0))
  where
    go : (past : Bool) → flat_map (λ row. if past then blank_row i else chart_row i h (reservations i (fresh h) (now_of h 0)) step row) (rows_of i)
        ≡ (if past then flat_map (λ row. blank_row i) (range_with_len 0 i.grid.n) else flat_map (chart_row i h (reservations i (fresh h) (now_of h 0)) step) (rows_of i))
    go true = same_rows (blank_row i) (rows_of i) (range_with_len 0 i.grid.n) (length-reverse (range_with_len 0 i.grid.n))
    go false = refl

-- the row at a place
row_at : (n k : ℕ) → k < n → get_or (reverse (range_with_len 0 n)) k 0 ≡ n - 1 - k
row_at n k below =
    let long : length (range_with_len 0 n) ≡ n = length-range_with_len 0 n in
    get_or-reverse (range_with_len 0 n) k 0 (rw long below) ∙ rw long (get_or-range_with_len 0 n (n - 1 - k) 0 (omega arith) ∙ omega arith)

long_rows : (n : ℕ) → length (reverse (range_with_len 0 n)) ≡ n
long_rows n = length-reverse (range_with_len 0 n) ∙ length-range_with_len 0 n

-- one more row was written
pub rows_more : (f : ℕ → List ℕ) (n k : ℕ) (old mid new : Option (List ℕ)) → k < n → Appends old mid (flat_map f (take k (reverse (range_with_len 0 n)))) → Appends mid new (f (n - 1 - k)) → Appends old new (flat_map f (take (k + 1) (reverse (range_with_len 0 n))))
rows_more f n k old mid new below first next =
    let xs = reverse (range_with_len 0 n) in
    let all : take (k + 1) xs ≡ take k xs ++ (n - 1 - k) ∷ [] = take_more xs k 0 (rw (long_rows n) below) ∙ rw (row_at n k below) refl in
    let text : flat_map f (take (k + 1) xs) ≡ flat_map f (take k xs) ++ f (n - 1 - k) = rw all (flat_map-append f (take k xs) ((n - 1 - k) ∷ []) ∙ ap (λ (t : List ℕ). flat_map f (take k xs) ++ t) (append-nil (f (n - 1 - k)))) in
    subst (Appends old new) (sym text) (Appends-trans old mid new _ _ first next)

-- a row was not written whole
pub rows_front : (f : ℕ → List ℕ) (n k : ℕ) (old mid new : Option (List ℕ)) → k < n → Appends old mid (flat_map f (take k (reverse (range_with_len 0 n)))) → AppendsFront mid new (f (n - 1 - k)) → AppendsFront old new (flat_map f (reverse (range_with_len 0 n)))
rows_front f n k old mid new below first part =
    let xs = reverse (range_with_len 0 n) in
    let row = n - 1 - k in
    let done = flat_map f (take k xs) in
    let later = flat_map f (drop (k + 1) xs) in
    let one : take (k + 1) xs ≡ take k xs ++ row ∷ [] = take_more xs k 0 (rw (long_rows n) below) ∙ rw (row_at n k below) refl in
    let all : xs ≡ (take k xs ++ row ∷ []) ++ drop (k + 1) xs = sym (take-append-drop (k + 1) xs) ∙ ap (λ (t : List ℕ). t ++ drop (k + 1) xs) one in
    let here : flat_map f (take k xs ++ row ∷ []) ≡ done ++ (part.front ++ part.rest) = flat_map-append f (take k xs) (row ∷ []) ∙ ap (λ (t : List ℕ). done ++ t) (append-nil (f row) ∙ part.whole) in
    record {
      front = done ++ part.front;
      rest = part.rest ++ later;
      whole = ap (flat_map f) all ∙ flat_map-append f (take k xs ++ row ∷ []) (drop (k + 1) xs) ∙ ap (λ (t : List ℕ). t ++ later) here ∙ simp append_assoc;
      added = Appends-trans old mid new _ _ first part.added;
    }

-- all rows were written
pub rows_done : (i : Intersection) (h : List Entry) (step k : ℕ) (old new : Option (List ℕ)) → i.grid.n ≤ k → Appends old new (flat_map (row_text i h step) (take k (rows_of i))) → Appends old new (chart i h step)
rows_done i h step k old new all written =
    subst (Appends old new) (ap (flat_map (row_text i h step)) (take_all k (rows_of i) (rw (long_rows i.grid.n) all)) ∙ chart_is i h step) written
