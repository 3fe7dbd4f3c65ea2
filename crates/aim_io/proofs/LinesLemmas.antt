-- The lines of an input, and what is answered of them.
use Rattle.std.proofs.Common.{◌≡◌, ℕ, suc, ◌+◌, ◌<◌, ◌≤◌, List, [], ◌∷◌, ◌++◌, length, take, drop, Some, None, refl, sym, ap, ◌∙◌, arith, nat_le, ◌==◌}
use Rattle.std.specs.declared.option.Option.{Option}
use Rattle.std.proofs.lemmas.Bool.{ne_eqb, le-leb, lt-leb, lt-ltb, le-ltb, and_right, cond_both}
use Rattle.std.proofs.lemmas.List.{length-append, length-take-le, append_assoc, take-append-drop}
use Rattle.aim_io.specs.Lines.{onto_first, lines_of, InputFault, LongLine, TooManyBytes, TooManyLines, Outcome, Line, Stop, place_behind, fault_at, outcome, outcomes_from, outcomes, HasNoEnd, IsOpen, ShowsLines, ShowsLong, ShowsBytes}

-- ---- the first line of some bytes

lines_step : (line rest : List ℕ) → HasNoEnd line → lines_of (line ++ 10 ∷ rest) ≡ line ∷ lines_of rest
lines_step [] rest none = refl
lines_step (b ∷ line) rest none = rw (ne_eqb b 10 none.0, lines_step line rest none.1) refl

lines_last : (line : List ℕ) → HasNoEnd line → 0 < length line → lines_of line ≡ line ∷ []
lines_last [] none some = absurd (omega arith)
lines_last (b ∷ []) none some = rw (ne_eqb b 10 none.0) refl
lines_last (b ∷ c ∷ line) none some = rw (ne_eqb b 10 none.0, lines_last (c ∷ line) none.1 (omega arith)) refl

-- the first of these lines has so many bytes at least
record FirstOf (lines : List (List ℕ)) (size : ℕ) : Type 0 where
  line : List ℕ
  more : List (List ℕ)
  is : lines ≡ line ∷ more
  long : size ≤ length line

first_onto : (b : ℕ) (lines : List (List ℕ)) (size : ℕ) → FirstOf lines size → FirstOf (onto_first b lines) (suc size)
first_onto b lines size first = record { line = b ∷ first.line; more = first.more; is = ap (onto_first b) first.is; long = omega (arith, first.long) }

first_onto_any : (b : ℕ) (lines : List (List ℕ)) → FirstOf (onto_first b lines) 0
first_onto_any b [] = record { line = b ∷ []; more = []; is = refl; long = omega arith }
first_onto_any b (line ∷ lines) = record { line = b ∷ line; more = lines; is = refl; long = omega arith }

first_any : (bytes : List ℕ) → 0 < length bytes → FirstOf (lines_of bytes) 0
first_any [] some = absurd (omega arith)
first_any (b ∷ bytes) some = cond_both (b == 10) ([] ∷ lines_of bytes) (onto_first b (lines_of bytes)) (λ (l : List (List ℕ)). FirstOf l 0)
    (λ _. record { line = []; more = lines_of bytes; is = refl; long = omega arith }) (λ _. first_onto_any b (lines_of bytes))

first_front : (front rest : List ℕ) → HasNoEnd front → 0 < length (front ++ rest) → FirstOf (lines_of (front ++ rest)) (length front)
first_front [] rest none some = first_any rest some
first_front (b ∷ []) [] none some = rw (ne_eqb b 10 none.0) (record { line = b ∷ []; more = []; is = refl; long = omega arith })
first_front (b ∷ []) (c ∷ rest) none some = rw (ne_eqb b 10 none.0) (first_onto b (lines_of (c ∷ rest)) 0 (first_any (c ∷ rest) (omega arith)))
first_front (b ∷ c ∷ front) rest none some =
    rw (ne_eqb b 10 none.0) (first_onto b (lines_of (c ∷ (front ++ rest))) (length (c ∷ front)) (first_front (c ∷ front) rest none.1 (omega arith)))

-- ---- one answer

after_line : (total given place : ℕ) (line : List ℕ) (more : List (List ℕ)) → fault_at total given place line ≡ None
    → outcomes_from total given place (line ∷ more) ≡ Line line ∷ outcomes_from total (given + 1) (place_behind total place line) more
unfolding outcomes_from
after_line total given place line more none =
    ap (λ (f : Option InputFault). outcome f line (outcomes_from total (given + 1) (place_behind total place line) more)) none

at_fault : (total given place : ℕ) (line : List ℕ) (more : List (List ℕ)) (fault : InputFault) → fault_at total given place line ≡ Some fault
    → outcomes_from total given place (line ∷ more) ≡ Stop fault ∷ []
unfolding outcomes_from
at_fault total given place line more fault is =
    ap (λ (f : Option InputFault). outcome f line (outcomes_from total (given + 1) (place_behind total place line) more)) is

nothing : (total given place : ℕ) → outcomes_from total given place [] ≡ []
unfolding outcomes_from
nothing total given place = refl

pub outcomes_none : (given place : ℕ) → outcomes given place [] ≡ []
unfolding outcomes_from
outcomes_none given place = refl

no_fault : (total given place : ℕ) (line : List ℕ) → given < 262144 → length line ≤ 400 → place_behind total place line ≤ 67108864
    → fault_at total given place line ≡ None
no_fault total given place line few short within =
    rw (lt-leb 262144 given few, lt-leb 401 (length line) (omega arith), le-ltb 67108864 (place_behind total place line) within) refl

fault_lines : (total given place : ℕ) (line : List ℕ) → 262144 ≤ given → fault_at total given place line ≡ Some TooManyLines
fault_lines total given place line all = rw (le-leb 262144 given all) refl

fault_long : (total given place : ℕ) (line : List ℕ) → given < 262144 → 401 ≤ length line → place + 401 ≤ 67108864
    → fault_at total given place line ≡ Some (LongLine (given + 1))
fault_long total given place line few long within =
    rw (lt-leb 262144 given few, le-leb 401 (length line) long, le-leb (place + 401) 67108864 within) refl

fault_bytes : (total given place : ℕ) (line : List ℕ) → given < 262144 → 67108864 < place + 401 → 67108864 < place_behind total place line
    → fault_at total given place line ≡ Some TooManyBytes
fault_bytes total given place line few late past =
    rw (lt-leb 262144 given few, and_right (nat_le 401 (length line)) (nat_le (place + 401) 67108864) (lt-leb (place + 401) 67108864 late), lt-ltb 67108864 (place_behind total place line) past) refl

-- ---- the next answer, by what the bytes to come begin with

pub outcomes_line : (given place : ℕ) (line rest : List ℕ) → given < 262144 → IsOpen line → place + length line + 1 ≤ 67108864
    → outcomes given place (line ++ 10 ∷ rest) ≡ Line line ∷ outcomes (given + 1) (place + length line + 1) rest
outcomes_line given place line rest few is_open within =
    let total : ℕ = place + length (line ++ 10 ∷ rest) in
    let size : length (line ++ 10 ∷ rest) ≡ length line + (1 + length rest) = length-append line (10 ∷ rest) ∙ omega arith in
    let behind : place_behind total place line ≡ place + length line + 1 = omega (arith, size) in
    let same : total ≡ place + length line + 1 + length rest = omega (arith, size) in
    ap (outcomes_from total given place) (lines_step line rest is_open.no_end)
    ∙ after_line total given place line (lines_of rest) (no_fault total given place line few is_open.short (omega (arith, behind, within)))
    ∙ ap (λ (n : ℕ). Line line ∷ outcomes_from total (given + 1) n (lines_of rest)) behind
    ∙ ap (λ (n : ℕ). Line line ∷ outcomes_from n (given + 1) (place + length line + 1) (lines_of rest)) same

pub outcomes_last : (given place : ℕ) (line : List ℕ) → given < 262144 → IsOpen line → 0 < length line → place + length line ≤ 67108864
    → outcomes given place line ≡ Line line ∷ outcomes (given + 1) (place + length line) []
outcomes_last given place line few is_open some within =
    let total : ℕ = place + length line in
    let behind : place_behind total place line ≤ 67108864 = omega (arith, within) in
    ap (outcomes_from total given place) (lines_last line is_open.no_end some)
    ∙ after_line total given place line [] (no_fault total given place line few is_open.short behind)
    ∙ ap (λ (l : List Outcome). Line line ∷ l) (nothing total (given + 1) (place_behind total place line) ∙ sym (outcomes_none (given + 1) (place + length line)))

stop_lines : (given place : ℕ) (bytes : List ℕ) → ShowsLines given bytes → outcomes given place bytes ≡ Stop TooManyLines ∷ []
stop_lines given place bytes shows =
    let first = first_any bytes shows.further in
    ap (outcomes_from (place + length bytes) given place) first.is ∙ at_fault _ _ _ _ _ _ (fault_lines (place + length bytes) given place first.line shows.given_all)

stop_long : (given place : ℕ) (front rest : List ℕ) → given < 262144 → HasNoEnd front → length front ≡ 401 → place + 401 ≤ 67108864
    → outcomes given place (front ++ rest) ≡ Stop (LongLine (given + 1)) ∷ []
stop_long given place front rest few no_end long within =
    let first = first_front front rest no_end (omega (arith, length-append front rest)) in
    let total : ℕ = place + length (front ++ rest) in
    ap (outcomes_from total given place) first.is ∙ at_fault _ _ _ _ _ _ (fault_long total given place first.line few (omega (arith, first.long)) within)

stop_bytes : (given place : ℕ) (front rest : List ℕ) → given < 262144 → HasNoEnd front → length front ≤ 400 → place + length front ≡ 67108864 → 0 < length rest
    → outcomes given place (front ++ rest) ≡ Stop TooManyBytes ∷ []
stop_bytes given place front rest few no_end short last further =
    let first = first_front front rest no_end (omega (arith, length-append front rest)) in
    let total : ℕ = place + length (front ++ rest) in
    let past : 67108864 < place_behind total place first.line = omega (arith, first.long, length-append front rest) in
    ap (outcomes_from total given place) first.is ∙ at_fault _ _ _ _ _ _ (fault_bytes total given place first.line few (omega arith) past)

-- what the bytes held show is the answer, whatever comes behind them
pub long_front : (given place : ℕ) (held rest : List ℕ) → ShowsLong given place held → outcomes given place (held ++ rest) ≡ Stop (LongLine (given + 1)) ∷ []
long_front given place held rest shows =
    let front = take 401 held in
    let whole : held ++ rest ≡ front ++ (drop 401 held ++ rest) =
    ap (λ (l : List ℕ). l ++ rest) (sym (take-append-drop 401 held)) ∙ append_assoc front (drop 401 held) rest in
    ap (outcomes given place) whole
    ∙ stop_long given place front (drop 401 held ++ rest) shows.few shows.no_end (length-take-le 401 held shows.long) shows.within

pub bytes_front : (given place : ℕ) (held rest : List ℕ) → ShowsBytes given place held → outcomes given place (held ++ rest) ≡ Stop TooManyBytes ∷ []
bytes_front given place held rest shows =
    let whole : held ++ rest ≡ shows.front ++ (shows.rest ++ rest) =
    ap (λ (l : List ℕ). l ++ rest) shows.split ∙ append_assoc shows.front shows.rest rest in
    ap (outcomes given place) whole
    ∙ stop_bytes given place shows.front (shows.rest ++ rest) shows.few shows.no_end shows.short shows.last (omega (arith, shows.further, length-append shows.rest rest))

pub lines_front : (given place : ℕ) (held rest : List ℕ) → ShowsLines given held → outcomes given place (held ++ rest) ≡ Stop TooManyLines ∷ []
lines_front given place held rest shows =
    stop_lines given place (held ++ rest) (record { given_all = shows.given_all; further = omega (arith, shows.further, length-append held rest) })
