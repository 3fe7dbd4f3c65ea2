-- Which bytes decide what a script comes to: they are looked through line by line.
use Rattle.std.proofs.Common.{◌≡◌, ◌≢◌, ◌⊎◌, inl, inr, ℕ, zero, suc, ◌+◌, ◌-◌, ◌<◌, ◌≤◌, List, [], ◌∷◌, ◌++◌, length, take, drop, Some, refl, sym, ap, ◌∙◌, subst, length-append, append_assoc, arith}
use Rattle.std.proofs.lemmas.Bool.{cases_lt}
use Rattle.std.proofs.lemmas.List.{append-nil, length-take-le, take-append-drop, take-append-le}
use Rattle.std.specs.List.{AllByRecursion}
use Rattle.aim_io.specs.Lines.{InputFault, LongLine, TooManyBytes, TooManyLines, Line, Stop, outcomes, HasNoEnd, IsOpen, joined_lines, ShowsBytes}
use Rattle.aim_io.proofs.LinesLemmas.{bytes_front, lines_front, long_front, outcomes_line}
use Rattle.aim_script_reading.specs.Rules.{Rules}
use Rattle.aim_script_reading.specs.Short.{script_after}
use Rattle.aim_script_reading.specs.Verdicts.{Judgement, decides, goes_on, judge, verdict_from}

-- ---- where a limit of the input decides

-- a fault stands here, whatever comes behind these bytes
abbrev pub Faults : ℕ → ℕ → List ℕ → Type 0
Faults given place bytes = (f : InputFault) × ((more : List ℕ) → outcomes given place (bytes ++ more) ≡ Stop f ∷ [])

all_take : {A : Type 0} (P : A → Type 0) (n : ℕ) (xs : List A) → AllByRecursion P xs → AllByRecursion P (take n xs)
all_take P zero xs all = tt
all_take P (suc n) [] all = tt
all_take P (suc n) (x ∷ xs) all = (all.0, all_take P n xs all.1)

pub all_both : {A : Type 0} (P : A → Type 0) (xs ys : List A) → AllByRecursion P xs → AllByRecursion P ys → AllByRecursion P (xs ++ ys)
all_both P [] ys all more = more
all_both P (x ∷ xs) ys all more = (all.0, all_both P xs ys all.1 more)

-- more bytes than are taken
past : (given place : ℕ) (line rest : List ℕ) → given < 262144 → HasNoEnd line → place ≤ 67108864 → 67108864 ≤ place + length line → 67108864 ≤ place + 400 → 67108864 < place + length (line ++ rest) → Faults given place (line ++ rest)
past given place line rest few none before through short more =
    let n : ℕ = 67108864 - place in
    let size : length (take n line) ≡ n = length-take-le n line (omega (arith, through)) in
    let split : line ++ rest ≡ take n line ++ (drop n line ++ rest) = ap (λ (l : List ℕ). l ++ rest) (sym (take-append-drop n line)) ∙ append_assoc (take n line) (drop n line) rest in
    let all : length (line ++ rest) ≡ length (take n line) + length (drop n line ++ rest) = ap (λ (l : List ℕ). length l) split ∙ length-append (take n line) (drop n line ++ rest) in
    let shows : ShowsBytes given place (line ++ rest) = record {
      few = few;
      front = take n line;
      rest = drop n line ++ rest;
      split = split;
      no_end = all_take (λ b. b ≢ 10) n line none;
      last = omega (arith, size, before);
      short = omega (arith, size, short);
      further = omega (arith, size, all, more, before);
    } in
    (TooManyBytes, λ behind. bytes_front given place (line ++ rest) behind shows)

-- a line of more than 400 bytes
pub too_long : (given place : ℕ) (line rest : List ℕ) → given < 262144 → HasNoEnd line → place ≤ 67108864 → 400 < length line → Faults given place (line ++ rest)
too_long given place line rest few none before long = elim (cases_lt 67108864 (place + 401)) [
  | inl late ↦ past given place line rest few none before (omega (arith, late, long)) (omega (arith, late)) (omega (arith, late, long, length-append line rest))
  | inr within ↦ (
    LongLine (given + 1),
    λ behind. long_front given place (line ++ rest) behind (record {
      few = few;
      long = omega (arith, long, length-append line rest);
      no_end = subst (λ (l : List ℕ). HasNoEnd l) (sym (take-append-le 401 line rest (omega (arith, long)))) (all_take (λ b. b ≢ 10) 401 line none);
      within = within;
    }),
  )
]

-- more lines than are taken
pub too_many : (given place : ℕ) (bytes : List ℕ) → 262144 ≤ given → 0 < length bytes → Faults given place bytes
too_many given place bytes all some = (TooManyLines, λ behind. lines_front given place bytes behind (record { given_all = all; further = some }))

-- ---- whatever comes behind

abbrev pub Same : {L K M : Type 0} → Rules L K M → List L → ℕ → ℕ → List ℕ → Type 0
Same r start given place bytes = (more : List ℕ) → verdict_from r start (outcomes given place (bytes ++ more)) ≡ verdict_from r start (outcomes given place bytes)

pub fault_is : (given place : ℕ) (bytes : List ℕ) (f : Faults given place bytes) → outcomes given place bytes ≡ Stop f.0 ∷ []
fault_is given place bytes f = ap (outcomes given place) (sym (append-nil bytes)) ∙ f.1 []

same_fault : {L K M : Type 0} (r : Rules L K M) (start : List L) (given place : ℕ) (bytes : List ℕ) → Faults given place bytes → Same r start given place bytes
same_fault r start given place bytes f = λ more. ap (verdict_from r start) (f.1 more ∙ sym (fault_is given place bytes f))

-- from here on no line of these bytes decides, and no limit does
pub record Quiet {L K M : Type 0} (r : Rules L K M) (start : List L) (given place : ℕ) (bytes : List ℕ) : Type 0 where
  pub lines : List (List ℕ)
  pub part : List ℕ
  pub is : bytes ≡ joined_lines lines ++ part
  pub within : place + length bytes ≤ 67108864
  pub each : AllByRecursion IsOpen lines
  pub few : given + length lines ≤ 262144
  pub is_open : IsOpen part
  pub further : 0 < length part → given + length lines < 262144
  pub before : List L
  pub script : script_after r start lines ≡ Some before

-- the beginning of a line
look_at_part : {L K M : Type 0} (r : Rules L K M) (start : List L) (given place : ℕ) (part : List ℕ) → HasNoEnd part → place ≤ 67108864 → given ≤ 262144 → Same r start given place part ⊎ Quiet r start given place part
look_at_part r start given place part none before few = elim (cases_lt 0 (length part)) [
  | inr empty ↦ inr (record { lines = []; part = part; is = refl; within = omega (arith, empty, before); each = tt; few = omega (arith, few); is_open = record { no_end = none; short = omega (arith, empty) }; further = λ some. absurd (omega (arith, empty, some)); before = start; script = refl })
  | inl some ↦ elim (cases_lt given 262144) [
    | inr all ↦ inl (same_fault r start given place part (too_many given place part all some))
    | inl fewer ↦ elim (cases_lt 400 (length part)) [
      | inl long ↦ inl (subst (Same r start given place) (append-nil part) (same_fault r start given place (part ++ []) (too_long given place part [] fewer none before long)))
      | inr short ↦ elim (cases_lt 67108864 (place + length part)) [
        | inl late ↦ inl (subst (Same r start given place) (append-nil part) (same_fault r start given place (part ++ []) (past given place part [] fewer none before (omega (arith, late)) (omega (arith, late, short)) (omega (arith, late, length-append part [])))))
        | inr within ↦ inr (record { lines = []; part = part; is = refl; within = within; each = tt; few = omega (arith, few); is_open = record { no_end = none; short = short }; further = λ _. omega (arith, fewer); before = start; script = refl })
      ]
    ]
  ]
]

-- a line that is taken, before others
look_at_line : {L K M : Type 0} (r : Rules L K M) (start : List L) (given place : ℕ) (line rest : List ℕ) → given < 262144 → IsOpen line → place + length line + 1 ≤ 67108864
    → ((l : L) → Same r (start ++ l ∷ []) (given + 1) (place + length line + 1) rest ⊎ Quiet r (start ++ l ∷ []) (given + 1) (place + length line + 1) rest)
    → Same r start given place (line ++ 10 ∷ rest) ⊎ Quiet r start given place (line ++ 10 ∷ rest)
look_at_line {L = L} {K = K} {M = M} r start given place line rest few unended within next = at (judge r start (Line line)) refl
  where
    told : (more : List ℕ) → verdict_from r start (outcomes given place (line ++ 10 ∷ more)) ≡ verdict_from r start (Line line ∷ outcomes (given + 1) (place + length line + 1) more)
    told more = ap (verdict_from r start) (outcomes_line given place line more few unended within)

    behind : (more : List ℕ) → (line ++ 10 ∷ rest) ++ more ≡ line ++ 10 ∷ (rest ++ more)
    behind more = append_assoc line (10 ∷ rest) more

    on : (l : L) → judge r start (Line line) ≡ goes_on l → Same r (start ++ l ∷ []) (given + 1) (place + length line + 1) rest ⊎ Quiet r (start ++ l ∷ []) (given + 1) (place + length line + 1) rest
        → Same r start given place (line ++ 10 ∷ rest) ⊎ Quiet r start given place (line ++ 10 ∷ rest)
    on l j (inl same) = inl (λ more.
        ap (λ (b : List ℕ). verdict_from r start (outcomes given place b)) (behind more) ∙ told (rest ++ more) ∙ (rw j (same more)) ∙ sym (told rest))
    on l j (inr q) = inr (record {
      lines = line ∷ q.lines;
      part = q.part;
      is = ap (λ (b : List ℕ). line ++ 10 ∷ b) q.is ∙ sym (append_assoc line (10 ∷ joined_lines q.lines) q.part);
      within = omega (arith, q.within, length-append line (10 ∷ rest));
      each = (unended, q.each);
      few = omega (arith, q.few);
      is_open = q.is_open;
      further = λ some. omega (arith, q.further some);
      before = q.before;
      script = rw j q.script;
    })

    at : (j : Judgement L K M) → judge r start (Line line) ≡ j → Same r start given place (line ++ 10 ∷ rest) ⊎ Quiet r start given place (line ++ 10 ∷ rest)
    at (decides d) j = inl (λ more. ap (λ (b : List ℕ). verdict_from r start (outcomes given place b)) (behind more) ∙ told (rest ++ more) ∙ (rw j refl) ∙ sym (told rest))
    at (goes_on l) j = on l j (next l)

pub look_at : {L K M : Type 0} (r : Rules L K M) (start : List L) (given place : ℕ) (lines : List (List ℕ)) (part : List ℕ) → AllByRecursion HasNoEnd lines → HasNoEnd part → place ≤ 67108864 → given ≤ 262144
    → Same r start given place (joined_lines lines ++ part) ⊎ Quiet r start given place (joined_lines lines ++ part)
look_at r start given place [] part all none before few = look_at_part r start given place part none before few
look_at {L = L} r start given place (line ∷ lines) part all none before few =
    subst (λ (b : List ℕ). Same r start given place b ⊎ Quiet r start given place b) (sym (append_assoc line (10 ∷ joined_lines lines) part)) (elim (cases_lt given 262144) [
      | inr full ↦ inl (same_fault r start given place _ (too_many given place (line ++ 10 ∷ rest) full (omega (arith, size))))
      | inl fewer ↦ elim (cases_lt 400 (length line)) [
        | inl long ↦ inl (same_fault r start given place _ (too_long given place line (10 ∷ rest) fewer all.0 before long))
        | inr short ↦ elim (cases_lt 67108864 (place + length line + 1)) [
          | inl late ↦ inl (same_fault r start given place _ (past given place line (10 ∷ rest) fewer all.0 before (omega (arith, late)) (omega (arith, late, short)) (omega (arith, late, size))))
          | inr within ↦ look_at_line r start given place line rest fewer (record { no_end = all.0; short = short }) within (λ l. look_at r (start ++ l ∷ []) (given + 1) (place + length line + 1) lines part all.1 none within (omega (arith, fewer)))
        ]
      ]
    ])
  where
    rest : List ℕ
    rest = joined_lines lines ++ part

    size : length (line ++ 10 ∷ rest) ≡ length line + (1 + length rest)
    size = length-append line (10 ∷ rest) ∙ omega arith
