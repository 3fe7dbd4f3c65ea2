-- Which bytes decide what a script comes to, what was read where none do, and what was read at all.
use Rattle.std.specs.Prelude.{◌≡◌, ◌≢◌, ◌≤◌, ◌<◌, ℕ, List, [], ◌∷◌, ◌++◌, length, Option, None, Some, IfSome}
use Rattle.std.specs.List.{AllByRecursion}
use Rattle.std.specs.Io.KnownBytes.{Consumes}
use Rattle.aim_io.specs.Lines.{Outcome, Line, IsOpen, joined_lines}
use Rattle.aim_script_reading.specs.Rules.{Rules}
use Rattle.aim_script_reading.specs.Verdicts.{Judgement, decides, goes_on, judge, verdict}

abbrev pub unless_decided : {L K M : Type 0} → List L → Judgement L K M → (List L → Option (List L)) → Option (List L)
unless_decided before (decides d) next = None
unless_decided before (goes_on l) next = next (before ++ l ∷ [])

-- the script with further answers, if none of them decides
abbrev pub script_with : {L K M : Type 0} → Rules L K M → List L → List Outcome → Option (List L)
script_with r before [] = Some before
script_with r before (o ∷ os) = unless_decided before (judge r before o) (λ more. script_with r more os)

-- the script with further lines, if none of them decides
abbrev pub script_after : {L K M : Type 0} → Rules L K M → List L → List (List ℕ) → Option (List L)
script_after r before [] = Some before
script_after r before (line ∷ lines) = unless_decided before (judge r before (Line line)) (λ more. script_after r more lines)

-- whatever stands behind these bytes, the script comes to the same
abbrev pub AreDecided : {L K M : Type 0} → Rules L K M → List ℕ → Type 0
AreDecided r bytes = (more : List ℕ) → verdict r (bytes ++ more) ≡ verdict r bytes

-- what the script comes to may still change: it does with these bytes behind
pub record AreUndecided {L K M : Type 0} (r : Rules L K M) (bytes : List ℕ) : Type 0 where
  pub more : List ℕ
  pub changes : verdict r (bytes ++ more) ≢ verdict r bytes

-- of these bytes no line decides, and no limit does: whole lines that make a script, and the beginning of a further one
pub record HasNoDecision {L K M : Type 0} (r : Rules L K M) (bytes : List ℕ) : Type 0 where
  pub lines : List (List ℕ)
  pub part : List ℕ
  pub is : bytes ≡ joined_lines lines ++ part
  pub within : length bytes ≤ 67108864
  pub each : AllByRecursion IsOpen lines
  pub few : length lines ≤ 262144
  pub is_open : IsOpen part
  pub further : 0 < length part → length lines < 262144
  pub before : List L
  pub script : script_after r [] lines ≡ Some before

-- the bytes that were read decide nothing
pub record StopsShort {L K M : Type 0} (r : Rules L K M) (left_old left_new : Option (List ℕ)) : Type 0 where
  pub bytes : List ℕ
  pub taken : Consumes left_old left_new bytes
  pub undecided : AreUndecided r bytes

-- the last read was needed: what was read before it decides nothing; `piece` is what that read gave
pub record LastNeededBy {L K M : Type 0} (r : Rules L K M) (left_old left_new : Option (List ℕ)) (last : Option ℕ) : Type 0 where
  pub front : List ℕ
  pub piece : List ℕ
  pub taken : Consumes left_old left_new (front ++ piece)
  pub undecided : AreUndecided r front
  pub told : IfSome last (λ n. n ≡ length piece)

-- no more than so many bytes are gone
pub record TakesAtMost (most : ℕ) (left_old left_new : Option (List ℕ)) : Type 0 where
  pub bytes : List ℕ
  pub taken : Consumes left_old left_new bytes
  pub within : length bytes ≤ most
