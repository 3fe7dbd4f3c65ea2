-- What it means that a verdict is of the first line that decides.
use Rattle.std.specs.Prelude.{◌≡◌, ◌⊎◌, List, [], ◌∷◌, ◌++◌, Some}
use Rattle.aim_io.specs.Lines.{Outcome}
use Rattle.aim_script_reading.specs.declared.decisions.Refused.{Refused}
use Rattle.aim_script_reading.specs.Rules.{Rules}
use Rattle.aim_script_reading.specs.Short.{script_with}
use Rattle.aim_script_reading.specs.Verdicts.{Verdict, at_end, decides, judge}

-- of these answers, behind the lines from which they start, those before one decide nothing and make these lines, and that
-- one decides so
pub record FirstDecides {L K M : Type 0} (r : Rules L K M) (start : List L) (answers : List Outcome) (before : List L) (d : Refused K M) : Type 0 where
  pub fronts : List Outcome
  pub one : Outcome
  pub others : List Outcome
  pub split : answers ≡ fronts ++ one ∷ others
  pub quiet : script_with r start fronts ≡ Some before
  pub is : judge r before one ≡ decides d

-- the verdict is of the first of the answers that decides, or none decides and it is of the end of the input
abbrev pub IsOfTheFirst : {L K M : Type 0} → Rules L K M → List Outcome → Verdict L K M → Type 0
IsOfTheFirst {K = K} {M = M} r answers v =
    ((d : Refused K M) × FirstDecides r [] answers v.before d × (v.refused ≡ Some d)) ⊎ ((script_with r [] answers ≡ Some v.before) × (v.refused ≡ at_end r v.before))
