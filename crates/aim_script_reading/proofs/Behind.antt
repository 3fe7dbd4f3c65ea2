-- A script behind whole lines, none of which decides.
use Rattle.std.proofs.Common.{◌≡◌, ℕ, List, [], ◌∷◌, ◌++◌, Some, refl, ap, ◌∙◌}
use Rattle.std.specs.Option.{unwrap_or}
use Rattle.aim_io.specs.Lines.{Line}
use Rattle.aim_script_reading.specs.Rules.{Rules}
use Rattle.aim_script_reading.specs.Short.{script_after}
use Rattle.aim_script_reading.specs.Verdicts.{Judgement, decides, goes_on, judge}

pub some_is : {A : Type 0} (x y : A) → Some x ≡ Some y → x ≡ y
some_is x y e = ap (λ o. unwrap_or o x) e

script_more : {L K M : Type 0} (r : Rules L K M) (start : List L) (lines : List (List ℕ)) (line : List ℕ) (before : List L) → script_after r start lines ≡ Some before → script_after r start (lines ++ line ∷ []) ≡ script_after r before (line ∷ [])
script_more r start [] line before e = ap (λ s. script_after r s (line ∷ [])) (some_is start before e)
script_more {L = L} {K = K} {M = M} r start (x ∷ lines) line before e = at (judge r start (Line x)) refl (λ s h. script_more r s lines line before h) e
  where
    at : (j : Judgement L K M) → judge r start (Line x) ≡ j → ((s : List L) → script_after r s lines ≡ Some before → script_after r s (lines ++ line ∷ []) ≡ script_after r before (line ∷ [])) → script_after r start (x ∷ lines) ≡ Some before
        → script_after r start (x ∷ (lines ++ line ∷ [])) ≡ script_after r before (line ∷ [])
    at (decides d) j next e = absurd (cc (rw j at e))
    at (goes_on l) j next e = rw j (next (start ++ l ∷ []) (rw j at e))

-- a script with one line more
pub script_push : {L K M : Type 0} (r : Rules L K M) (lines : List (List ℕ)) (line : List ℕ) (before : List L) (l : L) → script_after r [] lines ≡ Some before → judge r before (Line line) ≡ goes_on l
    → script_after r [] (lines ++ line ∷ []) ≡ Some (before ++ l ∷ [])
script_push r lines line before l e j = script_more r [] lines line before e ∙ (rw j refl)
