-- What a taker promises of a further line.
use Rattle.std.specs.Prelude.{◌≡◌, ℕ, List, [], ◌∷◌, ◌++◌, Result, Ok, Err}
use Rattle.aim_io.specs.Lines.{Line}
use Rattle.aim_script_reading.specs.declared.decisions.Why.TheVariants as why
use Rattle.aim_script_reading.specs.declared.decisions.Bound.TheVariants as bound
use Rattle.aim_script_reading.specs.declared.decisions.Refused.TheVariants as refused
use Rattle.aim_script_reading.specs.declared.takers.Refusal.{Refusal}
use Rattle.aim_script_reading.specs.declared.takers.Refusal.TheVariants as refusal
use Rattle.aim_script_reading.specs.Rules.{Rules}
use Rattle.aim_script_reading.specs.Verdicts.{decides, goes_on, judge, number_after}

-- what the line behind those comes to, by what then stands, by what then rests, and by what holds where the taker halts
abbrev pub Judged : {L K M H : Type 0} → Rules L K M → List L → List ℕ → Result (Unit {0}) (Refusal K M H) → (List L → Type 0) → Type 0 → (H → Type 0) → Type 0
Judged {L = L} r before bytes (Ok u) Stands Rests Halts = (l : L) × (judge r before (Line bytes) ≡ goes_on l) × Stands (before ++ l ∷ [])
Judged r before bytes (Err (refusal.Bad k)) Stands Rests Halts = (judge r before (Line bytes) ≡ decides (refused.Bad (number_after before) (why.Fault k))) × Rests
Judged r before bytes (Err (refusal.Limit m)) Stands Rests Halts = (judge r before (Line bytes) ≡ decides (refused.Limit (bound.Further m))) × Rests
Judged r before bytes (Err (refusal.Halt h)) Stands Rests Halts = Halts h
