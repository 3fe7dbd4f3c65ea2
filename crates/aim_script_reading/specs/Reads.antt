-- How the reading of a script ends.
use Rattle.std.specs.Prelude.{◌≡◌, ◌⊎◌, ℕ, ◌≤◌, true, List, length, Option, None, Some, IfSome, Result, Ok, Err, IfOk}
use Rattle.std.specs.Io.KnownBytes.{IsAtEnd}
use Rattle.aim_io.specs.Causes.{Rose}
use Rattle.aim_io.specs.declared.lines.LineFault.{LineFault}
use Rattle.aim_io.specs.declared.lines.LineFault.TheVariants as fault
use Rattle.aim_io.specs.Lines.{Outcome}
use Rattle.aim_script_reading.specs.declared.decisions.Why.TheVariants as why
use Rattle.aim_script_reading.specs.declared.decisions.Bound.TheVariants as bound
use Rattle.aim_script_reading.specs.declared.decisions.Refused.{Refused}
use Rattle.aim_script_reading.specs.declared.decisions.Refused.TheVariants as refused
use Rattle.aim_script_reading.specs.declared.takers.Refusal.{Refusal}
use Rattle.aim_script_reading.specs.declared.takers.Refusal.TheVariants as refusal
use Rattle.aim_script_reading.specs.declared.reading.Stop.{Stop}
use Rattle.aim_script_reading.specs.declared.reading.Stop.TheVariants as stop
use Rattle.aim_script_reading.specs.Rules.{Rules}
use Rattle.aim_script_reading.specs.Short.{LastNeededBy, StopsShort, TakesAtMost}
use Rattle.aim_script_reading.specs.Verdicts.{IsScript, verdict, verdict_from}

-- The taker rests behind these lines, none of which is at fault or goes past a limit; where the source tells its bytes, they stand before the one that decides, and that is
-- why the script isn't whole. Of a whole script the taker stands.
pub record Comes {T L K M : Type 0} (r : Rules L K M) (Stands Rests : List L → T → Type 0) (bytes : Option (List ℕ)) (taker : T) (refused : Option (Refused K M)) : Type 0 where
  pub before : List L
  pub few : length before ≤ 262144
  pub script : IsScript r before
  pub verdict : IfSome bytes (λ bs. verdict r bs ≡ record { before = before; refused = refused })
  pub rests : Rests before taker
  pub stands : refused ≡ None → Stands before taker
  pub whole : refused ≡ None → r.is_whole before ≡ true

-- this holds behind some lines, and where the source tells its bytes, what stands behind those decides them
pub record Behind {L K M : Type 0} (r : Rules L K M) (bytes : Option (List ℕ)) (P : List L → Type 0) : Type 0 where
  pub before : List L
  pub holds : P before
  pub known : IfSome bytes (λ bs. (rest : List Outcome) × (verdict r bs ≡ verdict_from r before rest))

-- what reading comes to, by what the source has left, its last read and its faults
pub record Reads {T S L K M H : Type 0} (r : Rules L K M) (Stands Rests : List L → T → Type 0) (Halts : List L → T → H → Type 0) (left : S → Option (List ℕ)) (last : S → Option ℕ) (faults : S → ℕ) (first now : S) (taker : T) (result : Result (Option (Refused K M)) (Stop H)) : Type 0 where
  pub comes : IfOk result (Comes r Stands Rests (left first) taker)
  pub ended : IfOk result (λ refused. refused ≡ None → IsAtEnd (left now))
  pub short : result ≡ Err stop.Read → StopsShort r (left first) (left now)
  pub read : result ≡ Err stop.Read → Rose (faults first) (faults now)
  pub stopped : result ≡ Err stop.Read → Behind r (left first) (λ before. Stands before taker)
  pub halted : (h : H) → result ≡ Err (stop.Halt h) → Behind r (left first) (λ before. Halts before taker h)
  pub source : faults first ≤ faults now
  pub needed : (now ≡ first) ⊎ LastNeededBy r (left first) (left now) (last now)
  pub most : TakesAtMost 67108865 (left first) (left now)

-- what a fault of the input comes to
abbrev pub after_fault : {K M H : Type 0} → LineFault → Result (Option (Refused K M)) (Stop H)
after_fault fault.Read = Err stop.Read
after_fault (fault.Long number) = Ok (Some (refused.Bad number why.Long))
after_fault fault.Bytes = Ok (Some (refused.Limit bound.Bytes))
after_fault fault.Lines = Ok (Some (refused.Limit bound.Lines))

-- what the line of that number comes to, which isn't taken
abbrev pub after_refusal : {K M H : Type 0} → ℕ → Refusal K M H → Result (Option (Refused K M)) (Stop H)
after_refusal number (refusal.Bad k) = Ok (Some (refused.Bad number (why.Fault k)))
after_refusal number (refusal.Limit m) = Ok (Some (refused.Limit (bound.Further m)))
after_refusal number (refusal.Halt h) = Err (stop.Halt h)
