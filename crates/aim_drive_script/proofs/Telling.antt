-- What is told of a script that was read.
use Rattle.std.proofs.Common.{◌≡◌, ℕ, List, Option, Some, None, Result, Ok, Err, IfSome, ap, subst}
use Rattle.std.specs.Prelude.{IfOk}
use Rattle.aim_messages.specs.declared.script.Line.{Line}
use Rattle.aim_script_reading.specs.declared.decisions.Refused.{Refused}
use Rattle.aim_script_reading.specs.declared.decisions.Refused.TheVariants as refused
use Rattle.aim_script_reading.specs.Verdicts.{Verdict, verdict}
use Rattle.aim_script.specs.declared.decisions.Kind.{Kind}
use Rattle.aim_script.specs.declared.decisions.Limit.{Limit}
use Rattle.aim_script.specs.Told.{verdict_told}
use Rattle.aim_drive_script.specs.declared.scripts.DriveScript.{DriveScript}
use Rattle.aim_drive_script.specs.declared.scripts.Ending.{Ending}
use Rattle.aim_drive_script.specs.declared.scripts.Ending.TheVariants as ending
use Rattle.aim_drive_script.specs.Drafts.{Ends, ending_of}
use Rattle.aim_drive_script.specs.Fits.{IsFit}
use Rattle.aim_drive_script.specs.Scripts.{IsDrive, Reads}
use Rattle.aim_drive_script.specs.Verdicts.{drive_rules, drive_verdict}

-- where the source tells its bytes, this is why the lines before the one that decides make no whole script
abbrev Comes : Option (List ℕ) → List Line → Option (Refused Kind Limit) → Type 0
Comes bytes before why = IfSome bytes (λ bs. verdict drive_rules bs ≡ record { before = before; refused = why })

told : (bytes : Option (List ℕ)) (before : List Line) (why : Option (Refused Kind Limit)) → Comes bytes before why → IfSome bytes (λ bs. drive_verdict bs ≡ verdict_told (record { before = before; refused = why }))
told None before why comes = tt
told (Some bs) before why comes = ap verdict_told comes

-- a whole script
pub whole_told : (bytes : Option (List ℕ)) (before : List Line) (r : Result DriveScript Ending) → IsDrive before → Comes bytes before None → Ends before r → Reads bytes r
whole_told bytes before (Ok s) whole comes ends = record { lines = before; whole = whole; is = ends.0; verdict = told bytes before None comes }
whole_told bytes before (Err (ending.Bad number why)) whole comes ends = absurd ends
whole_told bytes before (Err (ending.Limit which)) whole comes ends = absurd ends
whole_told bytes before (Err ending.Read) whole comes ends = tt
whole_told bytes before (Err ending.NoMemory) whole comes ends = tt

pub whole_fits : (before : List Line) (r : Result DriveScript Ending) → Ends before r → IfOk r IsFit
whole_fits before (Ok s) ends = ends.1
whole_fits before (Err why) ends = tt

pub with_script : (r : Result DriveScript Ending) (P : Type 0) → P → IfOk r (λ _. P)
with_script (Ok s) P p = p
with_script (Err why) P p = tt

-- a whole script is no failing of the source
pub whole_read : (before : List Line) (r : Result DriveScript Ending) → Ends before r → r ≡ Err ending.Read → ⊥
whole_read before r ends e = subst (Ends before) e ends

-- a line or a limit that decides
pub refused_told : (bytes : Option (List ℕ)) (before : List Line) (why : Refused Kind Limit) → Comes bytes before (Some why) → Reads bytes (Err (ending_of why))
refused_told None before (refused.Bad number w) comes = tt
refused_told None before (refused.Limit b) comes = tt
refused_told (Some bs) before (refused.Bad number w) comes = ap (λ (v : Verdict Line Kind Limit). (verdict_told v).decision) comes
refused_told (Some bs) before (refused.Limit b) comes = ap (λ (v : Verdict Line Kind Limit). (verdict_told v).decision) comes

-- neither is the failing of the source
pub never_read : (why : Refused Kind Limit) (end : Ending) → end ≡ ending_of why → ◌≡◌ {A = Result DriveScript Ending} (Err end) (Err ending.Read) → ⊥
never_read (refused.Bad number w) end told is = cc
never_read (refused.Limit b) end told is = cc
