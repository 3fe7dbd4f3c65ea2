-- What the command writes, and its status: of a script that was read whole, and of one that wasn't.
use Rattle.std.proofs.Common.{◌≡◌, ℕ, ◌≤◌, ◌⊎◌, inl, inr, refl, List, Option, None, Some, Result, Err, sym, ap, subst, arith}
use Rattle.std.specs.Prelude.{IfSome}
use Rattle.aim_io.specs.Causes.{Rose}
use Rattle.aim_script_reading.specs.Commands.{Reports, Streams}
use Rattle.aim_script_reading.specs.Short.{LastNeededBy, TakesAtMost}
use Rattle.aim_script_reading.proofs.EndingLemmas.{IsOf, failed, forgone, told}
use Rattle.aim_grid_script.specs.declared.lines.GridLine.{GridLine}
use Rattle.aim_grid_script.specs.declared.decisions.GridDecision.{GridDecision}
use Rattle.aim_grid_script.specs.declared.decisions.GridDecision.TheVariants as decision
use Rattle.aim_grid_script.specs.declared.routes.Routes.{Routes}
use Rattle.aim_grid_script.specs.declared.endings.GridEnding.{GridEnding}
use Rattle.aim_grid_script.specs.declared.endings.GridEnding.TheVariants as ending
use Rattle.aim_grid_script.specs.Scripts.{Decides, IsRead, Reads}
use Rattle.aim_grid_script.specs.Short.{StopsShort}
use Rattle.aim_grid_script.specs.Verdicts.{Verdict, grid_rules, grid_verdict}
use Rattle.aim_grid_command.specs.Commands.{IsReport, IsText, IsTextOf, status_for}
use Rattle.aim_grid_command.specs.Endings.{EndsWith}
use Rattle.aim_grid_command.specs.Refusals.{refusal_text, status_of}

-- a report of the lines of a whole script is a text of it
pub of_whole : (left : Option (List ℕ)) (r : Routes) (read : IsRead left r) (text : List ℕ) → IsReport read.lines text → IfSome left (IsOf IsText status_for text 0)
of_whole left r read text is = go left read.verdict
  where
    go : (o : Option (List ℕ)) → IfSome o (λ bytes. grid_verdict bytes ≡ record { before = read.lines; decision = decision.Whole }) → IfSome o (IsOf IsText status_for text 0)
    go None e = tt
    go (Some bytes) e = record {
      is = subst (λ (v : Verdict). IsTextOf v.before v.decision text) (sym e) is;
      own = ap (λ (v : Verdict). status_of v.decision) (sym e);
    }

-- the line of a decision is the text of a script that isn't whole
of_refused : (left : Option (List ℕ)) (d : GridDecision) (status : ℕ) → status_of d ≡ status → ((lines : List GridLine) → IsTextOf lines d (refusal_text d)) → Decides left d → IfSome left (IsOf IsText status_for (refusal_text d) status)
of_refused None d status own is decides = tt
of_refused (Some bytes) d status own is decides = record {
  is = subst (λ (x : GridDecision). IsTextOf (grid_verdict bytes).before x (refusal_text d)) (sym decides) (is (grid_verdict bytes).before);
  own = subst (λ (x : GridDecision). status ≡ status_of x) (sym decides) (sym own);
}

-- what comes of a script that isn't whole
module _ {unread : Type 0} {last : Option ℕ} (old new : Streams) (result : ℕ)
    (most : TakesAtMost 67108865 old.left new.left) (needed : unread ⊎ LastNeededBy grid_rules old.left new.left last) (source : old.source_faults ≤ new.source_faults) (sink : old.sink_faults ≤ new.sink_faults) where
  pub not_whole : (e : GridEnding) → Reads old.left (Err e) → (◌≡◌ {A = Result Routes GridEnding} (Err e) (Err ending.Read) → StopsShort old.left new.left)
      → (◌≡◌ {A = Result Routes GridEnding} (Err e) (Err ending.Read) → Rose old.source_faults new.source_faults) → EndsWith e old.held new.held old.sink_faults new.sink_faults result
      → Reports grid_rules IsText status_for unread last old new result
  not_whole (ending.Bad number why) reads short rose ends =
      told grid_rules IsText status_for old new result most needed source (refusal_text (decision.Bad number why)) 3 (inr (inl refl))
      (of_refused old.left (decision.Bad number why) 3 refl (λ lines. refl) reads) (λ zero. absurd (omega (arith, zero))) sink ends
  not_whole (ending.Limit which) reads short rose ends =
      told grid_rules IsText status_for old new result most needed source (refusal_text (decision.Limit which)) 6 (inr (inr refl))
      (of_refused old.left (decision.Limit which) 6 refl (λ lines. refl) reads) (λ zero. absurd (omega (arith, zero))) sink ends
  not_whole ending.Read reads short rose ends = failed grid_rules IsText status_for old new result most needed source ends.0 ends.1 sink (short refl) (rose refl)
  not_whole ending.NoMemory reads short rose ends = forgone grid_rules IsText status_for old new result most needed source ends.0 ends.1 sink
