-- A run of a script is one of the lines that say it.
use Rattle.std.proofs.Common.{◌≡◌, ℕ, ◌≤◌, List, [], ◌++◌, length, Result, Ok, Err, sym, ap, ◌∙◌, subst, arith}
use Rattle.std.specs.Prelude.{All, IfOk}
use Rattle.std.proofs.lemmas.List.{append-nil}
use Rattle.std.proofs.lemmas.List.Elements.{All-nil}
use Rattle.aim_messages.specs.declared.entries.Entry.{Entry}
use Rattle.aim_messages.specs.declared.script.Line.{Line}
use Rattle.aim_layout.specs.Intersection.{Intersection}
use Rattle.aim_messages.specs.Texts.{spaced}
use Rattle.aim_text_entries.specs.Ranges.{IsEntry}
use Rattle.aim_script.specs.Decided.{printed}
use Rattle.aim_script.specs.Said.{layout_of, vehicles_of}
use Rattle.aim_report.specs.Reports.{end_words, journal_lines, report as drive_report}
use Rattle.aim_report.specs.Told.{IsLog}
use Rattle.aim_report.proofs.Telling.{tells_journal}
use Rattle.aim_mail_script.specs.declared.scripts.Event.{Event}
use Rattle.aim_mail_script.specs.declared.scripts.EventScript.{EventScript}
use Rattle.aim_mail_script.specs.Said.{events_of}
use Rattle.aim_mail_script.specs.Scripts.{IsScriptOf}
use Rattle.aim_mail_command.specs.Runs.{IsRun}
use Rattle.aim_mail_command.specs.Commands.{IsReport, report}

-- what holds of a value holds, where it follows
pub if_ok : {A E : Type 0} {P Q : A → Type 0} (r : Result A E) → ((a : A) → P a → Q a) → IfOk r P → IfOk r Q
if_ok (Ok a) f p = f a p
if_ok (Err e) f p = p

pub is_report : (lines : List Line) (s : EventScript) → IsScriptOf lines s → (h : List Entry) (text : List ℕ) → length h ≤ 4294967295 → All IsEntry h → text ≡ report h → IsRun s.layout s.vehicles s.events.items h → IsReport lines text
is_report lines s is h text few entries told run = record {
  journal = h;
  run = subst (λ (i : Intersection). IsRun i (vehicles_of lines) (events_of lines) h) is.layout
      (subst (λ (n : ℕ). IsRun s.layout n (events_of lines) h) is.vehicles
      (subst (λ (es : List Event). IsRun s.layout s.vehicles es h) is.events run));
  is = told;
  told = record {
    few = few;
    entries = λ k d lt. record { values = entries k d lt; caller = (run.legal.well_formed k d lt).caller.0 };
    own = All-nil IsLog;
    one_each = λ j k d lt l. absurd (omega arith);
  };
}

-- the report of a drive of which no driver has a log
as_drive : (i : Intersection) (h : List Entry) → drive_report i h [] ≡ report h
as_drive i h =
    ap (λ l. l ++ printed (spaced (end_words (length h)))) (append-nil (journal_lines 0 h ++ []) ∙ append-nil (journal_lines 0 h))

pub told_journal : (lines others : List Line) (text : List ℕ) (a : IsReport lines text) (b : IsReport others text) → a.journal ≡ b.journal
told_journal lines others text a b =
    tells_journal (layout_of lines) (layout_of others) a.journal b.journal [] [] a.told b.told
    (as_drive (layout_of lines) a.journal ∙ sym a.is ∙ b.is ∙ sym (as_drive (layout_of others) b.journal))
