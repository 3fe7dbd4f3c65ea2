-- With one worker all drivers are in one run, and one text is printed.
use Rattle.std.proofs.Common.{◌≡◌, ℕ, ◌<◌, ◌≤◌, ◌++◌, List, length, Option, Some, sym, ◌∙◌, ap, subst, arith}
use Rattle.aim_io.specs.Known.{AppendsFront}
use Rattle.aim_script_reading.specs.Commands.{Shows, ShowsFront}
use Rattle.aim_messages.specs.declared.entries.Entry.{Entry}
use Rattle.aim_messages.specs.declared.script.Line.{Line}
use Rattle.aim_script.specs.declared.decisions.Decision.{Decision}
use Rattle.aim_script.specs.declared.decisions.Decision.TheVariants as decision
use Rattle.aim_script.specs.Said.{layout_of, vehicles_of}
use Rattle.aim_drive_script.specs.Said.{until_of, drives_of, orders_of}
use Rattle.aim_drive_script.specs.Verdicts.{drive_verdict}
use Rattle.aim_report.specs.Reports.{report}
use Rattle.aim_report.proofs.Telling.{tells_journal, tells_logs}
use Rattle.aim_drive.specs.Rounds.{run_size}
use Rattle.aim_drive.specs.Headline.{VehicleLog}
use Rattle.aim_drive_command.specs.Traffic.{traffic_lines}
use Rattle.aim_drive_command.specs.Ordered.{in_order, log_among}
use Rattle.aim_drive_command.specs.Runs.{IsRunOf}
use Rattle.aim_drive_command.specs.Commands.{IsReport, IsText, IsTextOf, status_for}
use Rattle.aim_drive_command.specs.Summaries.{summary}
use Rattle.aim_drive_command.specs.Generated.{IsSummary, Counts, CountsFront}
use Rattle.aim_drive_command.proofs.Journals.{same_journal, same_logs_too}
use Rattle.aim_drive_command.proofs.OwnTiles.{log_in_order}

one_run : (count : ℕ) → count ≤ run_size count 1
one_run count = omega arith

pub run_journal : (lines : List Line) (h k : List Entry) (logs others : List VehicleLog) → IsRunOf 1 lines h logs → IsRunOf 1 lines k others → h ≡ k
run_journal lines h k logs others x y =
    same_journal (layout_of lines) (vehicles_of lines) (until_of lines) (run_size (length (drives_of lines)) 1) (drives_of lines) (orders_of lines) (one_run (length (drives_of lines))) h k logs others x y

pub run_logs : (lines : List Line) (h k : List Entry) (logs others : List VehicleLog) → IsRunOf 1 lines h logs → IsRunOf 1 lines k others → logs ≡ others
run_logs lines h k logs others x y =
    same_logs_too (layout_of lines) (vehicles_of lines) (until_of lines) (run_size (length (drives_of lines)) 1) (drives_of lines) (orders_of lines) (one_run (length (drives_of lines))) h k logs others x y

pub same_report : (lines : List Line) (text other : List ℕ) → IsReport 1 lines text → IsReport 1 lines other → text ≡ other
same_report lines text other a b =
    let h : a.journal ≡ b.journal = run_journal lines a.journal b.journal a.logs b.logs a.run b.run in
    let l : a.logs ≡ b.logs = run_logs lines a.journal b.journal a.logs b.logs a.run b.run in
    a.is ∙ (λ j. report (layout_of lines) (h j) (in_order (vehicles_of lines) (l j))) ∙ sym b.is

pub same_text : (lines : List Line) (d : Decision) (text other : List ℕ) → IsTextOf 1 lines d text → IsTextOf 1 lines d other → text ≡ other
same_text lines (decision.Whole count) text other a b = same_report lines text other a b
same_text lines (decision.Bad number why) text other a b = a ∙ sym b
same_text lines (decision.Limit which) text other a b = a ∙ sym b

-- a text tells one journal, and one log of each vehicle

same_report_text : (workers others : ℕ) (lines : List Line) (text : List ℕ) (a : IsReport workers lines text) (b : IsReport others lines text)
    → report (layout_of lines) a.journal (in_order (vehicles_of lines) a.logs) ≡ report (layout_of lines) b.journal (in_order (vehicles_of lines) b.logs)
same_report_text workers others lines text a b = sym a.is ∙ b.is

pub told_journal : (workers others : ℕ) (lines : List Line) (text : List ℕ) (a : IsReport workers lines text) (b : IsReport others lines text) → a.journal ≡ b.journal
told_journal workers others lines text a b =
    tells_journal (layout_of lines) (layout_of lines) a.journal b.journal (in_order (vehicles_of lines) a.logs) (in_order (vehicles_of lines) b.logs) a.told b.told (same_report_text workers others lines text a b)

pub told_logs : (workers others : ℕ) (lines : List Line) (text : List ℕ) (a : IsReport workers lines text) (b : IsReport others lines text) (v : ℕ) → v < vehicles_of lines
    → log_among v a.logs ≡ log_among v b.logs
told_logs workers others lines text a b v less =
    sym (log_in_order 0 (vehicles_of lines) v a.logs (omega arith) (omega (arith, less)))
    ∙ tells_logs (layout_of lines) (layout_of lines) a.journal b.journal (in_order (vehicles_of lines) a.logs) (in_order (vehicles_of lines) b.logs) v a.told b.told (same_report_text workers others lines text a b)
    ∙ log_in_order 0 (vehicles_of lines) v b.logs (omega arith) (omega (arith, less))

-- the same text behind the same bytes
written_same : (before after other text text' : List ℕ) → after ≡ before ++ text → other ≡ before ++ text' → text ≡ text' → after ≡ other
written_same before after other text text' a b same = a ∙ ap (λ (l : List ℕ). before ++ l) same ∙ sym b

pub same_shown : (bytes before after other : List ℕ) (status another : ℕ) → Shows (IsText 1) status_for bytes (Some before) (Some after) status → Shows (IsText 1) status_for bytes (Some before) (Some other) another → (after ≡ other) × (status ≡ another)
same_shown bytes before after other status another a b =
    (written_same before after other a.text b.text a.written b.written (same_text (drive_verdict bytes).before (drive_verdict bytes).decision a.text b.text a.is b.is), a.status ∙ sym b.status)

pub front_shown : (bytes text : List ℕ) (old new : Option (List ℕ)) → ShowsFront (IsText 1) bytes old new → IsText 1 bytes text → AppendsFront old new text
front_shown bytes text old new a is =
    subst (λ (t : List ℕ). AppendsFront old new t) (same_text (drive_verdict bytes).before (drive_verdict bytes).decision a.text text a.is is) a.written

pub same_summary : (number count : ℕ) (text other : List ℕ) → IsSummary number count text → IsSummary number count other → text ≡ other
same_summary number count text other a b =
    let h : a.journal ≡ b.journal = run_journal (traffic_lines number count) a.journal b.journal a.logs b.logs a.run b.run in
    let l : a.logs ≡ b.logs = run_logs (traffic_lines number count) a.journal b.journal a.logs b.logs a.run b.run in
    a.is ∙ (λ j. summary (until_of (traffic_lines number count)) (h j) (l j)) ∙ sym b.is

pub same_counts : (number count : ℕ) (before after other : List ℕ) → Counts number count (Some before) (Some after) → Counts number count (Some before) (Some other) → after ≡ other
same_counts number count before after other a b = written_same before after other a.text b.text a.written b.written (same_summary number count a.text b.text a.is b.is)

pub front_counted : (number count : ℕ) (text : List ℕ) (old new : Option (List ℕ)) → CountsFront number count old new → IsSummary number count text → AppendsFront old new text
front_counted number count text old new a is = subst (λ (t : List ℕ). AppendsFront old new t) (same_summary number count a.text text a.is is) a.written
