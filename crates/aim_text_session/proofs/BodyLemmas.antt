-- What a line behind `begin` comes to.
use Rattle.std.proofs.Common.{◌≡◌, ℕ, true, List, Option, Some, None, Result, Ok, Err, ap, ◌∙◌}
use Rattle.aim_messages.specs.declared.script.Line.{Line}
use Rattle.aim_script.specs.Order.{is_end}
use Rattle.aim_script.specs.Said.{last_of}
use Rattle.aim_script.specs.Verdicts.{of_read}
use Rattle.aim_line_session.specs.declared.progress.Answered.{Answered}
use Rattle.aim_line_session.specs.declared.progress.Progress.{Progress}
use Rattle.aim_line_session.specs.declared.progress.Untaken.{Untaken}
use Rattle.aim_line_session.specs.declared.progress.Untaken.TheVariants as untaken
use Rattle.aim_line_session.specs.Sessions.{Comes as ComesInSession, Stands as StandsAsSession}
use Rattle.aim_text_session.specs.Sessions.{Comes, InBody, judged, outcome_of}

-- an ended session has taken `end` last
pub ended : (before : List Line) (p : Progress (Unit {0})) → StandsAsSession before p → p.ended ≡ true → is_end (last_of before) ≡ true
ended before p st over = (rw over at st.lead).1

-- a line that a session was given comes to what the session says
pub comes_so : (before : List Line) (bytes : List ℕ) (l : Line) (old new : Progress (Unit {0})) (r : Result (Option Answered) Untaken) → judged before bytes ≡ of_read before (Ok l) → ComesInSession before (Ok l) old new r
    → Comes before bytes (InBody old) (InBody new) (outcome_of r)
comes_so before bytes l old new (Ok None) is (m, goes, st, makes) = record { line = m; goes = is ∙ goes; stands = st; makes = makes }
comes_so before bytes l old new (Ok (Some a)) is (m, goes, st, makes) = record { line = m; goes = is ∙ goes; stands = st; makes = makes }
comes_so before bytes l old new (Err (untaken.Bad why)) is (bad, same) = (is ∙ bad, ap InBody same)
comes_so before bytes l old new (Err untaken.Full) is (m, goes, full, same) = (m, is ∙ goes, full, ap InBody same)
