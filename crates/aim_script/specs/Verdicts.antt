-- What a script comes to: the first line that decides.
use Rattle.std.specs.Prelude.{ℕ, ◌+◌, List, [], ◌∷◌, ◌++◌, length, Option, Some, None, Result, Ok, Err, if◌then◌else◌}
use Rattle.aim_io.specs.Lines.{InputFault, LongLine, TooManyBytes, TooManyLines, Outcome, Line, Stop, outcomes_of}
use Rattle.aim_messages.specs.declared.script.Line.{Line as ScriptLine}
use Rattle.aim_script.specs.declared.decisions.Decision.{Decision}
use Rattle.aim_script.specs.declared.decisions.Decision.TheVariants as decision
use Rattle.aim_script.specs.declared.decisions.Kind.{Kind}
use Rattle.aim_script.specs.declared.decisions.Kind.TheVariants as kind
use Rattle.aim_script.specs.declared.decisions.Limit.{Limit}
use Rattle.aim_script.specs.declared.decisions.Limit.TheVariants as limit
use Rattle.aim_script.specs.Order.{is_end}
use Rattle.aim_rules.specs.Journals.{journal}
use Rattle.aim_messages.specs.declared.entries.Entry.{Entry}
use Rattle.aim_script.specs.Said.{version_after, layout_of, calls_of, last_of}
use Rattle.aim_script.specs.Kinds.{kind_of_fault, limit_of}

-- the lines before the one that decides, and the decision
pub record Verdict : Type 0 where
  pub before : List ScriptLine
  pub decision : Decision

-- a line decides, or it is one more of the script
pub data Judgement : Type 0 where
  decides : Decision → Judgement
  goes_on : ScriptLine → Judgement

-- which line bytes spell in a version, or why they spell none
abbrev pub Reads : Type 0
Reads = ℕ → List ℕ → Result ScriptLine Kind

-- the number of the line behind those
abbrev pub number_after : List ScriptLine → ℕ
number_after before = length before + 1

-- what a fault of the input decides, in the place of a line
abbrev pub of_fault : InputFault → Decision
of_fault (LongLine number) = decision.Bad number kind.Long
of_fault TooManyBytes = decision.Limit limit.Bytes
of_fault TooManyLines = decision.Limit limit.Lines

abbrev pub unless_limited : ScriptLine → Option Limit → Judgement
unless_limited l None = goes_on l
unless_limited l (Some which) = decides (decision.Limit which)

abbrev pub unless_bad : List ScriptLine → ScriptLine → Option Kind → Judgement
unless_bad before l None = unless_limited l (limit_of before l)
unless_bad before l (Some why) = decides (decision.Bad (number_after before) why)

abbrev pub of_read : List ScriptLine → Result ScriptLine Kind → Judgement
of_read before (Ok l) = unless_bad before l (kind_of_fault before l)
of_read before (Err why) = decides (decision.Bad (number_after before) why)

-- what stands behind those lines decides, or goes on
abbrev pub judge : Reads → List ScriptLine → Outcome → Judgement
judge reads before (Stop f) = decides (of_fault f)
judge reads before (Line bytes) = of_read before (reads (version_after before) bytes)

-- what the end of the input behind those lines decides
abbrev pub at_end : List ScriptLine → Decision
at_end before =
    if is_end (last_of before) then decision.Whole (length (calls_of before))
    else decision.Bad (number_after before) kind.End

abbrev pub then_on : List ScriptLine → Judgement → (List ScriptLine → Verdict) → Verdict
then_on before (decides d) next = record { before = before; decision = d }
then_on before (goes_on l) next = next (before ++ l ∷ [])

-- the first decision of what stands behind those lines
abbrev pub verdict_from : Reads → List ScriptLine → List Outcome → Verdict
verdict_from reads before [] = record { before = before; decision = at_end before }
verdict_from reads before (o ∷ os) = then_on before (judge reads before o) (λ more. verdict_from reads more os)

-- what a replay script comes to, whose lines are read so
abbrev pub verdict : Reads → List ℕ → Verdict
verdict reads bytes = verdict_from reads [] (outcomes_of bytes)

-- the journal of the calls before the line that decides
abbrev pub journal_of : Verdict → List Entry
journal_of v = journal (layout_of v.before) (calls_of v.before)
