-- What tells scripts of several crossings from other scripts, and what one comes to.
use Rattle.std.specs.Prelude.{ℕ, Bool, true, false, List, Option, Some, None, Result, Ok, Err, if◌then◌else◌}
use Rattle.aim_io.specs.Lines.{Outcome}
use Rattle.aim_messages.specs.declared.script.Line.TheVariants as plain
use Rattle.aim_messages.specs.declared.script.LineKind.{LineKind}
use Rattle.aim_script_reading.specs.declared.decisions.Bound.TheVariants as bound
use Rattle.aim_script_reading.specs.declared.decisions.Refused.{Refused}
use Rattle.aim_script_reading.specs.declared.decisions.Refused.TheVariants as refused
use Rattle.aim_script_reading.specs.declared.decisions.Why.{Why}
use Rattle.aim_script_reading.specs.declared.decisions.Why.TheVariants as reason
use Rattle.aim_script_reading.specs.Rules.{Rules}
use Rattle.aim_script_reading.specs.Verdicts.{Judgement, Verdict as VerdictBy, judge as judge_by, number_after, of_read as of_read_by, verdict}
use Rattle.aim_script.specs.declared.decisions.Kind.TheVariants as why
use Rattle.aim_script.specs.declared.decisions.Limit.{Limit}
use Rattle.aim_script.specs.Told.{limit_told}
use Rattle.aim_grid_script.specs.declared.lines.GridLine.{GridLine}
use Rattle.aim_grid_script.specs.declared.lines.GridLine.TheVariants as line
use Rattle.aim_grid_script.specs.Legs.{grid_line_at}
use Rattle.aim_grid_script.specs.declared.decisions.GridDecision.{GridDecision}
use Rattle.aim_grid_script.specs.declared.decisions.GridDecision.TheVariants as decision
use Rattle.aim_grid_script.specs.declared.decisions.GridKind.{GridKind}
use Rattle.aim_grid_script.specs.declared.decisions.GridKind.TheVariants as kind
use Rattle.aim_grid_script.specs.Kinds.{kind_of_fault, limit_of}
use Rattle.aim_grid_script.specs.Said.{last_of, version_of}

abbrev pub spelled : Result GridLine LineKind → Result GridLine GridKind
spelled (Ok l) = Ok l
spelled (Err k) = Err (kind.Plain (why.Spelling k))

-- the last line ends the script
abbrev pub is_end : Option GridLine → Bool
is_end (Some (line.Plain plain.End)) = true
is_end _ = false

abbrev pub grid_rules : Rules GridLine GridKind Limit
grid_rules = record {
  reads = λ before bytes. spelled (grid_line_at (version_of before) bytes);
  kind_of_fault = kind_of_fault;
  limit_of = limit_of;
  is_whole = λ before. is_end (last_of before);
}

-- the kind that is told of a line at fault
abbrev pub kind_told : Why GridKind → GridKind
kind_told reason.Long = kind.Plain why.Long
kind_told reason.End = kind.Plain why.End
kind_told (reason.Fault k) = k

-- what is told of why lines make no whole script, if they don't
abbrev pub decision_told : Option (Refused GridKind Limit) → GridDecision
decision_told None = decision.Whole
decision_told (Some (refused.Bad number w)) = decision.Bad number (kind_told w)
decision_told (Some (refused.Limit b)) = decision.Limit (limit_told b)

-- the lines before the one that decides, and the decision
pub record Verdict : Type 0 where
  pub before : List GridLine
  pub decision : GridDecision

abbrev pub verdict_told : VerdictBy GridLine GridKind Limit → Verdict
verdict_told v = record { before = v.before; decision = decision_told v.refused }

-- a line of that kind behind those, and a line past that limit
abbrev pub bad : List GridLine → GridKind → Refused GridKind Limit
bad before k = refused.Bad (number_after before) (reason.Fault k)

abbrev pub past : Limit → Refused GridKind Limit
past which = refused.Limit (bound.Further which)

-- what stands behind those lines decides, or goes on
abbrev pub of_read : List GridLine → Result GridLine LineKind → Judgement GridLine GridKind Limit
of_read before r = of_read_by grid_rules before (spelled r)

abbrev pub judge : List GridLine → Outcome → Judgement GridLine GridKind Limit
judge before o = judge_by grid_rules before o

-- what the end of the input behind those lines decides
abbrev pub end_after : List GridLine → Option GridLine → GridDecision
end_after before o = decision_told (if is_end o then None else Some (refused.Bad (number_after before) reason.End))

abbrev pub at_end : List GridLine → GridDecision
at_end before = end_after before (last_of before)

-- what a script of several crossings comes to
abbrev pub grid_verdict : List ℕ → Verdict
grid_verdict bytes = verdict_told (verdict grid_rules bytes)
