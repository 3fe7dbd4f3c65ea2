-- What tells scripts of claims from other scripts, and what one comes to.
use Rattle.std.specs.Prelude.{◌≡◌, ℕ, Bool, true, false, List, Option, IfSome, Some, None, Result, Ok, Err}
use Rattle.aim_script_reading.specs.Rules.{Rules}
use Rattle.aim_script_reading.specs.Verdicts.{Verdict, verdict as verdict_by}
use Rattle.aim_messages.specs.declared.script.LineKind.{LineKind}
use Rattle.aim_shards_command.specs.declared.decisions.ClaimKind.{ClaimKind}
use Rattle.aim_shards_command.specs.declared.decisions.ClaimKind.TheVariants as kind
use Rattle.aim_shards_command.specs.declared.decisions.ClaimLimit.{ClaimLimit}
use Rattle.aim_shards_command.specs.declared.lines.ShardLine.{ShardLine}
use Rattle.aim_shards_command.specs.declared.lines.ShardLine.TheVariants as line
use Rattle.aim_shards_command.specs.ClaimTexts.{ClaimRefused}
use Rattle.aim_shards_command.specs.Lines.{shard_line_at}
use Rattle.aim_shards_command.specs.Kinds.{kind_of_fault, last_of}

abbrev pub spelled : Result ShardLine LineKind → Result ShardLine ClaimKind
spelled (Ok l) = Ok l
spelled (Err why) = Err (kind.Spelling why)

-- the last line ends the script
abbrev pub is_end : Option ShardLine → Bool
is_end (Some line.End) = true
is_end _ = false

abbrev pub claim_rules : Rules ShardLine ClaimKind ClaimLimit
claim_rules = record {
  reads = λ before bytes. spelled (shard_line_at bytes);
  kind_of_fault = kind_of_fault;
  limit_of = λ before l. None;
  is_whole = λ before. is_end (last_of before);
}

-- the lines of a script of claims before the one that decides, and why the script isn't whole, if it isn't
abbrev pub ClaimVerdict : Type 0
ClaimVerdict = Verdict ShardLine ClaimKind ClaimLimit

-- what a script of claims comes to
abbrev pub verdict : List ℕ → ClaimVerdict
verdict bytes = verdict_by claim_rules bytes

-- where the source tells its bytes, these are the lines before the one that decides, and that is why the script isn't whole
abbrev pub Comes : List ShardLine → Option ClaimRefused → Option (List ℕ) → Type 0
Comes before why bytes = IfSome bytes (λ bs. verdict bs ≡ record { before = before; refused = why })
