-- The text of why a script isn't whole.
use Rattle.std.specs.Prelude.{ℕ, List, [], ◌∷◌, ◌++◌, codes, decimal}
use Rattle.aim_script_reading.specs.declared.decisions.Why.{Why}
use Rattle.aim_script_reading.specs.declared.decisions.Why.TheVariants as why
use Rattle.aim_script_reading.specs.declared.decisions.Bound.{Bound}
use Rattle.aim_script_reading.specs.declared.decisions.Bound.TheVariants as bound
use Rattle.aim_script_reading.specs.declared.decisions.Refused.{Refused}
use Rattle.aim_script_reading.specs.declared.decisions.Refused.TheVariants as refused
use Rattle.aim_messages.specs.declared.script.LineKind.TheVariants as read
use Rattle.aim_messages.specs.Texts.{Words}
use Rattle.aim_shards_command.specs.declared.decisions.ClaimKind.{ClaimKind}
use Rattle.aim_shards_command.specs.declared.decisions.ClaimKind.TheVariants as kind
use Rattle.aim_shards_command.specs.declared.decisions.ClaimLimit.{ClaimLimit}

-- why a script of claims isn't whole
abbrev pub ClaimRefused : Type 0
ClaimRefused = Refused ClaimKind ClaimLimit

-- a printed line ends with byte 10
abbrev pub printed : List ℕ → List ℕ
printed text = text ++ 10 ∷ []

abbrev pub kind_text : ClaimKind → List ℕ
kind_text (kind.Spelling read.Words) = codes "words"
kind_text (kind.Spelling read.Number) = codes "number"
kind_text (kind.Spelling read.Range) = codes "range"
kind_text (kind.Spelling read.Unknown) = codes "unknown"
kind_text kind.Order = codes "order"
kind_text kind.Shards = codes "shards"
kind_text kind.Set = codes "set"
kind_text kind.Call = codes "call"

abbrev pub why_text : Why ClaimKind → List ℕ
why_text why.Long = codes "long"
why_text why.End = codes "end"
why_text (why.Fault k) = kind_text k

abbrev pub limit_text : Bound ClaimLimit → List ℕ
limit_text bound.Bytes = codes "bytes"
limit_text bound.Lines = codes "lines"
limit_text (bound.Further none) = []

abbrev pub refused_words : ClaimRefused → Words
refused_words (refused.Bad number w) = codes "bad" ∷ codes "line" ∷ decimal number ∷ why_text w ∷ []
refused_words (refused.Limit which) = codes "limit" ∷ limit_text which ∷ []

abbrev pub status_of : ClaimRefused → ℕ
status_of (refused.Bad number w) = 3
status_of (refused.Limit which) = 6
