-- Scripts and what is printed of them, as JSON lines.
use Rattle.std.specs.Prelude.{ℕ, true, List, [], ◌∷◌, Result, Ok, Err, codes}
use Rattle.serde_json.specs.Data.{Data}
use Rattle.serde_json.specs.Written.{compact_text}
use Rattle.aim_messages.specs.declared.script.Line.{Line}
use Rattle.aim_json.specs.Members.{count, word, object_of}
use Rattle.aim_json.specs.Entries.{entry_json_text}
use Rattle.aim_json.specs.declared.reading.JsonFault.{JsonFault}
use Rattle.aim_json.specs.declared.reading.JsonFault.TheVariants as fault
use Rattle.aim_json.specs.Reading.{json_line_at}
use Rattle.aim_script.specs.declared.decisions.Decision.{Decision}
use Rattle.aim_script.specs.declared.decisions.Decision.TheVariants as decision
use Rattle.aim_script.specs.declared.decisions.Kind.{Kind}
use Rattle.aim_script.specs.declared.decisions.Kind.TheVariants as kind
use Rattle.aim_script.specs.Decided.{kind_text, limit_text}
use Rattle.aim_script.specs.Spellings.{Spelled}
use Rattle.aim_script.specs.Verdicts.{Reads}

-- what a fault of a line is called. What bytes are is no question of memory
abbrev pub kind_of : JsonFault → Kind
kind_of fault.NoMemory = kind.Form
kind_of fault.Json = kind.Json
kind_of fault.Form = kind.Form

abbrev pub of_json : Result Line JsonFault → Result Line Kind
of_json (Ok l) = Ok l
of_json (Err why) = Err (kind_of why)

-- lines that are JSON text
abbrev pub reads_json : Reads
reads_json version bytes = of_json (json_line_at version bytes)

-- the value of the last line
abbrev pub decision_json : Decision → Data
decision_json (decision.Bad number why) = object_of ((codes "bad", count number) ∷ (codes "kind", word (kind_text why)) ∷ [])
decision_json (decision.Limit which) = object_of ((codes "limit", word (limit_text which)) ∷ [])
decision_json (decision.Whole entries) = object_of ((codes "end", count entries) ∷ [])

abbrev pub decision_json_text : Decision → List ℕ
decision_json_text d = compact_text (decision_json d)

abbrev pub by_json : Spelled
by_json = record {
  reads = reads_json;
  entry_text = entry_json_text;
  last_text = decision_json_text;
  takes_memory = true;
}
