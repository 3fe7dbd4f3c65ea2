-- Which line bytes are as JSON text.
use Rattle.std.specs.Prelude.{ℕ, List, Option, Some, None, Result, Ok, Err, if◌then◌else◌}
use Rattle.std.specs.Str.{is_utf8}
use Rattle.serde_json.specs.Data.{Data}
use Rattle.serde_json.specs.Read.{read}
use Rattle.aim_messages.specs.declared.script.Line.{Line}
use Rattle.aim_messages.specs.declared.script.LineKind.{LineKind}
use Rattle.aim_text_lines.specs.Reading.{line_at}
use Rattle.aim_json.specs.Lines.{json_of}
use Rattle.aim_json.specs.declared.reading.JsonFault.{JsonFault}
use Rattle.aim_json.specs.declared.reading.JsonFault.TheVariants as fault
use Rattle.aim_json.specs.Same.{same}
use Rattle.aim_json.specs.Spelling.{spelled}

-- the line, if that is its value
abbrev pub if_its_value : ℕ → Data → Line → Result Line JsonFault
if_its_value version d l = if same (json_of version l) d then Ok l else Err fault.Form

abbrev pub of_candidate : ℕ → Data → Result Line LineKind → Result Line JsonFault
of_candidate version d (Ok l) = if_its_value version d l
of_candidate version d (Err k) = Err fault.Form

-- The line whose value it is. There is only one that it may be: the one that a line of text spells with the words of
-- the members.
abbrev pub line_of : ℕ → Data → Result Line JsonFault
line_of version d = of_candidate version d (line_at version (spelled d))

abbrev pub of_value : ℕ → Option Data → Result Line JsonFault
of_value version None = Err fault.Json
of_value version (Some d) = line_of version d

-- the line that the bytes are in a script of that version, or why they are none
abbrev pub json_line_at : ℕ → List ℕ → Result Line JsonFault
json_line_at version bytes = if is_utf8 bytes then of_value version (read bytes) else Err fault.Json
