-- Lines that are read and written as JSON.
use Rattle.std.proofs.Common.{◌≡◌, ◌⊎◌, ℕ, List, [], ◌++◌, Option, Some, None, Result, Ok, Err, refl, sym, ap, ◌∙◌, inl, inr, append-nil, arith}
use Rattle.std.specs.Io.KnownBytes.{Appends}
use Rattle.aim_io.specs.Known.{AppendsFront}
use Rattle.aim_messages.specs.declared.script.Line.{Line}
use Rattle.aim_messages.specs.declared.script.Line.TheVariants as line
use Rattle.aim_messages.specs.Lines.{KeepsRanges}
use Rattle.aim_script.specs.declared.decisions.Kind.{Kind}
use Rattle.aim_script.specs.Headers.{HasName}
use Rattle.aim_replay_command.specs.declared.faults.Unwritten.{Unwritten}
use Rattle.aim_replay_command.specs.declared.faults.Unwritten.TheVariants as unwritten
use Rattle.aim_replay_command.specs.Written.{Puts}
use Rattle.aim_json.specs.declared.reading.JsonFault.{JsonFault}
use Rattle.aim_json.specs.declared.reading.JsonFault.TheVariants as fault
use Rattle.aim_json.specs.Reading.{json_line_at}
use Rattle.aim_replay_command.specs.Spelling.{by_json, of_json, kind_of, reads_json}

nothing : (held : Option (List ℕ)) → Appends held held []
nothing None = tt
nothing (Some bytes) = sym (append-nil bytes)

-- without memory nothing is written
pub puts_nothing : {T : Type 0} (held : Option (List ℕ)) (faults : ℕ) (text : List ℕ) → Puts {T = T} by_json (Err unwritten.NoMemory) held held faults faults text
puts_nothing held faults text = record {
  ok = tt;
  err = record { front = []; rest = text; whole = refl; added = nothing held };
  memory = λ is. refl;
  write = λ is. absurd (cc);
  later = omega arith;
}

pub named : (n : ℕ) (l : Line) → KeepsRanges n l → HasName l
named n (line.Policy name k) keeps = keeps.0
named n (line.SwitchTo at name) keeps = keeps
named n l keeps = tt
