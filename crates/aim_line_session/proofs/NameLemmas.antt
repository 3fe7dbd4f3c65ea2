-- Names in lines that were read.
use Rattle.std.proofs.Common.{◌≡◌, ℕ, List, Ok, sym}
use Rattle.aim_messages.specs.Lines.{KeepsRanges}
use Rattle.aim_messages.specs.declared.script.Line.{Line}
use Rattle.aim_messages.specs.declared.script.Line.TheVariants as line
use Rattle.aim_text_lines.proofs.LineSpelled.{line_was_spelled}
use Rattle.aim_text_lines.specs.Reading.{line_at}
use Rattle.aim_script.specs.Headers.{HasName}

named : (n : ℕ) (l : Line) → KeepsRanges n l → HasName l
named n (line.Policy name k) keeps = keeps.0
named n (line.SwitchTo at name) keeps = keeps
named n l keeps = tt

-- a line of words that was read has its name spelled as one
pub read_name : (bytes : List ℕ) (n : ℕ) (l : Line) → Ok l ≡ line_at n bytes → HasName l
read_name bytes n l is = named n l (line_was_spelled n bytes l (sym is)).1
