-- The drive script of generated traffic, as a list of lines.
use Rattle.std.specs.Prelude.{ℕ, ◌+◌, ◌*◌, List, [], ◌∷◌, ◌++◌, map}
use Rattle.aim_io.specs.Lines.{joined_lines}
use Rattle.aim_messages.specs.declared.script.Line.{Line}
use Rattle.aim_messages.specs.declared.script.Line.TheVariants as line
use Rattle.aim_messages.specs.Lines.{line_text}
use Rattle.aim_drive_command.specs.Arms.{layout_lines}
use Rattle.aim_drive_command.specs.Drawn.{generator, plan_lines}

-- the step at which the drive of so many vehicles ends
abbrev pub end_of : ℕ → ℕ
end_of count = 33 * count + 4000

-- the script of so many vehicles, drawn by the generator that the number seeds
unfoldable pub traffic_lines : ℕ → ℕ → List Line
traffic_lines number count =
    layout_lines ++ line.Vehicles count ∷ line.Begin ∷ line.Until (end_of count) ∷ (plan_lines 0 count (generator number) ++ line.End ∷ [])

-- its text, a line with its byte 10 behind the other
abbrev pub traffic_text : ℕ → ℕ → List ℕ
traffic_text number count = joined_lines (map (line_text 1) (traffic_lines number count))
