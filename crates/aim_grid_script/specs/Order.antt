-- In which order the lines of a script of several crossings stand.
use Rattle.std.specs.Prelude.{Option, Some, None}
use Rattle.aim_messages.specs.declared.script.Line.TheVariants as plain
use Rattle.aim_grid_script.specs.declared.lines.GridLine.{GridLine}
use Rattle.aim_grid_script.specs.declared.lines.GridLine.TheVariants as line

-- the parts of a script, each of which the lines before it lead to
pub data Part : Type 0 where
  to_crossings : Part
  in_blocks : Part
  to_begin : Part
  to_until : Part
  in_legs : Part
  nothing : Part

-- the part that goes on after a line, or at the beginning
abbrev pub part_after : Option GridLine → Part
part_after None = to_crossings
part_after (Some (line.Crossings n)) = in_blocks
part_after (Some (line.Leg v c p)) = in_legs
part_after (Some (line.Plain (plain.Vehicles n))) = to_begin
part_after (Some (line.Plain plain.Begin)) = to_until
part_after (Some (line.Plain (plain.Until step))) = in_legs
part_after (Some (line.Plain plain.End)) = nothing
part_after (Some (line.Plain l)) = in_blocks
