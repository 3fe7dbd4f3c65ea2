-- What the lines of a script say: questions over the whole list of lines.
use Rattle.std.specs.Prelude.{ℕ, ◌==◌, List, filter_map, Option, Some, None, slice_get, slice_index, if◌then◌else◌}
use Rattle.aim_shards.specs.declared.rectangles.Rectangle.{Rectangle}
use Rattle.aim_shards_command.specs.declared.lines.ShardLine.{ShardLine}
use Rattle.aim_shards_command.specs.declared.lines.ShardLine.TheVariants as line
use Rattle.aim_shards_command.specs.declared.script.ClaimTerms.{ClaimTerms}
use Rattle.aim_shards_command.specs.declared.script.ClaimAsk.{ClaimAsk}
use Rattle.aim_shards_command.specs.declared.script.ClaimAsk.TheVariants as ask

abbrev pub terms_in : Option ShardLine → ClaimTerms
terms_in (Some (line.Shards n horizon callers)) = record { n = n; horizon = horizon; callers = callers }
terms_in _ = record { n = 0; horizon = 0; callers = 0 }

-- the rows and columns, the steps and the callers: the first line says them
abbrev pub terms_of : List ShardLine → ClaimTerms
terms_of lines = terms_in (slice_get lines 0)

abbrev pub rectangle_of : List ℕ → Rectangle
rectangle_of ns = record {
  row0 = slice_index ns 0;
  row1 = slice_index ns 1;
  col0 = slice_index ns 2;
  col1 = slice_index ns 3;
  from = slice_index ns 4;
  to = slice_index ns 5;
}

abbrev pub set_in : ShardLine → Option Rectangle
set_in (line.Set ns) = Some (rectangle_of ns)
set_in _ = None

-- the sets, in the order of their numbers
abbrev pub sets_of : List ShardLine → List Rectangle
sets_of lines = filter_map set_in lines

-- what the caller asks for in a line
abbrev pub ask_in : ℕ → ShardLine → Option ClaimAsk
ask_in c (line.Claim caller set) = if caller == c then Some (ask.Claim set) else None
ask_in c (line.Free caller call) = if caller == c then Some (ask.Free call) else None
ask_in c _ = None

-- what the caller asks for, call after call
abbrev pub asked_of : ℕ → List ShardLine → List ClaimAsk
asked_of c lines = filter_map (ask_in c) lines
