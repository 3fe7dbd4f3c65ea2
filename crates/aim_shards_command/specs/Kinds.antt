-- Which lines of a script are at fault.
use Rattle.std.specs.Prelude.{◌≡◌, ℕ, ◌+◌, ◌-◌, ◌*◌, Bool, true, false, ◌&&◌, nat_le, nat_lt, List, length, take, Option, Some, None, slice_get, if◌then◌else◌}
use Rattle.aim_shards.specs.declared.rectangles.Rectangle.{Rectangle}
use Rattle.aim_shards_command.specs.declared.decisions.ClaimKind.{ClaimKind}
use Rattle.aim_shards_command.specs.declared.decisions.ClaimKind.TheVariants as kind
use Rattle.aim_shards_command.specs.declared.lines.ShardLine.{ShardLine}
use Rattle.aim_shards_command.specs.declared.lines.ShardLine.TheVariants as line
use Rattle.aim_shards_command.specs.declared.script.Part.{Part}
use Rattle.aim_shards_command.specs.declared.script.Part.TheVariants as part
use Rattle.aim_shards_command.specs.declared.script.ClaimTerms.{ClaimTerms}
use Rattle.aim_shards_command.specs.Said.{asked_of, rectangle_of, sets_of, terms_of}

-- the part of a script that goes on after a line, or at the beginning
abbrev pub part_after : Option ShardLine → Part
part_after None = part.Opening
part_after (Some (line.Shards n horizon callers)) = part.Sets
part_after (Some (line.Set ns)) = part.Sets
part_after (Some (line.Claim caller set)) = part.Calls
part_after (Some (line.Free caller call)) = part.Calls
part_after (Some line.End) = part.Nothing

-- whether a line of that form may stand in the part
abbrev pub belongs : Part → ShardLine → Bool
belongs part.Opening (line.Shards n horizon callers) = true
belongs part.Sets (line.Set ns) = true
belongs part.Sets (line.Claim caller set) = true
belongs part.Sets (line.Free caller call) = true
belongs part.Sets line.End = true
belongs part.Calls (line.Claim caller set) = true
belongs part.Calls (line.Free caller call) = true
belongs part.Calls line.End = true
belongs _ _ = false

-- the last line, if there is one
abbrev pub last_of : List ShardLine → Option ShardLine
last_of lines = slice_get lines (length lines - 1)

-- whether the numbers are within their bounds
abbrev pub are_terms : ℕ → ℕ → ℕ → Bool
are_terms n horizon callers = (nat_le 1 n && nat_le n 64) && ((nat_le 1 horizon && nat_le horizon 8192) && (nat_le 1 callers && nat_le callers 64))

-- whether no pair of numbers falls, and the rectangle lies on the grid, within its steps
abbrev pub lies_on : ClaimTerms → Rectangle → Bool
lies_on t r = (nat_le r.row0 r.row1 && nat_lt r.row1 t.n) && ((nat_le r.col0 r.col1 && nat_lt r.col1 t.n) && (nat_le r.from r.to && nat_lt r.to t.horizon))

-- how many rows it has in all its steps
abbrev pub rows_in : Rectangle → ℕ
rows_in r = (r.to - r.from + 1) * (r.row1 - r.row0 + 1)

abbrev pub unless_fits : ClaimKind → Bool → Option ClaimKind
unless_fits why fits = if fits then None else Some why

-- the kind of a line at its place behind others, if its numbers are at fault
abbrev pub number_fault : List ShardLine → ShardLine → Option ClaimKind
number_fault before (line.Shards n horizon callers) = unless_fits kind.Shards (are_terms n horizon callers)
number_fault before (line.Set ns) =
    unless_fits kind.Set (lies_on (terms_of before) (rectangle_of ns) && (nat_le (rows_in (rectangle_of ns)) 4096 && nat_lt (length (sets_of before)) 1024))
number_fault before (line.Claim caller set) =
    let t = terms_of before in
    unless_fits kind.Call (nat_lt caller t.callers && (nat_lt set (length (sets_of before)) && nat_lt (length (asked_of caller before)) 1024))
number_fault before (line.Free caller call) =
    let t = terms_of before in
    unless_fits kind.Call (nat_lt caller t.callers && (nat_lt call (length (asked_of caller before)) && nat_lt (length (asked_of caller before)) 1024))
number_fault before line.End = None

-- the kind of a line behind others, if it is at fault
abbrev pub kind_of_fault : List ShardLine → ShardLine → Option ClaimKind
kind_of_fault before l = if belongs (part_after (last_of before)) l then number_fault before l else Some kind.Order

-- no line is at fault behind those before it
pub record IsScript (lines : List ShardLine) : Type 0 where
  pub each : (k : ℕ) (l : ShardLine) → slice_get lines k ≡ Some l → kind_of_fault (take k lines) l ≡ None
