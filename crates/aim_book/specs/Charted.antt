-- The cells that a chart marks.
use Rattle.std.specs.Prelude.{Bool, List, length}
use Rattle.std.specs.List.{list_any}
use Rattle.aim_messages.specs.declared.entries.Entry.{Entry}
use Rattle.aim_geometry.specs.Bounded.{some_below}
use Rattle.aim_geometry.specs.Cells.{Cell}
use Rattle.aim_layout.specs.Intersection.{Intersection}
use Rattle.aim_rules.specs.Claims.{is_claimed}
use Rattle.aim_rules.specs.History.{fresh, now_of}
use Rattle.aim_rules.specs.Holds.{is_granted, reservations}

-- whether some vehicle holds the cell at the journal's greatest moment
abbrev pub is_held : Intersection → List Entry → Cell → Bool
is_held i h c = list_any (λ x. is_granted i x c) (reservations i (fresh h) (now_of h 0))

-- whether some lane claims the cell by its green
abbrev pub is_claimed_by_some : Intersection → List Entry → Cell → Bool
is_claimed_by_some i h c = some_below (length i.lanes) (λ lane. is_claimed i h lane c)
