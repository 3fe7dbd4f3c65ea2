-- The cells of a sheet's spans are a trial's.
use Rattle.std.specs.Prelude.{◌≡◌, Bool, List}
use Rattle.aim_messages.specs.declared.messages.Params.{Params}
use Rattle.aim_layout.specs.Intersection.{Intersection}
use Rattle.aim_sheets.specs.declared.spans.Span.{Span}
use Rattle.aim_sheets.specs.Spans.{in_spans}
use Rattle.aim_geometry.specs.Cells.{Cell}
use Rattle.aim_rules.specs.Cells.{in_cells}

-- the spans have just the cells that the crossing needs
abbrev pub HaveCells : Intersection → Params → Bool → List Span → Type 0
HaveCells i p fast spans = (c : Cell) → in_spans spans c ≡ in_cells i p fast c
