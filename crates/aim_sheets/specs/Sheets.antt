-- What a sheet is seen as.
use Rattle.std.specs.Prelude.{ℕ, List, ◌≤◌, length}
use Rattle.aim_sheets.specs.declared.spans.Span.{Span}
use Rattle.aim_sheets.specs.Spans.{AreRising, AreMarked}

-- spans in order, and how many there may be
pub record Spans : Type 0 where
  pub spans : List Span
  pub room : ℕ

-- what each sheet keeps
pub record IsInOrder (sheet : Spans) : Type 0 where
  pub rising : AreRising sheet.spans
  pub marked : AreMarked sheet.spans
  pub fits : length sheet.spans ≤ sheet.room
