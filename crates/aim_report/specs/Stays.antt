-- How long a driver is on a tile.
use Rattle.std.specs.Prelude.{◌≡◌, ◌⊎◌, ◌+◌, ◌≤◌, Bool, ◌&&◌, ◌==◌, List, [], ◌∷◌, Option, Some, None, if◌then◌else◌}
use Rattle.aim_geometry.specs.Cells.{Cell}
use Rattle.aim_rules.specs.Cells.{IsIn}
use Rattle.aim_report.specs.declared.stays.Stay.{Stay}

abbrev pub stay_of : Cell → Stay
stay_of c = record { row = c.row; col = c.col; first = c.step; last = c.step }

-- whether the cell is the same tile in the step behind the stay
abbrev pub goes_on : Stay → Cell → Bool
goes_on s c = s.row == c.row && s.col == c.col && c.step == s.last + 1

-- the stay, up to the cell's step
abbrev pub longer : Stay → Cell → Stay
longer s c = record { row = s.row; col = s.col; first = s.first; last = c.step }

-- a stay and those of the cells behind it, of which the first may go on with it
abbrev pub stays_after : Stay → List Cell → List Stay
stays_after s [] = s ∷ []
stays_after s (c ∷ cs) = if goes_on s c then stays_after (longer s c) cs else s ∷ stays_after (stay_of c) cs

-- the stays of cells in order of row, column and step
abbrev pub stays : List Cell → List Stay
stays [] = []
stays (c ∷ cs) = stays_after (stay_of c) cs

abbrev pub stays_behind : Option Stay → List Cell → List Stay
stays_behind None cs = stays cs
stays_behind (Some s) cs = stays_after s cs

-- the stay has the cell
pub record Covers (s : Stay) (c : Cell) : Type 0 where
  pub row : s.row ≡ c.row
  pub col : s.col ≡ c.col
  pub after : s.first ≤ c.step
  pub before : c.step ≤ s.last

-- one of the stays has the cell
abbrev pub AreCovering : List Stay → Cell → Type 0
AreCovering [] c = ⊥
AreCovering (s ∷ ss) c = Covers s c ⊎ AreCovering ss c

-- neither the step before the stay nor the one behind it is among the cells, on that tile
pub record IsLongest (s : Stay) (cells : List Cell) : Type 0 where
  pub before : (c : Cell) → s.row ≡ c.row → s.col ≡ c.col → c.step + 1 ≡ s.first → IsIn c cells → ⊥
  pub behind : (c : Cell) → s.row ≡ c.row → s.col ≡ c.col → c.step ≡ s.last + 1 → IsIn c cells → ⊥
