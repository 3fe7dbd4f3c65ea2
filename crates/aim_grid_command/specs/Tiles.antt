-- What the printed lines of tiles of one crossing say, and no more than they.
use Rattle.std.specs.Prelude.{◌≢◌, ℕ, ◌==◌, ◌&&◌, ◌||◌, Bool, true, false, List, [], ◌∷◌, codes, bytes_eq, if◌then◌else◌}
use Rattle.aim_io.specs.Lines.{lines_of}
use Rattle.aim_messages.specs.declared.entries.Entry.{Entry}
use Rattle.aim_messages.specs.Texts.{spaced}
use Rattle.aim_geometry.specs.Cells.{Cell}
use Rattle.aim_layout.specs.Intersection.{Intersection}
use Rattle.aim_rules.specs.Cells.{IsIn}
use Rattle.aim_text_words.specs.Ranges.{Is32}
use Rattle.aim_report.specs.declared.stays.Stay.{Stay}
use Rattle.aim_report.specs.Apart.{IsStay, IsOwn}
use Rattle.aim_report.specs.Reports.{stay_words}
use Rattle.aim_report.specs.Stays.{Covers}
use Rattle.aim_grid_command.specs.Texts.{crossing_words}

-- whether the line begins so
abbrev pub begins : List ℕ → List ℕ → Bool
begins [] line = true
begins (b ∷ front) [] = false
begins (b ∷ front) (c ∷ line) = (b == c) && begins front line

-- whether the line begins a crossing or ends the text
abbrev pub is_bound : List ℕ → Bool
is_bound line = begins (codes "crossing ") line || begins (codes "end ") line

-- the lines up to the next of these
abbrev pub up_to_bound : List (List ℕ) → List (List ℕ)
up_to_bound [] = []
up_to_bound (line ∷ lines) = if is_bound line then [] else line ∷ up_to_bound lines

-- the lines behind this one, up to the next that begins a crossing or ends the text
abbrev pub part_behind : List ℕ → List (List ℕ) → List (List ℕ)
part_behind head [] = []
part_behind head (line ∷ lines) = if bytes_eq line head then up_to_bound lines else part_behind head lines

-- the lines of a crossing: those behind the line that begins it
abbrev pub lines_at : ℕ → List ℕ → List (List ℕ)
lines_at c text = part_behind (spaced (crossing_words c)) (lines_of text)

-- a line of the crossing says that the vehicle's driver is on the tile in that step
pub record IsPrintedAt (c : ℕ) (text : List ℕ) (v : ℕ) (cell : Cell) : Type 0 where
  pub stay : Stay
  pub vehicle : Is32 v
  pub values : IsStay stay
  pub line : IsIn (spaced (stay_words v stay)) (lines_at c text)
  pub covers : Covers stay cell

-- of no tile of the crossing do the lines say that two vehicles' drivers are on it in one step
abbrev pub TilesAreApartAt : ℕ → List ℕ → Type 0
TilesAreApartAt c text = (v w : ℕ) (cell : Cell) → v ≢ w → IsPrintedAt c text v cell → IsPrintedAt c text w cell → ⊥

-- each tile of which the crossing's lines tell is its vehicle's own there
abbrev pub TilesAreOwnAt : Intersection → List Entry → ℕ → List ℕ → Type 0
TilesAreOwnAt i h c text = (v : ℕ) (cell : Cell) → IsPrintedAt c text v cell → IsOwn i h v cell
