-- What the printed lines of tiles say, and no more than they: who is on which tile in which step.
use Rattle.std.specs.Prelude.{◌≡◌, ◌≢◌, ℕ, List, true, false, Some, None, All}
use Rattle.aim_io.specs.Lines.{lines_of}
use Rattle.aim_messages.specs.declared.messages.Params.{Params}
use Rattle.aim_messages.specs.declared.entries.Entry.{Entry}
use Rattle.aim_messages.specs.Texts.{spaced}
use Rattle.aim_text_words.specs.Ranges.{Is32, Is8}
use Rattle.aim_geometry.specs.Cells.{Cell}
use Rattle.aim_layout.specs.Intersection.{Intersection}
use Rattle.aim_rules.specs.Cells.{IsIn}
use Rattle.aim_rules.specs.Claims.{green}
use Rattle.aim_rules.specs.Holds.{granted_with}
use Rattle.aim_rules.specs.Trials.{granted_trial}
use Rattle.aim_safety.specs.Occupied.{params_in, is_occupied}
use Rattle.aim_safety.specs.Reserved.{IsOwnConfirm}
use Rattle.aim_safety.specs.Tiles.{EntersBy}
use Rattle.aim_report.specs.declared.stays.Stay.{Stay}
use Rattle.aim_report.specs.Reports.{Logged, stay_words}
use Rattle.aim_report.specs.Stays.{Covers}

-- what the types say of a stay
pub record IsStay (s : Stay) : Type 0 where
  pub row : Is8 s.row
  pub col : Is8 s.col
  pub first : Is32 s.first
  pub last : Is32 s.last

-- a line of the text says that the vehicle's driver is on the tile in that step
pub record IsPrinted (text : List ℕ) (v : ℕ) (c : Cell) : Type 0 where
  pub stay : Stay
  pub vehicle : Is32 v
  pub values : IsStay stay
  pub line : IsIn (spaced (stay_words v stay)) (lines_of text)
  pub covers : Covers stay c

-- of no tile do the lines say that two vehicles' drivers are on it in one step
abbrev pub TilesAreApart : List ℕ → Type 0
TilesAreApart text = (v w : ℕ) (c : Cell) → v ≢ w → IsPrinted text v c → IsPrinted text w c → ⊥

-- The tile is the vehicle's own in that step: a Confirm of it has this cell, and no green of a lane other than the one that was asked for there claims it.
pub record IsOwn (i : Intersection) (h : List Entry) (v : ℕ) (c : Cell) : Type 0 where
  pub id : ℕ
  pub entry : Entry
  pub granted : IsOwnConfirm h v id entry
  pub params : Params
  pub asked : params_in entry ≡ Some params
  pub cell : IsIn c (granted_with i (granted_trial entry.reply) (Some params))
  pub clear : green i h c params.lane ≡ None

-- all tiles of which the lines tell are
abbrev pub TilesAreOwn : Intersection → List Entry → List ℕ → Type 0
TilesAreOwn i h text = (v : ℕ) (c : Cell) → IsPrinted text v c → IsOwn i h v c

-- what is asked of the journal and the logs of a report: where their drivers are
pub record AreOnOwnTiles (i : Intersection) (h : List Entry) (logs : List Logged) : Type 0 where
  pub enters : All (λ (x : Logged). EntersBy 2147483648 x.1) logs
  pub apart : (x y : Logged) (c : Cell) → IsIn x logs → IsIn y logs → x.0 ≢ y.0 → is_occupied i h x.1 c ≡ true → is_occupied i h y.1 c ≡ false
  pub own : (x : Logged) (c : Cell) → IsIn x logs → is_occupied i h x.1 c ≡ true → IsOwn i h x.0 c
