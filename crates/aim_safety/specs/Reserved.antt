-- What a driver that entered was granted, and that the tiles on which it is were reserved for it.
use Rattle.std.specs.Prelude.{◌≡◌, ℕ, true, List, Some, slice_get}
use Rattle.aim_messages.specs.declared.messages.Params.{Params}
use Rattle.aim_messages.specs.declared.entries.Entry.{Entry}
use Rattle.aim_geometry.specs.Cells.{Cell}
use Rattle.aim_layout.specs.Intersection.{Intersection}
use Rattle.aim_rules.specs.Cells.{IsIn}
use Rattle.aim_rules.specs.Trials.{granted_trial}
use Rattle.aim_rules.specs.History.{is_confirm}
use Rattle.aim_rules.specs.Holds.{granted_with}
use Rattle.aim_driver.specs.declared.logs.Entrance.{Entrance}
use Rattle.aim_driver.specs.declared.logs.LogItem.{LogItem}
use Rattle.aim_driver.specs.Crossings.{first_entrance}
use Rattle.aim_safety.specs.Occupied.{Passage, params_in, passage}

-- the id names a Confirm of the vehicle's own message
pub record IsOwnConfirm (h : List Entry) (v id : ℕ) (e : Entry) : Type 0 where
  pub stands : slice_get h id ≡ Some e
  pub own : e.caller ≡ v
  pub confirms : is_confirm e.reply ≡ true

-- The vehicle's driver crosses from this entrance on: its crossing is there, and is what a Confirm of its own vehicle granted.
pub record Crosses (i : Intersection) (h : List Entry) (v : ℕ) (log : List LogItem) (t : Entrance) : Type 0 where
  pub entry : Entry
  pub granted : IsOwnConfirm h v t.id entry
  pub crossing : Passage
  pub is : passage i h log ≡ Some crossing

-- The cell was reserved for the vehicle: it is one of the cells of the Confirm of its own on which its driver entered.
pub record IsReserved (i : Intersection) (h : List Entry) (v : ℕ) (log : List LogItem) (c : Cell) : Type 0 where
  pub entrance : Entrance
  pub entered : first_entrance log ≡ Some entrance
  pub entry : Entry
  pub granted : IsOwnConfirm h v entrance.id entry
  pub params : Params
  pub asked : params_in entry ≡ Some params
  pub cell : IsIn c (granted_with i (granted_trial entry.reply) (Some params))
