-- What is kept after a history.
use Rattle.std.specs.Prelude.{ℕ, ◌≤◌, List}
use Rattle.aim_messages.specs.declared.entries.Entry.{Entry}
use Rattle.aim_messages.specs.declared.entries.TheConstants.{MOST_VEHICLES}
use Rattle.aim_layout.specs.Intersection.{Intersection}
use Rattle.aim_layout.specs.Valid.{IsValid}
use Rattle.aim_rules.specs.Legal.{IsLegal}
use Rattle.aim_book.specs.Desk.{IsDesk}
use Rattle.aim_book.specs.declared.desks.Desk.{Desk}

-- the desk is that of a legal history of vehicles below n, at a time
pub record IsManaged {L : Type 0} (i : Intersection) (n : ℕ) (h : List Entry) (at : ℕ) (d : Desk L) : Type 0 where
  pub valid : IsValid i
  pub legal : IsLegal i n h
  pub few : n ≤ MOST_VEHICLES
  pub desk : IsDesk i n h at d
