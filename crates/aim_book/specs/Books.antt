-- What a book is, by its parts.
-- No public clause cites it: only the models of `Book` and `IdleBook`.
use Rattle.std.specs.Prelude.{◌≡◌, ℕ, ◌≤◌, List, length}
use Rattle.aim_messages.specs.declared.entries.Entry.{Entry}
use Rattle.aim_messages.specs.declared.entries.TheConstants.{MOST_ENTRIES}
use Rattle.aim_layout.specs.Intersection.{Intersection}
use Rattle.aim_rules.specs.History.{now_of}
use Rattle.aim_book.specs.Managed.{IsManaged}
use Rattle.aim_book.specs.declared.desks.Desk.{Desk}

-- the desk is that of the journal, which has the room
pub record IsBook {L : Type 0} (i : Intersection) (n room : ℕ) (journal : List Entry) (capacity : ℕ) (d : Desk L) : Type 0 where
  pub managed : IsManaged i n journal (now_of journal 0) d
  pub fits : length journal ≤ room
  pub reserved : room ≤ capacity
  pub most : room ≤ MOST_ENTRIES
  pub timeline : d.timeline.room ≡ room
