-- What contracts see of a book.
use Rattle.std.specs.Prelude.{ℕ, List}
use Rattle.aim_messages.specs.declared.entries.Entry.{Entry}
use Rattle.aim_layout.specs.Intersection.{Intersection}

pub record State : Type 0 where
  pub layout : Intersection
  pub vehicles : ℕ
  pub room : ℕ
  pub journal : List Entry
