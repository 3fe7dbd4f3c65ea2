-- How scripts of events and scripts that are replayed go together.
use Rattle.std.specs.Prelude.{◌≡◌, ℕ, false, List, take, Some, None, slice_get}
use Rattle.aim_messages.specs.declared.script.Line.{Line}
use Rattle.aim_script.specs.Kinds.{kind_of_fault as kind_of_any, limit_of as limit_of_any}
use Rattle.aim_mail_script.specs.Kinds.{is_order}

-- in a replay no line is at fault behind those before it, and none goes past a limit; and none is an order
pub record AreReplayed (lines : List Line) : Type 0 where
  pub no_fault : (k : ℕ) (l : Line) → slice_get lines k ≡ Some l → kind_of_any (take k lines) l ≡ None
  pub no_limit : (k : ℕ) (l : Line) → slice_get lines k ≡ Some l → limit_of_any (take k lines) l ≡ None
  pub no_order : (k : ℕ) (l : Line) → slice_get lines k ≡ Some l → is_order (take k lines) l ≡ false
