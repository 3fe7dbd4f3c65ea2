-- The lines of a script of events are those of a script that is replayed.
use Rattle.std.proofs.Common.{◌≡◌, ℕ, Bool, true, false, nat_lt, List, take, Option, Some, None, refl, sym, ◌∙◌}
use Rattle.std.specs.Prelude.{option_and_then}
use Rattle.aim_messages.specs.declared.script.Line.{Line}
use Rattle.aim_script.specs.Kinds.{limit_of as limit_of_any, vehicles_limit as vehicles_limit_of_any}
use Rattle.aim_script.specs.Said.{layout_of, vehicles_in}
use Rattle.aim_drive_script.specs.Kinds.{vehicles_limit}
use Rattle.aim_mail_script.specs.Kinds.{is_order, kind_of_fault, limit_of}
use Rattle.aim_mail_script.specs.Replayed.{AreReplayed}
use Rattle.aim_mail_script.specs.Scripts.{AreEvents}
use Rattle.aim_mail_script.proofs.Kinding.{order_kind, other_kind}

no_order : (before : List Line) (l : Line) → kind_of_fault before l ≡ None → is_order before l ≡ false
no_order before l none = at (is_order before l) refl
  where
    at : (b : Bool) → is_order before l ≡ b → is_order before l ≡ false
    at true is = let order = order_kind before l is in absurd (cc)
    at false is = is

few_of_any : (spans n : ℕ) → vehicles_limit spans n ≡ None → vehicles_limit_of_any spans n ≡ None
few_of_any spans n e = at (nat_lt 256 n) refl
  where
    at : (b : Bool) → nat_lt 256 n ≡ b → vehicles_limit_of_any spans n ≡ None
    at true is = absurd (cc (rw is at e))
    at false is = rw is at e

no_limit : (before : List Line) (l : Line) → limit_of before l ≡ None → limit_of_any before l ≡ None
no_limit before l none = let i = layout_of before in at i.grid.spans (vehicles_in l) none
  where
    at : (spans : ℕ) (o : Option ℕ) → option_and_then (vehicles_limit spans) o ≡ None → option_and_then (vehicles_limit_of_any spans) o ≡ None
    at spans None e = refl
    at spans (Some n) e = few_of_any spans n e

pub replayed : (lines : List Line) → AreEvents lines → AreReplayed lines
replayed lines whole = record {
  no_fault = λ k l at. let none = whole.no_fault k l at in sym (other_kind (take k lines) l (no_order (take k lines) l none)) ∙ none;
  no_limit = λ k l at. no_limit (take k lines) l (whole.no_limit k l at);
  no_order = λ k l at. no_order (take k lines) l (whole.no_fault k l at);
}
