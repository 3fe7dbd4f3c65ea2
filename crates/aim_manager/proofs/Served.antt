-- What a pass has seen once its call was made.
use Rattle.std.proofs.Common.{◌≡◌, ℕ, List, [], ◌∷◌, ◌++◌, length, Ok, Err, Result, refl, sym, ap, ◌∙◌}
use Rattle.std.specs.Prelude.{is_ok}
use Rattle.aim_messages.specs.declared.entries.Act.{Act}
use Rattle.aim_messages.specs.declared.entries.Entry.{Entry}
use Rattle.aim_messages.specs.declared.replies.Reply.{Reply}
use Rattle.aim_book.specs.declared.book.Full.{Full}
use Rattle.aim_turnstile.specs.Models.{MakesCall, PassModel}
use Rattle.aim_turnstile.proofs.Histories.{snoc_last}
use Rattle.aim_manager.specs.declared.keeper.BookSetting.{BookSetting}
use Rattle.aim_manager.specs.declared.keeper.Ask.{Ask}
use Rattle.aim_manager.specs.declared.keeper.Told.{Told}
use Rattle.aim_manager.specs.Asking.{Acts, Does}
use Rattle.aim_manager.specs.Seen.{caller_of, IsLawful, IsServed}

-- a call that did its act is served
pub served : (s : BookSetting) (moment : ℕ) (what : Act) (call : Ask) (told : Told) (result : Result Reply Full) (old new : PassModel BookSetting Entry)
    → (m : MakesCall caller_of IsLawful Does s call told (is_ok result) old new) → Acts s old.number moment what m.before new.seen result → IsServed s moment what result old new
served s moment what call told (Ok reply) old new m acts =
    let r : Entry = record { caller = old.number; moment = moment; act = what; reply = reply } in
    let e = m.entry in
    let same : e.0 ≡ r = snoc_last m.before e.0 r (sym e.1 ∙ acts.done.1) in
    record {
      before = m.before;
      begins = m.begins;
      answered = acts.done.0;
      seen = acts.done.1;
      mine = e.3 ∙ ap (λ (x : Entry). old.mine ++ x ∷ []) same;
      own = m.own;
      whole = m.mine;
      lawful = m.lawful;
    }
served s moment what call told (Err full) old new m acts = record {
  begins = m.grows;
  full = ap (λ (l : List Entry). length l) m.entry.0 ∙ acts.full.0 refl;
  mine = m.entry.1;
  whole = m.mine;
  lawful = m.lawful;
}
