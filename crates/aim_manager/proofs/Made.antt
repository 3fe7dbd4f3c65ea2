-- Entries that calls make.
use Rattle.std.proofs.Common.{◌≡◌, ◌≢◌, ℕ, ◌+◌, ◌≤◌, [], ◌∷◌, ◌++◌, length, length-append, Result, Ok, Err, ap, arith, subst, sym}
use Rattle.std.specs.Prelude.{IfOk, OnErr, IsErr, MatchBool, is_ok, ◌↔◌}
use Rattle.aim_messages.specs.declared.entries.Entry.{Entry}
use Rattle.aim_messages.specs.declared.replies.Reply.{Reply}
use Rattle.aim_book.specs.declared.book.Full.{Full}
use Rattle.aim_book.specs.State.{State}

-- where the answer is a reply the journal has an entry of the caller more, and else it is as it was
pub entry_made : (caller : ℕ) (result : Result Reply Full) (old new : State) (e : Reply → Entry) → ((r : Reply) → (e r).caller ≡ caller)
    → IfOk result (λ r. new ≡ record old { journal = old.journal ++ e r ∷ [] }) → OnErr result (new ≡ old)
    → MatchBool (is_ok result) ((x : Entry) × (new.journal ≡ old.journal ++ x ∷ []) × (x.caller ≡ caller)) (new.journal ≡ old.journal)
entry_made caller (Ok r) old new e its ok err = (e r, ap (λ (s : State). s.journal) ok, its r)
entry_made caller (Err f) old new e its ok err = ap (λ (s : State). s.journal) err

-- a journal that has room for its entries has room for one more, where the answer is a reply
pub still_fits : (result : Result Reply Full) (old new : State) (e : Reply → Entry)
    → IfOk result (λ r. new ≡ record old { journal = old.journal ++ e r ∷ [] }) → OnErr result (new ≡ old)
    → (IsErr result ↔ (length old.journal ≡ old.room)) → length old.journal ≤ old.room → length new.journal ≤ new.room
still_fits (Ok r) old new e ok err full fits =
    let free : length old.journal ≢ old.room = λ same. let no = full.1 same in absurd (cc) in
    let size : length (old.journal ++ e r ∷ []) ≡ length old.journal + 1 = length-append old.journal (e r ∷ []) in
    subst (λ (s : State). length s.journal ≤ s.room) (sym ok) (omega (arith, free, size))
still_fits (Err f) old new e ok err full fits = subst (λ (s : State). length s.journal ≤ s.room) (sym err) fits
