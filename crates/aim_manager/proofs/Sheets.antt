-- The sheets that are kept for a vehicle, by its own entries.
use Rattle.std.proofs.Common.{◌≡◌, ℕ, ◌+◌, List, arith, sym, ap, ◌∙◌}
use Rattle.aim_messages.specs.declared.entries.Entry.{Entry}
use Rattle.aim_book.specs.Sheets.{own, sheets_kept}
use Rattle.aim_turnstile.specs.History.{entries_of}
use Rattle.aim_manager.specs.Seen.{caller_of}

-- what is said of the sheets by the whole history, said by the pass's own entries
pub sheets_of_pass : (v w lent back : ℕ) (before after old new : List Entry) → ((x : ℕ) (h : List Entry) → sheets_kept x (own x h) ≡ sheets_kept x h)
    → w ≡ v → entries_of caller_of v before ≡ old → entries_of caller_of w after ≡ new
    → back + sheets_kept v after ≡ lent + sheets_kept v before + 2 → back + sheets_kept w new ≡ lent + sheets_kept v old + 2
sheets_of_pass v w lent back before after old new law same was is come =
    let first : sheets_kept v old ≡ sheets_kept v before = ap (sheets_kept v) (sym was) ∙ law v before in
    let last : sheets_kept w new ≡ sheets_kept w after = ap (sheets_kept w) (sym is) ∙ law w after in
    let moved : sheets_kept w after ≡ sheets_kept v after = ap (λ x. sheets_kept x after) same in
    omega (arith, come, first, last, moved)
