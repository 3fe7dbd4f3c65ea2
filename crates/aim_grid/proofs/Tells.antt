-- What is kept of a log is what the log says.
use Rattle.std.proofs.Common.{◌≡◌, ℕ, Bool, true, false, List, [], ◌∷◌, ◌++◌, reverse, fold, Some, None, if◌then◌else◌, refl, sym, ap, ◌∙◌}
use Rattle.std.proofs.lemmas.List.{append-nil, append_assoc, reverse-append}
use Rattle.aim_messages.specs.declared.replies.Reply.{Reply}
use Rattle.aim_driver.specs.declared.logs.LogItem.{LogItem}
use Rattle.aim_driver.specs.declared.logs.LogItem.TheVariants as item
use Rattle.aim_driver.specs.Logs.{is_above, latest, answer, counts, counts_with}
use Rattle.aim_grid.specs.declared.acks.Told.{Told}
use Rattle.aim_grid.specs.Acked.{answered_at}
use Rattle.aim_grid.specs.Told.{told, told_by, told_got, told_all}

-- the first answer to the latest message
pub first_answer : (t : Told) (step seq : ℕ) (r : Reply) → true ≡ counts_with t.latest t.answer seq → record { latest = t.latest; answer = Some r; at = Some step } ≡ told_got t step seq r
first_answer t step seq r counts = ap (λ (b : Bool). if b then (record { latest = t.latest; answer = Some r; at = Some step }) else t) counts

told_more : (past : List LogItem) (x : LogItem) → told_by (told past) x ≡ told (x ∷ past)
told_more past (item.Sent step m) = go (is_above m.seq (latest past))
  where
    go : (b : Bool) → (if b then (record { latest = Some m; answer = None; at = None }) else told past)
        ≡ (record { latest = if b then Some m else latest past; answer = if b then None else answer past; at = if b then None else answered_at past })
    go true = refl
    go false = refl
told_more past (item.Got step seq r) = go (counts past seq)
  where
    go : (b : Bool) → (if b then (record { latest = latest past; answer = Some r; at = Some step }) else told past)
        ≡ (record { latest = latest past; answer = if b then Some r else answer past; at = if b then Some step else answered_at past })
    go true = refl
    go false = refl
told_more past (item.Entered step id) = refl

reverse_more : (x : LogItem) (xs past : List LogItem) → reverse xs ++ (x ∷ past) ≡ reverse (x ∷ xs) ++ past
reverse_more x xs past = sym (append_assoc (reverse xs) (x ∷ []) past) ∙ ap (λ l. l ++ past) (sym (reverse-append (x ∷ []) xs))

told_behind : (past xs : List LogItem) → fold told_by (told past) xs ≡ told (reverse xs ++ past)
told_behind past [] = refl
told_behind past (x ∷ xs) = ap (λ t. fold told_by t xs) (told_more past x) ∙ told_behind (x ∷ past) xs ∙ ap told (reverse_more x xs past)

pub told_is : (xs : List LogItem) → told_all xs ≡ told (reverse xs)
told_is xs = told_behind [] xs ∙ ap told (append-nil (reverse xs))
