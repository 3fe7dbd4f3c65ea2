-- Texts that are made line by line.
use Rattle.std.proofs.Common.{◌≡◌, ℕ, ◌+◌, ◌<◌, List, [], ◌∷◌, ◌++◌, length, take, refl, sym, ap, ◌∙◌}
use Rattle.std.specs.Prelude.{get_or, Result, Ok, Err, OnOk, is_ok, if◌then◌else◌}
use Rattle.std.proofs.lemmas.List.{append_assoc, append-nil, take_more}
use Rattle.aim_shards.specs.declared.claims.ClaimEntry.{ClaimEntry}
use Rattle.aim_shards_command.specs.Texts.{claim_line, claim_lines}

lines-append : (xs ys : List ClaimEntry) → claim_lines (xs ++ ys) ≡ claim_lines xs ++ claim_lines ys
lines-append [] ys = refl
lines-append (x ∷ xs) ys = ap (λ l. claim_line x ++ l) (lines-append xs ys) ∙ sym (append_assoc (claim_line x) (claim_lines xs) (claim_lines ys))

-- the lines up to the entry at a place
lines_next : (log : List ClaimEntry) (i : ℕ) (d : ClaimEntry) → i < length log → claim_lines (take (i + 1) log) ≡ claim_lines (take i log) ++ claim_line (get_or log i d)
lines_next log i d lt =
    ap claim_lines (take_more log i d lt) ∙ (lines-append (take i log) (get_or log i d ∷ []) ∙ ap (λ l. claim_lines (take i log) ++ l) (append-nil (claim_line (get_or log i d))))

-- behind a text that ends with the lines up to that entry
pub lines_more : (out start : List ℕ) (log : List ClaimEntry) (i : ℕ) (d : ClaimEntry) → i < length log → out ≡ start ++ claim_lines (take i log) → out ++ claim_line (get_or log i d) ≡ start ++ claim_lines (take (i + 1) log)
lines_more out start log i d lt is =
    let line = claim_line (get_or log i d) in
    ap (λ t. t ++ line) is ∙ append_assoc start (claim_lines (take i log)) line ∙ ap (λ t. start ++ t) (sym (lines_next log i d lt))

-- what stands there where the call succeeded
pub where_ok : {T E : Type 0} (r : Result T E) (new more old : List ℕ) → new ≡ (if is_ok r then more else old) → OnOk r (new ≡ more)
where_ok (Ok a) new more old e = e
where_ok (Err a) new more old e = tt
