-- Rows of which a rectangle's tiles are taken away.
use Rattle.std.proofs.Common.{◌≡◌, ℕ, Bool, true, false, not, ◌&&◌, ◌+◌, nat_le, nat_lt, refl, sym, arith}
use Rattle.std.specs.Prelude.{if◌then◌else◌}
use Rattle.std.proofs.lemmas.Bool.{leb-true, le-leb, ltb-true, lt-ltb}

-- equal tests, by two implications
both_ways : (a b : Bool) → (a ≡ true → b ≡ true) → (b ≡ true → a ≡ true) → a ≡ b
both_ways true b f g = sym (f refl)
both_ways false true f g = g refl
both_ways false false f g = refl

-- Of the rows below one more than the last, those from the first on lose the columns that are not kept.
pub rows_are_left : (first last row : ℕ) (had column kept : Bool)
    → (if nat_le first row && nat_lt row (last + 1) then had && not (column && not kept) else had) ≡ (had && not (((nat_le first row && nat_le row last) && column) && not kept))
rows_are_left first last row had column kept = rw same (rest (nat_le first row && nat_le row last) had column kept)
  where
    same : nat_lt row (last + 1) ≡ nat_le row last
    same = both_ways (nat_lt row (last + 1)) (nat_le row last)
        (λ h. le-leb row last (let l = ltb-true row (last + 1) h in omega arith))
        (λ h. lt-ltb row (last + 1) (let l = leb-true row last h in omega arith))

    rest : (inside had column kept : Bool) → (if inside then had && not (column && not kept) else had) ≡ (had && not ((inside && column) && not kept))
    rest true had column kept = refl
    rest false true column kept = refl
    rest false false column kept = refl
