-- Merging lists of entries by their tickets.
use Rattle.std.specs.Prelude.{◌≡◌, ◌⊎◌, ℕ, ◌<◌, List, [], ◌∷◌}
use Rattle.aim_shards.specs.declared.claims.ClaimEntry.{ClaimEntry}

-- the entry is one of the list's
abbrev pub IsIn : ClaimEntry → List ClaimEntry → Type 0
IsIn e [] = ⊥
IsIn e (x ∷ xs) = (e ≡ x) ⊎ IsIn e xs

-- all tickets are above this one
abbrev pub AreAbove : ℕ → List ClaimEntry → Type 0
AreAbove t [] = Unit {0}
AreAbove t (x ∷ xs) = (t < x.ticket) × AreAbove t xs

-- the tickets rise
abbrev pub IsRising : List ClaimEntry → Type 0
IsRising [] = Unit {0}
IsRising (x ∷ xs) = AreAbove x.ticket xs × IsRising xs

-- entries with one ticket are equal
abbrev pub AreOne : List ClaimEntry → Type 0
AreOne xs = (e f : ClaimEntry) → IsIn e xs → IsIn f xs → e.ticket ≡ f.ticket → e ≡ f

-- the merged list has all entries of the lists, and no others, each once, by rising tickets
pub record IsMerge (entries merged : List ClaimEntry) : Type 0 where
  pub rising : IsRising merged
  pub all : (e : ClaimEntry) → IsIn e entries → IsIn e merged
  pub none_else : (e : ClaimEntry) → IsIn e merged → IsIn e entries
