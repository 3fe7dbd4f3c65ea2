-- What contracts see of a pass and of the shards, and what calls do to them.
use Rattle.std.specs.Prelude.{◌≡◌, ℕ, zero, suc, ◌<◌, Bool, List, [], ◌∷◌, ◌++◌, length}
use Rattle.atomic_table.specs.Seated.{TableId}
use Rattle.aim_sheets.specs.Sheets.{Spans}
use Rattle.aim_shards.specs.declared.claims.ClaimAct.{ClaimAct}
use Rattle.aim_shards.specs.declared.claims.ClaimEntry.{ClaimEntry}
use Rattle.aim_shards.specs.Sets.{Quarters}

-- a caller's pass: its shards' table, its number, how many calls it may make, its shards' sets cut along the quadrants'
-- borders, and the caller's entries
pub record PassModel : Type 0 where
  pub table : TableId
  pub number : ℕ
  pub calls : ℕ
  pub quarters : List Quarters
  pub mine : List ClaimEntry

-- the table, the rows and columns of the grid, the sets, the same cut along the quadrants' borders, the callers' numbers,
-- and how many calls each may make
pub record ShardsModel : Type 0 where
  pub table : TableId
  pub size : ℕ
  pub sets : List Spans
  pub quarters : List Quarters
  pub numbers : List ℕ
  pub calls : ℕ

pub record IsPassOf (s : ShardsModel) (p : PassModel) : Type 0 where
  pub table : p.table ≡ s.table
  pub calls : p.calls ≡ s.calls
  pub quarters : p.quarters ≡ s.quarters

pub record IsSamePass (old new : PassModel) : Type 0 where
  pub table : new.table ≡ old.table
  pub number : new.number ≡ old.number
  pub calls : new.calls ≡ old.calls
  pub quarters : new.quarters ≡ old.quarters

-- the call made one entry
pub record Makes (act : ClaimAct) (ticket : ℕ) (granted : Bool) (old new : PassModel) : Type 0 where
  pub was : length old.mine < old.calls
  pub mine : new.mine ≡ old.mine ++ record { ticket = ticket; caller = old.number; act = act; yes = granted } ∷ []

-- the call made none, since all calls were made
pub record IsFull (old new : PassModel) : Type 0 where
  pub full : length old.mine ≡ old.calls
  pub same : new ≡ old

-- the pass of the caller n, at the opening
abbrev pub new_pass : ShardsModel → ℕ → PassModel
new_pass s n = record { table = s.table; number = n; calls = s.calls; quarters = s.quarters; mine = [] }

-- the numbers from 0 on
abbrev pub count_up : ℕ → List ℕ
count_up zero = []
count_up (suc n) = count_up n ++ n ∷ []
