-- What is left of two lists that are being merged. No public clause cites this file.
use Rattle.std.specs.Prelude.{◌⊎◌, ◌<◌, List, ◌++◌}
use Rattle.aim_shards.specs.declared.claims.ClaimEntry.{ClaimEntry}
use Rattle.aim_shards.specs.Merging.{IsIn, IsRising}

-- of all the entries these are merged, and those of the two lists are left
pub record IsLeft (all merged xs ys : List ClaimEntry) : Type 0 where
  pub rising : IsRising merged
  pub rising_xs : IsRising xs
  pub rising_ys : IsRising ys
  pub above : (e f : ClaimEntry) → IsIn e merged → IsIn f (xs ++ ys) → e.ticket < f.ticket
  pub each : (e : ClaimEntry) → IsIn e all → IsIn e merged ⊎ IsIn e (xs ++ ys)
  pub merged_in : (e : ClaimEntry) → IsIn e merged → IsIn e all
  pub rest_in : (e : ClaimEntry) → IsIn e (xs ++ ys) → IsIn e all
