-- What holds of each pass. No public clause cites this file.
use Rattle.std.specs.Prelude.{◌≡◌, ℕ, ◌≤◌, List, [], length, Option}
use Rattle.atomic_table.specs.Table.{Me}
use Rattle.aim_shards.specs.declared.claims.ClaimEntry.{ClaimEntry}
use Rattle.aim_shards.specs.declared.quarter.Quarter.{Quarter}
use Rattle.aim_shards.specs.declared.view.ShardView.{ShardView}
use Rattle.aim_shards.specs.Claims.{stands}
use Rattle.aim_shards.specs.Working.{Rests}

pub record Keeps (n calls made : ℕ) (standing : List ClaimEntry) (capacity : ℕ) (m : Me (Option Quarter) ShardView) : Type 0 where
  pub rests : Rests n m
  pub made_is : made ≡ length m.0.mine
  pub within : made ≤ calls
  pub stands_is : standing ≡ stands [] m.0.mine
  pub wide : calls ≤ capacity
