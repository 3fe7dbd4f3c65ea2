-- What is found on the way through the quadrants. No public clause cites this file.
use Rattle.std.specs.Prelude.{◌≡◌, ℕ, Option}
use Rattle.atomic_table.specs.Table.{Me}
use Rattle.aim_shards.specs.declared.quarter.Quarter.{Quarter}
use Rattle.aim_shards.specs.declared.view.ShardView.{ShardView}
use Rattle.aim_shards.specs.declared.turns.Found.{Found}
use Rattle.aim_shards.specs.Sets.{Quarters, touched}
use Rattle.aim_shards.specs.Claims.{are_free}
use Rattle.aim_shards.specs.Working.{head_or}

-- below the quadrant n
pub record IsFound (set : Quarters) (n : ℕ) (m : Me (Option Quarter) ShardView) (f : Found) : Type 0 where
  pub free : f.free ≡ are_free m.0.terms.sets set m.0.held
  pub last : f.last ≡ head_or (touched set n) 0
