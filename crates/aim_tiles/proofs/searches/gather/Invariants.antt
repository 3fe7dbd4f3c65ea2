use Rattle.std.proofs.Common.{◌≡◌, ◌<◌, ◌≤◌, ◌-◌, length, slice_index_or}
use Rattle.aim_tiles.specs.Searches.{IsRun}
use Rattle.aim_tiles.proofs.searches.gather.Given as goal

abbrev pub invariant-loop-count : goal.invariant-loop-count
invariant-loop-count l = record {
  some : 0 < l.count;
  within : l.count ≤ length l.spans;
  few : l.count ≤ 64;
  len : length l.masks ≡ 64;
  first : l.first ≡ slice_index_or l.spans 0 (record { step = 0; row = 0; mask = 0 });
  run : IsRun l.spans l.masks l.count;
}

abbrev pub decreases-loop-count : goal.decreases-loop-count
decreases-loop-count l = length l.spans - l.count
