use Rattle.aim_layout.proofs.LaneTileLemmas.{HasTiles-bare}
use Rattle.aim_layout.proofs.SoundLemmas.{IsSound-bare}
use Rattle.aim_layout.proofs.builders.make.Goals as goal

pub invariant_of-result : goal.invariant_of-result
invariant_of-result c =
    let ranges = c.has_ranges.ensures in
    let sound = IsSound-bare c.args.ground c.args.lanes c.args.version ranges.grid ranges.times c.requires.some c.requires.most c.requires.some_version c.requires.version in
    let tiles = HasTiles-bare c.args.ground c.args.lanes c.args.version in
    rw (c.in_ok-bare_lanes.ensures, c.in_ok-no_tiles.ensures, c.in_ok-with_capacity.ensures.items) (sound, tiles, c.in_ok-with_capacity.ensures.capacity)
