use Rattle.std.proofs.Common.{◌≡◌, ◌<◌, length, arith, get_or, [], ◌∙◌}
use Rattle.aim_layout.specs.Intersection.{Intersection}
use Rattle.aim_layout.specs.Building.{no_paths}
use Rattle.aim_layout.proofs.Elements.{get_or-read}
use Rattle.aim_layout.proofs.LaneTileLemmas.{HasTiles-move}
use Rattle.aim_layout.proofs.SoundLemmas.{IsMove, IsMove-tests, IsSound-move}
use Rattle.aim_layout.proofs.ValidLemmas.{path_read}
use Rattle.aim_layout.proofs.builders.Builder.put.Goals as goal

pub invariant_of-self : goal.invariant_of-self
invariant_of-self c =
    let i : Intersection = record { version = c.self.inside.version; grid = c.self.inside.ground.grid; times = c.self.inside.ground.times; lanes = c.self.inside.lanes.items; policies = c.self.inside.policies.items } in
    let m : IsMove i c.args.lane c.args.turn c.args.shape.now = IsMove-tests i c.args.lane c.args.turn c.args.shape.now (rw (← c.self.view_is) at c.requires) in
    let paths : get_or i.lanes c.args.lane no_paths ≡ c.index_mut-paths.result.now = get_or-read i.lanes c.args.lane c.index_mut-paths.result.now no_paths m.there c.index_mut-paths.ensures.value in
    let row : c.args.lane < length c.self.inside.tiles.items = let t = c.self.invariant.1.count in let l = m.there in omega arith in
    let rows : get_or c.self.inside.tiles.items c.args.lane [] ≡ c.index_mut-rows.result.now = get_or-read c.self.inside.tiles.items c.args.lane c.index_mut-rows.result.now [] row c.index_mut-rows.ensures.value in
    let sound = IsSound-move i c.args.lane c.args.turn c.args.shape.now c.self.invariant.0 m in
    let tiles = HasTiles-move i c.args.lane c.args.turn c.args.shape.now c.self.inside.tiles.items c.add_path.new.rows m.there m.free c.self.invariant.1 (rw rows c.add_path.ensures.rows) in
    rw (c.add_path.ensures.paths, ← paths) (sound, tiles, c.self.invariant.2)

pub index_mut-paths-requires : goal.index_mut-paths-requires
index_mut-paths-requires c =
    let i : Intersection = record { version = c.self.inside.version; grid = c.self.inside.ground.grid; times = c.self.inside.ground.times; lanes = c.self.inside.lanes.items; policies = c.self.inside.policies.items } in
    let m : IsMove i c.args.lane c.args.turn c.args.shape.now = IsMove-tests i c.args.lane c.args.turn c.args.shape.now (rw (← c.self.view_is) at c.requires) in
    let l = m.there in omega arith

pub index_mut-rows-requires : goal.index_mut-rows-requires
index_mut-rows-requires c =
    let i : Intersection = record { version = c.self.inside.version; grid = c.self.inside.ground.grid; times = c.self.inside.ground.times; lanes = c.self.inside.lanes.items; policies = c.self.inside.policies.items } in
    let m : IsMove i c.args.lane c.args.turn c.args.shape.now = IsMove-tests i c.args.lane c.args.turn c.args.shape.now (rw (← c.self.view_is) at c.requires) in
    let t = c.self.invariant.1.count in let l = m.there in omega arith

pub add_path-requires-clause-shape : goal.add_path-requires-clause-shape
add_path-requires-clause-shape c =
    let i : Intersection = record { version = c.self.inside.version; grid = c.self.inside.ground.grid; times = c.self.inside.ground.times; lanes = c.self.inside.lanes.items; policies = c.self.inside.policies.items } in
    let m : IsMove i c.args.lane c.args.turn c.args.shape.now = IsMove-tests i c.args.lane c.args.turn c.args.shape.now (rw (← c.self.view_is) at c.requires) in
    m.shape

pub add_path-requires-clause-none : goal.add_path-requires-clause-none
add_path-requires-clause-none c =
    let i : Intersection = record { version = c.self.inside.version; grid = c.self.inside.ground.grid; times = c.self.inside.ground.times; lanes = c.self.inside.lanes.items; policies = c.self.inside.policies.items } in
    let m : IsMove i c.args.lane c.args.turn c.args.shape.now = IsMove-tests i c.args.lane c.args.turn c.args.shape.now (rw (← c.self.view_is) at c.requires) in
    path_read i c.args.lane c.args.turn c.index_mut-paths.result.now m.there c.index_mut-paths.ensures.value ∙ m.free
