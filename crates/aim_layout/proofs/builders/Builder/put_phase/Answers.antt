use Rattle.std.proofs.Common.{◌≡◌, ◌<◌, length, Some, arith, refl}
use Rattle.aim_layout.specs.Intersection.{Intersection}
use Rattle.aim_layout.specs.Building.{with_phase_of}
use Rattle.aim_layout.proofs.LaneTileLemmas.{HasTiles-same}
use Rattle.aim_layout.proofs.PolicyLemmas.{phase_last, phase_there, with_phase_last}
use Rattle.aim_layout.proofs.SoundLemmas.{IsSound-phase}
use Rattle.aim_layout.proofs.builders.Builder.put_phase.Goals as goal

pub overflow_sub-count : goal.overflow_sub-count
overflow_sub-count c =
    let i : Intersection = record { version = c.self.inside.version; grid = c.self.inside.ground.grid; times = c.self.inside.ground.times; lanes = c.self.inside.lanes.items; policies = c.self.inside.policies.items } in
    let some : 0 < length i.policies = phase_there i c.args.phase (rw (← c.self.view_is) at c.requires) in
    omega arith

pub index_mut-last-requires : goal.index_mut-last-requires
index_mut-last-requires c =
    let i : Intersection = record { version = c.self.inside.version; grid = c.self.inside.ground.grid; times = c.self.inside.ground.times; lanes = c.self.inside.lanes.items; policies = c.self.inside.policies.items } in
    let some : 0 < length i.policies = phase_there i c.args.phase (rw (← c.self.view_is) at c.requires) in
    omega arith

pub add-requires : goal.add-requires
add-requires c =
    let i : Intersection = record { version = c.self.inside.version; grid = c.self.inside.ground.grid; times = c.self.inside.ground.times; lanes = c.self.inside.lanes.items; policies = c.self.inside.policies.items } in
    let count : c.len-count.result ≡ length i.policies = omega arith in
    let last = phase_last i c.args.phase c.len-count.result c.index_mut-last.result.now (rw (← c.self.view_is) at c.requires) count c.index_mut-last.ensures.value in
    last.1.room

pub returns : goal.returns
returns c =
    let i : Intersection = record { version = c.self.inside.version; grid = c.self.inside.ground.grid; times = c.self.inside.ground.times; lanes = c.self.inside.lanes.items; policies = c.self.inside.policies.items } in
    let count : c.len-count.result ≡ length i.policies = omega arith in
    let p = c.index_mut-last.result.now in
    let last = phase_last i c.args.phase c.len-count.result p (rw (← c.self.view_is) at c.requires) count c.index_mut-last.ensures.value in
    rw (← c.self.view_is) (with_phase_last i c.args.phase c.len-count.result p c.add.new.self last.0 count c.add.ensures)

pub invariant_of-self : goal.invariant_of-self
invariant_of-self c =
    let i : Intersection = record { version = c.self.inside.version; grid = c.self.inside.ground.grid; times = c.self.inside.ground.times; lanes = c.self.inside.lanes.items; policies = c.self.inside.policies.items } in
    let count : c.len-count.result ≡ length i.policies = omega arith in
    let p = c.index_mut-last.result.now in
    let last = phase_last i c.args.phase c.len-count.result p (rw (← c.self.view_is) at c.requires) count c.index_mut-last.ensures.value in
    let sound = IsSound-phase i c.args.phase p c.self.invariant.0 last.0 last.1 in
    let tiles = HasTiles-same i (with_phase_of i c.args.phase (Some p)) c.self.inside.tiles.items refl refl c.self.invariant.1 in
    rw (c.add.ensures, count) (sound, tiles, c.self.invariant.2)
