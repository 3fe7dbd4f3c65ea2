use Rattle.std.proofs.Common.{◌≡◌, ◌^◌, ◌<◌, ◌≤◌, Bool, true, false, List, [], ℕ, length, get_or, sym, arith, ap}
use Rattle.std.specs.Prelude.{bit_and, slice_index}
use Rattle.std.specs.Bool.{OnFalse, OnTrue}
use Rattle.aim_layout.specs.Intersection.{Intersection}
use Rattle.aim_layout.specs.LaneRows.{HasTilesOf}
use Rattle.aim_layout.specs.Building.{share_tile}
use Rattle.aim_layout.proofs.Elements.{get_or-read}
use Rattle.aim_layout.proofs.ShareLemmas.{share_tile-none, share_tile-some}
use Rattle.aim_layout.proofs.builders.Builder.share_tile.Goals as goal

-- either answer is the right one
answer : (i : Intersection) (a b : ℕ) (x y : List ℕ) (answer : Bool) → HasTilesOf i a x → HasTilesOf i b y → i.grid.n ≤ 64 →
    OnTrue answer ((r : ℕ) × (r < 64) × (0 < bit_and (slice_index x r) (slice_index y r)) × (slice_index x r < 2 ^ 64)) →
    OnFalse answer ((r : ℕ) → r < 64 → bit_and (slice_index x r) (slice_index y r) ≡ 0) → answer ≡ share_tile i a b
answer i a b x y true h k few some none = sym (share_tile-some i a b x y some.0 h k some.1 some.3 some.2)
answer i a b x y false h k few some none = sym (share_tile-none i a b x y h k few none)

pub returns : goal.returns
returns c =
    let i : Intersection = record { version = c.self.inside.version; grid = c.self.inside.ground.grid; times = c.self.inside.ground.times; lanes = c.self.inside.lanes.items; policies = c.self.inside.policies.items } in
    let t = c.self.invariant.1 in
    let tiles = c.self.inside.tiles.items in
    let count : length c.args.self.now.lanes ≡ length i.lanes = sym (ap (λ i. length i.lanes) c.self.view_is) in
    let a : c.args.a < length i.lanes = omega arith in
    let b : c.args.b < length i.lanes = omega arith in
    let ra : get_or tiles c.args.a [] ≡ c.index.result.now = get_or-read tiles c.args.a c.index.result.now [] (let e = t.count in omega arith) c.index.ensures in
    let rb : get_or tiles c.args.b [] ≡ c.index-2.result.now = get_or-read tiles c.args.b c.index-2.result.now [] (let e = t.count in omega arith) c.index-2.ensures in
    rw (← c.self.view_is) (answer i c.args.a c.args.b c.index.result.now c.index-2.result.now c.share_bit.result (rw ra at (t.rows c.args.a a)) (rw rb at (t.rows c.args.b b)) c.self.invariant.0.grid.rows c.share_bit.ensures.some c.share_bit.ensures.none)
