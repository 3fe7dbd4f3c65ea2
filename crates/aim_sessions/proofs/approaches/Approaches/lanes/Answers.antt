use Rattle.std.proofs.Common.{◌<◌, ◌≤◌, ◌∙◌, ap, sym, length}
use Rattle.std.specs.List.{list_any}
use Rattle.aim_sessions.specs.Calls.{is_call_in}
use Rattle.aim_sessions.proofs.Lists.{called_more, called_all, listed_within, range_read}
use Rattle.aim_sessions.proofs.approaches.Approaches.lanes.Goals as goal

pub loop-vehicle-preserved : goal.loop-vehicle-preserved
loop-vehicle-preserved c = λ lane.
    let i = c.self.inside in
    let k = c.loop-vehicle.vehicle-index in
    let l : k < length i.callers.list.items = rw c.deref-vehicle-items.ensures.value at c.loop-vehicle-test.true in
    called_more i.calls.items i.callers.list.items k c.loop-vehicle.lanes c.lane_of-lanes.result c.args.now c.args.horizon lane c.index.result.now l (c.self.invariant.0.below k 0 l)
    (rw c.deref-vehicle-items.ensures.value at c.index.ensures) (c.loop-vehicle.invariant lane) (c.lane_of-lanes.ensures lane)

pub returns : goal.returns
returns c = λ lane.
    let i = c.self.inside in
    let past : length i.callers.list.items ≤ c.loop-vehicle.vehicle-index = rw c.deref-vehicle-items.ensures.value at c.loop-vehicle-test.false in
    c.loop-vehicle.invariant lane ∙ called_all i.calls.items i.callers.list.items i.callers.is_listed.items c.loop-vehicle.vehicle-index c.args.now c.args.horizon lane c.self.invariant.0 past
    ∙ ap (list_any (is_call_in c.args.now c.args.horizon lane)) c.self.view_is

pub index-requires : goal.index-requires
index-requires c =
    let i = c.self.inside in
    let d = c.deref-vehicle-items in
    listed_within i.calls.items i.callers.list.items d.result.now i.callers.is_listed.items _ c.loop-vehicle.vehicle-index c.self.invariant.0 (sym i.calls.ok.0) d.ensures.value c.loop-vehicle-test.true

pub lane_of-lanes-requires-clause-range : goal.lane_of-lanes-requires-clause-range
lane_of-lanes-requires-clause-range c =
    let i = c.self.inside in
    let d = c.deref-vehicle-items in
    range_read i.calls.items i.callers.list.items d.result.now i.callers.is_listed.items c.loop-vehicle.vehicle-index c.index.result.now c.self.invariant.0 d.ensures.value c.loop-vehicle-test.true c.index.ensures
