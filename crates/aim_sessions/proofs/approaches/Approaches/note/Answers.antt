use Rattle.std.proofs.Common.{refl, sym}
use Rattle.aim_sessions.proofs.Lists.{within, noted, cleared, room_for}
use Rattle.aim_sessions.proofs.approaches.Approaches.note.Goals as goal

pub set-requires : goal.set-requires
set-requires c = record { there = within c.self.inside.calls.items c.args.self.now _ c.args.vehicle c.self.view_is refl c.requires.there }

pub add-requires : goal.add-requires
add-requires c =
    let i = c.self.inside in
    let there = within i.calls.items c.args.self.now _ c.args.vehicle c.self.view_is refl c.requires.there in record {
      there = within i.calls.items c.args.self.now _ c.args.vehicle c.self.view_is (sym c.self.invariant.0.long) c.requires.there;
      room = room_for i.calls.items i.callers.list.items i.callers.is_listed.items c.args.vehicle _ c.self.invariant there;
    }

pub invariant_of-self : goal.invariant_of-self
invariant_of-self c =
    let i = c.self.inside in
    let there = within i.calls.items c.args.self.now _ c.args.vehicle c.self.view_is refl c.requires.there in
    let e = c.add.ensures in
    noted i.calls.items c.set.new.calls.items i.callers.list.items _ i.callers.is_listed.items _ c.args.vehicle _ _ c.args.call c.self.invariant there c.requires.range c.set.ensures e.listed e.list e.capacity

pub invariant_of-self-else-is_some : goal.invariant_of-self-else-is_some
invariant_of-self-else-is_some c =
    let i = c.self.inside in
    let there = within i.calls.items c.args.self.now _ c.args.vehicle c.self.view_is refl c.requires.there in
    cleared i.calls.items c.set.new.calls.items i.callers.list.items i.callers.is_listed.items c.args.vehicle _ c.args.call c.self.invariant there c.requires.range c.set.ensures c.if-is_some.ensures
