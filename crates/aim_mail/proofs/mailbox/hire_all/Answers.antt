use Rattle.std.proofs.Common.{arith, ap, sym, ◌∙◌}
use Rattle.aim_mail.proofs.Opens.{has_spans, staffed_more}
use Rattle.aim_mail.proofs.mailbox.hire_all.Goals as goal

pub loop-vehicle-init : goal.loop-vehicle-init
loop-vehicle-init g c =
    let v = c.vehicles-vehicles.ensures in
    let a = c.requires.room.0 in
    let b = c.requires.room.1 in
    record { staffed = c.requires.none; slip_room = omega (arith, v, a); client_room = omega (arith, v, b) }

pub hire-requires : goal.hire-requires
hire-requires g c =
    let i = c.loop-vehicle.invariant in
    record { next = sym i.staffed.made; spans = has_spans _ _ _ i.staffed.setting (c.spans_of-spans.ensures ∙ ap (λ z. z.grid.spans) c.layout.ensures) }

pub loop-vehicle-preserved : goal.loop-vehicle-preserved
loop-vehicle-preserved g c =
    let i = c.loop-vehicle.invariant in
    let h = c.in_ok-slip.ensures in
    let a = c.push_reserved.ensures in
    let b = c.push_reserved-in-loop-vehicle.ensures in
    record {
      staffed = staffed_more _ _ _ _ _ _ _ _ _ _ _ i.staffed (c.spans_of-spans.ensures ∙ ap (λ z. z.grid.spans) c.layout.ensures) h.slip h.client h.intake a.items b.items;
      slip_room = omega (arith, i.slip_room, a.capacity);
      client_room = omega (arith, i.client_room, b.capacity);
    }
