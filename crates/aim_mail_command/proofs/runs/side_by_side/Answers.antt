use Rattle.std.proofs.Common.{◌≡◌, get_or, length, subst, arith}
use denote.Param.Send.{sendable}
use Rattle.std.proofs.Crossing.{crosses}
use Rattle.aim_layout.proofs.layouts.Layout.TheSendSync as layout
use Rattle.aim_mail_script.proofs.scripts.Event.TheSendSync as event
use Rattle.aim_mail_command.specs.Calling.{Finished}
use Rattle.aim_mail_command.proofs.Crosses.{caller_send}
use Rattle.aim_mail_command.proofs.Places.{by_default}
use Rattle.aim_mail_command.proofs.runs.side_by_side.Goals as goal

pub for_each_chunk_mut-requires-send-T : goal.for_each_chunk_mut-requires-send-T
for_each_chunk_mut-requires-send-T g c κs within = search (sendable, crosses, caller_send)

pub for_each_chunk_mut-requires-sync-F : goal.for_each_chunk_mut-requires-sync-F
for_each_chunk_mut-requires-sync-F g c κs within = search (sendable, crosses, layout.the_sync, event.the_sync, c.type_bounds) depth 30

pub returns : goal.returns
returns g c =
    let xs = c.args.callers.now in
    let ys = c.for_each_chunk_mut.new.s in
    let R = Finished c.args.layout.now c.args.events.now in
    let len : length c.for_each_chunk_mut.new.s ≡ length c.args.callers.now = omega arith in
    by_default R xs ys len (λ k d lt.
    let h = (c.for_each_chunk_mut.ensures.by_index k d lt).1 in
    subst (λ x. R x (get_or ys k d)) h.old_element (subst (λ y. R (get_or h.argument.now h.offset d) y) h.new_element (h.call.each h.offset d d h.offset_in_chunk)))
