use Rattle.std.proofs.Common.{◌≡◌, ◌<◌, length, sym, subst, arith}
use denote.Param.Send.{sendable}
use Rattle.std.proofs.Crossing.{crosses, sync}
use Rattle.std.specs.Prelude.{IfSome}
use Rattle.aim_layout.proofs.layouts.Layout.TheSendSync as layout
use Rattle.aim_mail.specs.Calls.{ClientModel}
use Rattle.aim_mail.proofs.Crosses.{crossing}
use Rattle.bench_day.proofs.turns.Turns.TheSendSync as turns
use Rattle.bench_manager.proofs.Same.{same_mail}
use Rattle.bench_manager.proofs.mailbox.all_turns.Goals as goal

-- what is shown already is tried first
pub for_each_mut-requires-send-T : goal.for_each_mut-requires-send-T
for_each_mut-requires-send-T g c κs within = search (crossing, sendable, crosses) depth 30

pub for_each_mut-requires-sync-F : goal.for_each_mut-requires-sync-F
for_each_mut-requires-sync-F g c κs within = search (layout.the_sync, turns.the_sync, sync, c.type_bounds, sendable) depth 40

pub for_each_mut-requires-clause-accepts : goal.for_each_mut-requires-clause-accepts
for_each_mut-requires-clause-accepts g c κs within = λ i p lt is.
    let l = c.args.layout.now in
    subst (λ (x : ClientModel). IfSome x.setting (λ s. s.layout ≡ l)) (sym is) (c.requires.layout i p.now lt)

pub returns : goal.returns
returns g c =
    let count : length c.for_each_mut.new.s ≡ length c.args.clients.now = omega arith in record {
      count = count;
      own = λ m own k d lt.
          let old : k < length c.args.clients.now = omega (arith, lt, count) in
          let h = (c.for_each_mut.ensures k d old).1 in
          same_mail m _ _ _ _ h.argument_is h.left h.call (own k d old);
    }
