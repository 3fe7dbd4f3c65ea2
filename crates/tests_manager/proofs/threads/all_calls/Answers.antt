use Rattle.std.proofs.Common.{◌≡◌, ◌<◌, length, sym, ap, ◌∙◌, subst, arith}
use denote.Param.Send.{sendable}
use Rattle.std.proofs.Crossing.{crosses, sync}
use Rattle.aim_messages.specs.declared.entries.Entry.{Entry}
use Rattle.aim_turnstile.specs.Models.{PassModel, IsPassOf}
use Rattle.aim_manager.specs.declared.keeper.BookSetting.{BookSetting}
use Rattle.aim_manager.proofs.Crosses.{manager_sync, pass_send}
use Rattle.tests_manager.proofs.threads.all_calls.Goals as goal

-- what is shown already is tried first
pub for_each_mut-requires-send-T : goal.for_each_mut-requires-send-T
for_each_mut-requires-send-T g c κs within = search (pass_send, sendable, crosses) depth 20

pub for_each_mut-requires-sync-F : goal.for_each_mut-requires-sync-F
for_each_mut-requires-sync-F g c κs within = search (manager_sync, sync, c.type_bounds, sendable) depth 20

pub for_each_mut-requires-clause-accepts : goal.for_each_mut-requires-clause-accepts
for_each_mut-requires-clause-accepts g c κs within = λ i p lt is.
    let m = c.args.manager.now in
    subst (λ (x : PassModel BookSetting Entry). IsPassOf m x × (x.number < m.setting.vehicles)) (sym is) (c.requires.own i p.now lt)

pub returns : goal.returns
returns g c = record {
  same = λ k d lt.
      let same : length c.for_each_mut.new.s ≡ length c.args.passes.now = omega arith in
      let old : k < length c.args.passes.now = omega (arith, lt, same) in
      let h = (c.for_each_mut.ensures k d old).1 in
      ap (λ (x : PassModel BookSetting Entry). x.table) (sym h.left) ∙ h.call.table ∙ ap (λ (x : PassModel BookSetting Entry). x.table) h.argument_is ∙ (c.requires.own k d old).0.table;
}
