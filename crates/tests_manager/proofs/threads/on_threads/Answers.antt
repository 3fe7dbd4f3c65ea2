use Rattle.std.proofs.Common.{◌≡◌, List, length, sym, ap, ◌∙◌, subst, arith}
use Rattle.std.specs.Prelude.{All}
use Rattle.std.proofs.lemmas.List.{with_items_is}
use Rattle.aim_messages.specs.declared.entries.Entry.{Entry}
use Rattle.aim_turnstile.specs.Models.{PassModel}
use Rattle.aim_manager.specs.declared.keeper.BookSetting.{BookSetting}
use Rattle.aim_manager.proofs.Passes.{IsOfVehicle, passes_of_vehicles, passes_count}
use Rattle.tests_manager.proofs.threads.on_threads.Goals as goal

pub all_calls-requires-clause-own : goal.all_calls-requires-clause-own
all_calls-requires-clause-own g c κs within =
    let o = c.opened-opened.result in
    subst (λ (l : List (PassModel BookSetting Entry)). All (IsOfVehicle o.manager) l) (sym c.deref_mut.ensures.value)
    (passes_of_vehicles o.manager c.args.vehicles o.passes.items c.opened-opened.ensures.passes c.opened-opened.ensures.vehicles)

pub close-requires-clause-own : goal.close-requires-clause-own
close-requires-clause-own g c =
    let o = c.opened-opened.result in
    let ys = c.all_calls.new.passes in
    let lent = c.deref_mut.ensures in
    let count : length c.all_calls.new.passes ≡ c.opened-opened.result.passes.len = omega (arith, lent.len) in (
      subst (λ (l : List (PassModel BookSetting Entry)). All (λ p. p.table ≡ o.manager.table) l) (sym (with_items_is o.passes ys count)) c.all_calls.ensures.same,
      ap (λ (p : PassModel BookSetting Entry). p.table) c.opened-opened.ensures.operator,
    )

pub close-requires-clause-all : goal.close-requires-clause-all
close-requires-clause-all g c =
    let o = c.opened-opened.result in
    let ys = c.all_calls.new.passes in
    let lent = c.deref_mut.ensures in
    let count : length c.all_calls.new.passes ≡ c.opened-opened.result.passes.len = omega (arith, lent.len) in
    let same : length c.all_calls.new.passes ≡ length c.opened-opened.result.passes.items = omega (arith, ap length lent.value) in
    ap length (with_items_is o.passes ys count) ∙ same ∙ passes_count o.manager c.args.vehicles o.passes.items c.opened-opened.ensures.passes c.opened-opened.ensures.vehicles
