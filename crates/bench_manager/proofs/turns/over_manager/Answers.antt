use Rattle.std.proofs.Common.{◌≡◌, List, length, sym, ap, ◌∙◌, subst, arith}
use Rattle.std.specs.Prelude.{All}
use Rattle.std.proofs.lemmas.List.{with_items_is}
use Rattle.aim_messages.specs.declared.entries.Entry.{Entry}
use Rattle.aim_turnstile.specs.Models.{PassModel}
use Rattle.aim_manager.specs.declared.keeper.BookSetting.{BookSetting}
use Rattle.aim_manager.proofs.Passes.{IsOfVehicle, passes_of_vehicles, passes_count}
use Rattle.bench_manager.proofs.turns.over_manager.Goals as goal

pub all_turns-requires-clause-own : goal.all_turns-requires-clause-own
all_turns-requires-clause-own g c κs within =
    let o = c.in_ok-opened.opened in
    subst (λ (l : List (PassModel BookSetting Entry)). All (IsOfVehicle o.manager) l) (sym c.deref_mut.ensures.value)
    (passes_of_vehicles o.manager c.args.callers o.passes.items c.in_ok-opened.ensures.passes c.in_ok-opened.ensures.vehicles)

pub close-requires-clause-own : goal.close-requires-clause-own
close-requires-clause-own g c =
    let o = c.in_ok-opened.opened in
    let ys = c.all_turns.new.passes in
    let lent = c.deref_mut.ensures in
    let count : length c.all_turns.new.passes ≡ c.in_ok-opened.opened.passes.len = omega (arith, lent.len) in (
      subst (λ (l : List (PassModel BookSetting Entry)). All (λ p. p.table ≡ o.manager.table) l) (sym (with_items_is o.passes ys count)) c.all_turns.ensures.same,
      ap (λ (p : PassModel BookSetting Entry). p.table) c.in_ok-opened.ensures.operator,
    )

pub close-requires-clause-all : goal.close-requires-clause-all
close-requires-clause-all g c =
    let o = c.in_ok-opened.opened in
    let ys = c.all_turns.new.passes in
    let lent = c.deref_mut.ensures in
    let count : length c.all_turns.new.passes ≡ c.in_ok-opened.opened.passes.len = omega (arith, lent.len) in
    let same : length c.all_turns.new.passes ≡ length c.in_ok-opened.opened.passes.items = omega (arith, ap length lent.value) in
    ap length (with_items_is o.passes ys count) ∙ same ∙ passes_count o.manager c.args.callers o.passes.items c.in_ok-opened.ensures.passes c.in_ok-opened.ensures.vehicles
