use Rattle.std.proofs.Common.{◌≡◌, List, length, sym, ◌∙◌, subst, arith}
use Rattle.std.proofs.lemmas.List.{with_items_is}
use Rattle.std.specs.Prelude.{All}
use Rattle.aim_shards_command.specs.declared.callers.Caller.{Caller}
use Rattle.aim_shards_command.specs.Running.{HasCalled, IsReady}
use Rattle.aim_shards_command.proofs.running.called.Goals as goal

pub seated-requires : goal.seated-requires
seated-requires g c k d lt =
    let n = c.requires.new k d lt in
    (n.none, omega (arith, n.own.calls, n.calls))

pub side_by_side-requires-clause-ready : goal.side_by_side-requires-clause-ready
side_by_side-requires-clause-ready g c κs within =
    subst (λ (l : List Caller). All (IsReady c.args.shards.now) l) (sym c.deref_mut.ensures.value) (c.in_ok-callers.ensures.ready c.args.shards.now c.requires.new)

pub returns-clause-done : goal.returns-clause-done
returns-clause-done g c =
    let kept : length c.side_by_side.new.callers ≡ length c.deref_mut.result.now = c.side_by_side.ensures.count in
    c.passes_of.ensures.done c.args.shards.now c.args.lines.now
    (subst (λ (l : List Caller). All (HasCalled c.args.shards.now c.args.lines.now) l) (sym (with_items_is c.in_ok-callers.callers c.side_by_side.new.callers (kept ∙ c.deref_mut.ensures.len))) c.side_by_side.ensures.called)
