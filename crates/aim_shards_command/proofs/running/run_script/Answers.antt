use Rattle.std.proofs.Common.{ap, length, sym, ◌∙◌}
use Rattle.aim_shards.specs.Closing.{AreMade}
use Rattle.aim_shards.specs.History.{IsHistory}
use Rattle.aim_shards_command.specs.Said.{sets_of, terms_of}
use Rattle.aim_shards_command.specs.Running.{IsRun}
use Rattle.aim_shards_command.proofs.Runs.{all_new, as_many, if_ok, run_opened}
use Rattle.aim_shards_command.proofs.running.run_script.Goals as goal

pub called-requires-clause-sets : goal.called-requires-clause-sets
called-requires-clause-sets g c κs within =
    let o = c.in_ok-opened.ensures in
    let are = o.sheets in
    are.count ∙ ap (λ ls. length (sets_of ls)) (sym c.lines.ensures.lines)

pub called-requires-clause-new : goal.called-requires-clause-new
called-requires-clause-new g c κs within =
    let o = c.in_ok-opened.ensures in
    let t = terms_of c.args.script.now in
    all_new c.in_ok-opened.opened.shards c.in_ok-opened.opened.passes.items t.callers o.calls o.passes

pub history-requires-clause-all : goal.history-requires-clause-all
history-requires-clause-all g c = c.in-Ok.ensures.count ∙ as_many c.args.script.now c.in_ok-opened.opened c.in_ok-opened.ensures

pub history-requires-clause-own : goal.history-requires-clause-own
history-requires-clause-own g c k d lt =
    let done = c.in-Ok.ensures.done k d lt in
    let own = done.own in own.table

pub returns-in-Ok : goal.returns-in-Ok
returns-in-Ok g c =
    let o = c.in_ok-opened.opened in
    let ps = c.in-Ok.passes.items in
    if_ok (λ v. IsHistory o.shards.sets v.items) (λ v. AreMade o.shards.numbers ps v.items) (λ v. IsRun c.args.script.now v.items) c.history.result c.history.ensures.history c.history.ensures.made
    (λ v h m. run_opened c.args.script.now c.lines.result.now o ps v.items c.lines.ensures.lines c.in_ok-opened.ensures c.in-Ok.ensures.done h m)
