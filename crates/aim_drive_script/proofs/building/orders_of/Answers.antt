use Rattle.std.proofs.Common.{refl, sym, ap, ◌∙◌, get_or, filter_map}
use Rattle.std.proofs.lemmas.Option.{slice_get-get_or}
use Rattle.aim_messages.specs.declared.script.Line.TheVariants as line
use Rattle.aim_drive_script.specs.Said.{ordered_in}
use Rattle.aim_drive_script.proofs.Scanning.{given_next, given_all}
use Rattle.aim_drive_script.proofs.building.orders_of.Goals as goal

pub add_ordered-requires-clause-name : goal.add_ordered-requires-clause-name
add_ordered-requires-clause-name c =
    let lines = c.args.lines.now in
    let i = c.loop-line.line-index in
    c.requires.named.each i (get_or lines i (line.Version 0)) (slice_get-get_or lines i (line.Version 0) c.loop-line-test.true)

pub loop-line-preserved : goal.loop-line-preserved
loop-line-preserved c =
    let lines = c.args.lines.now in
    let i = c.loop-line.line-index in
    let names = c.args.setting.now.names in
    given_next (ordered_in names) lines i (line.Version 0) c.loop-line.orders.items (ordered_in names (get_or lines i (line.Version 0))) c.add_ordered.new.orders.items c.loop-line-test.true c.loop-line.invariant refl c.in_ok-add_ordered.ensures

pub returns : goal.returns
returns c = given_all (ordered_in c.args.setting.now.names) c.args.lines.now c.loop-line.line-index c.loop-line.orders.items c.loop-line-test.false c.loop-line.invariant ∙ ap (λ names. filter_map (ordered_in names) c.args.lines.now) (sym c.requires.opened.named)
