use Rattle.std.proofs.Common.{List, ap, arith, map, length, subst, sym, ◌∙◌}
use Rattle.std.specs.Prelude.{All}
use Rattle.std.proofs.lemmas.List.{length-map}
use Rattle.aim_grid.specs.Runs.{journal_left, logs_left}
use Rattle.aim_grid.specs.Drove.{Drove}
use Rattle.aim_layout.specs.Intersection.{Intersection}
use Rattle.aim_layout.specs.Valid.{IsValid}
use Rattle.aim_grid_command.specs.Texts.{grid_report}
use Rattle.aim_grid_command.specs.Values.{HasValues}
use Rattle.aim_grid_command.proofs.Reporting.{if_ok, is_report}
use Rattle.aim_grid_command.proofs.commands.text_over.Goals as goal

pub report_of-requires-clause-count : goal.report_of-requires-clause-count
report_of-requires-clause-count g c = ap length c.deref.ensures.value ∙ sym (length-map c.in_ok-left.left.items logs_left) ∙ c.in_ok-left.ensures.run.count ∙ sym (ap length c.requires.layouts)

pub report_of-requires-clause-crossings : goal.report_of-requires-clause-crossings
report_of-requires-clause-crossings g c =
    let count = ap length c.deref.ensures.value ∙ sym (length-map c.in_ok-left.left.items logs_left) ∙ c.in_ok-left.ensures.run.count in
    let few = c.requires.routes.few_crossings in omega (arith, count, few)

pub returns : goal.returns
returns g c = λ lines are.
    let left = c.in_ok-left.left.items in
    let e = c.in_ok-left.ensures in
    let p = c.report_of.ensures in
    if_ok c.report_of.result
    (λ text told. is_report lines c.args.routes are c.requires.routes left e.run (subst (All HasValues) c.deref.ensures.value p.values) (subst (All IsValid) c.requires.layouts p.valid) e.few e.enters text.items
    (told ∙ ap (λ (ds : List Drove). grid_report c.args.layouts.now c.args.routes.vehicles (map journal_left ds) (map logs_left ds)) c.deref.ensures.value
    ∙ ap (λ (is : List Intersection). grid_report is c.args.routes.vehicles (map journal_left left) (map logs_left left)) c.requires.layouts))
    p.text
