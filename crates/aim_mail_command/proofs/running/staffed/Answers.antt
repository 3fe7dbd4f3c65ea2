use Rattle.std.proofs.Common.{ap, ◌∙◌}
use Rattle.aim_geometry.specs.declared.ground.Grid.{Grid}
use Rattle.aim_mail_command.proofs.Staffing.{staff_is}
use Rattle.aim_mail_command.proofs.running.staffed.Goals as goal

pub returns-in-Ok-clause-callers : goal.returns-in-Ok-clause-callers
returns-in-Ok-clause-callers g c =
    let o = c.in_ok-opened.ensures in
    let k = c.in-Ok.ensures in
    staff_is c.args.script.now c.in_ok-opened.opened.server c.grid-spans.result.spans c.in_ok-opened.opened.clients.items c.in-Ok.callers.items o.server (ap (λ (x : Grid). x.spans) (c.grid-spans.ensures.grid ∙ c.ground.ensures.grid))
    k.clients o.count o.clients k.callers
