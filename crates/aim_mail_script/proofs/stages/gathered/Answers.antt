use Rattle.std.proofs.Common.{refl, sym, ◌∙◌}
use Rattle.aim_mail_script.proofs.Staging.{event_taken}
use Rattle.aim_mail_script.proofs.stages.gathered.Goals as goal

pub returns-in-Ok : goal.returns-in-Ok
returns-in-Ok c before st = event_taken before c.args.draft _ _ _ _ (sym c.event_fault.ensures ∙ c.in_default.is) refl refl refl c.in-Ok.ensures.items st
