use Rattle.std.proofs.Common.{Some, None, ap, ◌∙◌}
use Rattle.std.specs.Option.{option_copied}
use Rattle.aim_messages.specs.declared.script.Line.TheVariants as line
use Rattle.aim_drive_script.proofs.Placing.{over_is}
use Rattle.aim_drive_script.proofs.drafts.is_over.Goals as goal

pub returns-in-Some-End : goal.returns-in-Some-End
returns-in-Some-End c = over_is c.args.lines.now _ (Some line.End) c.last.ensures.value (ap option_copied c.in-Some-End.is ∙ ap (λ l. Some l) c.in-Some-End.field-0-is)

pub returns-in_default-2 : goal.returns-in_default-2
returns-in_default-2 c = over_is c.args.lines.now _ None c.last.ensures.value (ap option_copied c.in_default.is)
