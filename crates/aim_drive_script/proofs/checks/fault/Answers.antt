use Rattle.std.proofs.Common.{sym, ◌∙◌}
use Rattle.aim_drive_script.proofs.Kinding.{in_order}
use Rattle.aim_drive_script.proofs.checks.fault.Goals as goal

pub returns-else-is_out_of_order : goal.returns-else-is_out_of_order
returns-else-is_out_of_order c = c.fault_in_order.ensures ∙ sym (in_order c.args.lines.now c.args.line.now c.requires.opened.place (sym c.is_out_of_order.ensures ∙ c.if-is_out_of_order.false))
