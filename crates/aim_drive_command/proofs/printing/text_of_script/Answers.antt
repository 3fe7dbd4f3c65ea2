use Rattle.std.proofs.Common.{◌++◌, ◌∙◌, ap}
use Rattle.aim_drive_command.specs.Arms.{layout_lines}
use Rattle.aim_drive_command.proofs.Printed.{lines_text, whole_text}
use Rattle.aim_drive_command.proofs.printing.text_of_script.Goals as goal

pub returns : goal.returns
returns c =
    whole_text c.args.number c.args.count c.put_layout.new.out.items c.put_line.new.out.items c.put_line-2.new.out.items c.put_line-3.new.out.items c.put_plans.new.out.items c.put_line-4.new.out.items
    (c.in_ok-put_layout.ensures ∙ ap (λ t. t ++ lines_text layout_lines) c.new-text.ensures.items)
    c.in_ok-put_line.ensures c.in_ok-put_line-2.ensures c.in_ok-put_line-3.ensures c.in_ok-put_plans.ensures c.in_ok-put_line-4.ensures
