use Rattle.std.proofs.Common.{◌≡◌, ◌++◌, OnOk, subst}
use Rattle.aim_drive_command.proofs.Printed.{layout_text}
use Rattle.aim_drive_command.proofs.printing.put_layout.Goals as goal

pub returns : goal.returns
returns c = subst (λ t. OnOk c.put_text.result (c.put_text.new.out.items ≡ c.args.out.now.items ++ t)) layout_text c.put_text.ensures
