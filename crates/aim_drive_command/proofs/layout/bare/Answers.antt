use Rattle.std.proofs.Common.{sym, ◌∙◌, ap}
use Rattle.aim_layout.specs.Building.{bare}
use Rattle.aim_drive_command.proofs.Ways.{laid_none}
use Rattle.aim_drive_command.proofs.layout.bare.Goals as goal

pub returns-in-Ok-new : goal.returns-in-Ok-new
returns-in-Ok-new c = c.in-Ok-new.ensures.bare ∙ ap (λ s. bare s 12 1) c.in-Ok.ensures.ground ∙ sym laid_none
