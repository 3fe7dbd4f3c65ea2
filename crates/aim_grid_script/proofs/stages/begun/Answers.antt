use Rattle.std.proofs.Common.{[]}
use Rattle.aim_grid_script.proofs.Staging.{begins_falls, no_some}
use Rattle.aim_grid_script.proofs.stages.begun.Goals as goal

pub returns-in-Ok-More : goal.returns-in-Ok-More
returns-in-Ok-More c =
    let h = rw c.in-Ok-More.field-0-is at (c.in-Ok-More.ensures [] c.new.ensures) in
    (h.0, h.2)

pub returns-in-Ok-Whole : goal.returns-in-Ok-Whole
returns-in-Ok-Whole c =
    let h = rw c.in-Ok-Whole.field-0-is at (c.in-Ok-Whole.ensures [] c.new.ensures) in
    absurd (no_some _ h.1)

pub returns-in-Err : goal.returns-in-Err
returns-in-Err c = begins_falls c.args.number c.in-Err.why (c.in-Err.ensures [] c.new.ensures)
