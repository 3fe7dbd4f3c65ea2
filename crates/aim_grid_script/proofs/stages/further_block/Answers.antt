use Rattle.std.proofs.Common.{refl}
use Rattle.aim_grid_script.proofs.Staging.{next_begun, next_taken}
use Rattle.aim_grid_script.proofs.stages.further_block.Goals as goal

pub returns-in-Err : goal.returns-in-Err
returns-in-Err c before header a ends =
    rw c.told.ensures (next_begun before (record { count = c.args.count; whole = c.args.whole; header = header }) c.args.number c.args.layout c.in-Err.why a ends c.in-Err.ensures)

pub returns-in-Ok-push : goal.returns-in-Ok-push
returns-in-Ok-push c before header a ends =
    next_taken before (record { count = c.args.count; whole = c.args.whole; header = header }) _ c.args.number c.args.layout a c.requires ends c.in-Ok.ensures refl c.in-Ok-push.ensures.items

pub returns-in-Err-push : goal.returns-in-Err-push
returns-in-Err-push c before header a ends = tt
