use Rattle.aim_script.proofs.HeaderLemmas.{move_taken, move_falls}
use Rattle.aim_script.proofs.headers.Place.turn.Goals as goal

pub returns-in-Ok : goal.returns-in-Ok
returns-in-Ok c before st =
    move_taken before _ _ _ _ _ _ c.in-Moves.is (rw (c.from.ensures, c.shape_of.ensures) at c.in-Ok.ensures.fault) (rw (c.from.ensures, c.shape_of.ensures) at c.in-Ok.ensures.ok) st

pub returns-in-Err : goal.returns-in-Err
returns-in-Err c before st =
    rw c.move_kind.ensures (move_falls before _ _ _ _ _ _ c.in-Moves.is (rw (c.from.ensures, c.shape_of.ensures) at c.in-Err.ensures.fault) st)
