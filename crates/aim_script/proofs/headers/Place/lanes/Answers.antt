use Rattle.aim_script.proofs.HeaderLemmas.{lanes_taken, lanes_inside}
use Rattle.aim_script.proofs.headers.Place.lanes.Goals as goal

pub returns-in-Ok : goal.returns-in-Ok
returns-in-Ok c before version st =
    lanes_taken before _ _ _ _ _ c.in-Lanes.is (lanes_inside c.args.lanes _ _ c.in-Ok.ensures.lane) (rw c.number.ensures.number at c.in-Ok.ensures.bare) version st
