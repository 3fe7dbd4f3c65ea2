use Rattle.std.proofs.Common.{◌≡◌, ◌∙◌, length, length-take, arith, refl}
use Rattle.aim_footprint.proofs.visits.simulate.Goals as goal

pub lead-requires-clause-room : goal.lead-requires-clause-room
lead-requires-clause-room g c =
    let same : length c.stations-count.result.now ≡ length c.in-Some-of.path = rw c.stations-count.ensures.stations refl in
    let most = c.stations-count.ensures.most in
    length-take _ _ ∙ omega arith
