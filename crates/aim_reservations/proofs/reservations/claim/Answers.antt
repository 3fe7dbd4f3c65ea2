use Rattle.aim_reservations.proofs.reservations.claim.Goals as goal

pub claim-requires-clause-tiles : goal.claim-requires-clause-tiles
claim-requires-clause-tiles g c = rw c.in-Some.is at c.requires.tiles
