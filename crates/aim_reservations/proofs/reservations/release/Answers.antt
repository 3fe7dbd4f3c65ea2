use Rattle.aim_reservations.proofs.reservations.release.Goals as goal

pub release-requires : goal.release-requires
release-requires g c = rw c.in-Some.is at c.requires
