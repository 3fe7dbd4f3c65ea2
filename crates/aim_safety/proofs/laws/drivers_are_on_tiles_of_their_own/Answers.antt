use Rattle.aim_safety.proofs.MeetLemmas.{is_reserved}
use Rattle.aim_safety.proofs.laws.drivers_are_on_tiles_of_their_own.Goals as goal

pub returns : goal.returns
returns c = is_reserved
