use Rattle.aim_driver.proofs.FollowLemmas.{follows_fits}
use Rattle.aim_driver.proofs.laws.what_follows_fits.Goals as goal

pub returns : goal.returns
returns c = follows_fits
