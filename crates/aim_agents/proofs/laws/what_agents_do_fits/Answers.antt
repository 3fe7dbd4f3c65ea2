use Rattle.aim_driver.proofs.FollowLemmas.{follows_fits}
use Rattle.aim_agents.proofs.Followed.{followed, fits_if}
use Rattle.aim_agents.proofs.laws.what_agents_do_fits.Goals as goal

pub returns : goal.returns
returns c = λ s first last a b h n w calm has.
    fits_if first last a b h (follows_fits a.driver.plan a.up.fates a.down.fates first last h b.pass.number) (followed s first last a b n w calm) has
