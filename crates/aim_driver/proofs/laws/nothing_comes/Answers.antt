use Rattle.aim_driver.proofs.LinkLemmas.{none_comes, nothing_found}
use Rattle.aim_driver.proofs.laws.nothing_comes.Goals as goal

pub returns : goal.returns
returns g c = λ l step. (λ e. none_comes l step e, λ n. nothing_found l step n)
