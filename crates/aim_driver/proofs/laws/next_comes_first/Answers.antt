use Rattle.aim_driver.proofs.LinkLemmas.{next_is, next_found}
use Rattle.aim_driver.proofs.laws.next_comes_first.Goals as goal

pub returns : goal.returns
returns g c = λ l step place. (λ e. next_is l step place e, λ n. next_found l step place n)
