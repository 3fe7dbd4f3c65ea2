use Rattle.aim_rules.proofs.MotionLemmas.{front_sum}
use Rattle.aim_rules.proofs.laws.front_is_the_sum_of_speeds.Goals as goal

pub returns : goal.returns
returns c = front_sum
