use Rattle.aim_script_reading.proofs.Undecided.{needed_of, needs}
use Rattle.aim_script_reading.proofs.laws.reads_are_needed_where_nothing_is_decided.Goals as goal

pub returns : goal.returns
returns g c r front piece rest = ((λ x. needed_of r front piece rest x), (λ u. needs r front piece rest u))
