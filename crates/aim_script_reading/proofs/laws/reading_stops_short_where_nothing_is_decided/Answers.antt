use Rattle.aim_script_reading.proofs.Undecided.{short_of, shorts}
use Rattle.aim_script_reading.proofs.laws.reading_stops_short_where_nothing_is_decided.Goals as goal

pub returns : goal.returns
returns g c r bytes rest = ((λ x. short_of r bytes rest x), (λ u. shorts r bytes rest u))
