use Rattle.aim_report.proofs.StayLemmas.{stays_cover, stays_longest}
use Rattle.aim_report.proofs.laws.stays_are_the_longest_runs.Goals as goal

pub returns-clause-cover : goal.returns-clause-cover
returns-clause-cover c = stays_cover

pub returns-clause-longest : goal.returns-clause-longest
returns-clause-longest c = stays_longest
