use Rattle.aim_rules.proofs.TakenLaws.{taken_by-owner, are_below-legal, AreApart-legal}
use Rattle.aim_rules.proofs.growth.taken_by_what_is_kept.Goals as goal

pub returns-clause-by : goal.returns-clause-by
returns-clause-by c = taken_by-owner

pub returns-clause-below : goal.returns-clause-below
returns-clause-below c = are_below-legal

pub returns-clause-apart : goal.returns-clause-apart
returns-clause-apart c = AreApart-legal
