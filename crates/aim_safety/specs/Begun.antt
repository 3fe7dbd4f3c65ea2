-- The crossing that a driver makes, as the code has it. No public clause cites this.
use Rattle.aim_safety.specs.declared.grants.Grant.{Grant}
use Rattle.aim_safety.specs.declared.grants.Passage.{Passage}
use Rattle.aim_safety.specs.Occupied as law

-- what a grant of the code is
abbrev pub grant_as : Grant → law.Grant
grant_as g = record { params = g.params; fast = g.fast }

-- what a crossing of the code is
abbrev pub passage_as : Passage → law.Passage
passage_as x = record { step = x.step; grant = grant_as x.grant }
