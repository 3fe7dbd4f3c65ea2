use Rattle.aim_policies.proofs.Greens.{green_there, green_apart}
use Rattle.aim_policies.proofs.laws.lanes_that_are_green_at_once_are_apart.Goals as goal

pub returns-clause-there : goal.returns-clause-there
returns-clause-there c i policy offset lane valid h = green_there i policy offset lane valid h

pub returns-clause-apart : goal.returns-clause-apart
returns-clause-apart c i policy offset a b row col valid h k s t = green_apart i policy offset a b row col valid h k s t
