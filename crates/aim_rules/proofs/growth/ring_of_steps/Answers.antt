use Rattle.aim_rules.proofs.RunLaws.{IsNear-legal, IsRing-clear, IsRing-far, IsRing-at, IsRing-snoc, place-apart}
use Rattle.aim_rules.proofs.growth.ring_of_steps.Goals as goal

pub returns-clause-near : goal.returns-clause-near
returns-clause-near c = IsNear-legal

pub returns-clause-clear : goal.returns-clause-clear
returns-clause-clear c = IsRing-clear

pub returns-clause-far : goal.returns-clause-far
returns-clause-far c = IsRing-far

pub returns-clause-at : goal.returns-clause-at
returns-clause-at c = IsRing-at

pub returns-clause-more : goal.returns-clause-more
returns-clause-more c = IsRing-snoc

pub returns-clause-places : goal.returns-clause-places
returns-clause-places c = place-apart
