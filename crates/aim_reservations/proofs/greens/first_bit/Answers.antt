use Rattle.aim_reservations.proofs.GreenLemmas.{lowest_bit, no_bit}
use Rattle.aim_reservations.proofs.greens.first_bit.Goals as goal

pub returns-then-mask-eq0-clause-none : goal.returns-then-mask-eq0-clause-none
returns-then-mask-eq0-clause-none c = λ k. no_bit c.args.mask k c.if-mask-eq0.true

pub returns-clause-found : goal.returns-clause-found
returns-clause-found c = lowest_bit c.args.mask c.ranges.mask.fits c.if-mask-eq0.false
