use Rattle.aim_shards.specs.Ruled.{tail_of}
use Rattle.aim_shards.specs.Sets.{touched}
use Rattle.aim_shards.proofs.Walks.{works_some, gives_own, of_gives}
use Rattle.aim_shards.proofs.turns.make.Goals as goal

pub draw-ticket-requires-clause-works : goal.draw-ticket-requires-clause-works
draw-ticket-requires-clause-works c = (tail_of (touched c.args.set.now 4), works_some c.args.set.now c.requires.last c.requires.works)

pub give_turns-requires-clause-gives : goal.give_turns-requires-clause-gives
give_turns-requires-clause-gives c = gives_own (c.draw-ticket.ensures.gives _ c.requires.works)

pub give_turns-requires-clause-of : goal.give_turns-requires-clause-of
give_turns-requires-clause-of c = of_gives (c.draw-ticket.ensures.gives _ c.requires.works) c.requires.of
