use Rattle.aim_shards.proofs.Walks.{in_hand_as, found_is}
use Rattle.aim_shards.proofs.turns.take.Goals as goal

pub exchange-requires : goal.exchange-requires
exchange-requires c = (c.requires.desk, in_hand_as c.requires.held)

pub unreachable-requires : goal.unreachable-requires
unreachable-requires c = c.in_default.not-Some _ (found_is c.requires.held c.exchange.ensures.2)
