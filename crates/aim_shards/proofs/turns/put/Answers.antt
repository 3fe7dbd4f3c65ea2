use Rattle.aim_shards.proofs.turns.put.Goals as goal

pub exchange-requires : goal.exchange-requires
exchange-requires c = (c.requires.desk, (_, c.requires.held.is))
