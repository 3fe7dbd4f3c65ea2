use Rattle.std.proofs.Common.{refl}
use Rattle.aim_shards.proofs.Walks.{taken_out, announces}
use Rattle.aim_shards.proofs.turns.announce.Goals as goal

pub put-requires-clause-held : goal.put-requires-clause-held
put-requires-clause-held c = taken_out c.take-quarter.ensures.taken

pub returns-clause-plan : goal.returns-clause-plan
returns-clause-plan c = announces c.take-quarter.ensures.taken c.put.ensures.given refl refl refl
