use Rattle.std.proofs.Common.{arith}
use Rattle.aim_shards.proofs.Walks.{gives_none, rests_after}
use Rattle.aim_shards.proofs.turns.give_turns.Goals as goal

pub returns-clause-rests : goal.returns-clause-rests
returns-clause-rests c = rests_after (gives_none c.args.set.now c.loop-quadrant.quadrant (omega (arith, c.loop-quadrant-test.false)) c.loop-quadrant.invariant.gives)
