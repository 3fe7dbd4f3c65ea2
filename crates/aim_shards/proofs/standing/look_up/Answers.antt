use Rattle.std.proofs.Common.{arith}
use Rattle.aim_shards.proofs.Freed.{look_at, look_past}
use Rattle.aim_shards.proofs.standing.look_up.Goals as goal

pub returns-then-claim-ticket-clause-set : goal.returns-then-claim-ticket-clause-set
returns-then-claim-ticket-clause-set c sets = look_at sets c.args.ticket c.loop-claim.claim-index c.deref-claim-items.result.now c.args.standing.now.items _ _ c.deref-claim-items.ensures.value c.loop-claim-test.true c.loop-claim.invariant c.if-claim-ticket.true (c.set_of.ensures sets)

pub returns-clause-set : goal.returns-clause-set
returns-clause-set c sets = look_past sets c.args.ticket c.loop-claim.claim-index c.deref-claim-items.result.now c.args.standing.now.items c.deref-claim-items.ensures.value (omega (arith, c.loop-claim-test.false)) c.loop-claim.invariant
