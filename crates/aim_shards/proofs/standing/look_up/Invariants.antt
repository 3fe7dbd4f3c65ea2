use Rattle.std.proofs.Common.{◌≡◌, false, take}
use Rattle.aim_shards.specs.Claims.{has_ticket}
use Rattle.aim_shards.proofs.standing.look_up.Given as goal

abbrev pub invariant-loop-claim : goal.invariant-loop-claim
invariant-loop-claim l = has_ticket l.ticket (take l.claim-index l.claim-items) ≡ false
