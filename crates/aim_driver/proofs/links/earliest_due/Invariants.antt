use Rattle.std.proofs.Common.{◌≡◌, take}
use Rattle.aim_driver.specs.Links.{earliest}
use Rattle.aim_driver.proofs.links.earliest_due.Given as goal

abbrev pub invariant-loop-sending : goal.invariant-loop-sending
invariant-loop-sending g l = l.least ≡ earliest l.lag (take l.sending-index l.sent)
