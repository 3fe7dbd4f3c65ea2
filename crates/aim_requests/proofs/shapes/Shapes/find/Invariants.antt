use Rattle.std.proofs.Common.{◌<◌}
use Rattle.aim_requests.proofs.shapes.Shapes.find.Given as goal

abbrev pub invariant-loop : goal.invariant-loop
invariant-loop l = l.at < l.slots
