use Rattle.std.proofs.Common.{◌≡◌}
use Rattle.aim_sheets.proofs.pools.Pool.new.Given as goal

abbrev pub invariant-loop : goal.invariant-loop
invariant-loop l = l.pool ≡ record { count = l.counter; room = l.spans }
