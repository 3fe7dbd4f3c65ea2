use Rattle.aim_shards.specs.Models.{IsSamePass}
use Rattle.bench_shards.proofs.calls.Given as goal

-- the pass stays the same pass
abbrev pub invariant-loop : goal.invariant-loop
invariant-loop g l = IsSamePass l.initial.pass l.pass
