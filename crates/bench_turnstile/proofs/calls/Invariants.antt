use Rattle.aim_turnstile.specs.Models.{IsSamePass}
use Rattle.bench_turnstile.proofs.calls.Given as goal

-- the pass stays the same pass
abbrev pub invariant-loop-call : goal.invariant-loop-call
invariant-loop-call g l = IsSamePass l.initial.pass l.pass
