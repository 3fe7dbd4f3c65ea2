use Rattle.aim_turnstile.specs.Models.{IsSamePass}
use Rattle.tests_manager.proofs.threads.calls.Given as goal

-- the pass stays the same pass
abbrev pub invariant-loop-place : goal.invariant-loop-place
invariant-loop-place g l = IsSamePass l.initial.pass l.pass
