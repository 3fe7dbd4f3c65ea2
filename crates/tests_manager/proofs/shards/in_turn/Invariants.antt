use Rattle.aim_shards.specs.Models.{IsSamePass}
use Rattle.tests_manager.proofs.shards.in_turn.Given as goal

-- the passes stay the same passes
abbrev pub invariant-loop-call : goal.invariant-loop-call
invariant-loop-call g l = IsSamePass l.initial.first l.first × IsSamePass l.initial.second l.second
