use Rattle.std.proofs.Common.{◌≡◌}
use Rattle.aim_agents.specs.Agents.{front_of}
use Rattle.aim_agents.specs.Went.{Met}
use Rattle.aim_agents.specs.Runs.{Done}
use Rattle.aim_agents.proofs.runs.meet_all.Given as goal

abbrev pub invariant-loop-agent : goal.invariant-loop-agent
invariant-loop-agent l = record {
  same : l.operator ≡ l.initial.operator;
  met : Done (λ a b. Met l.manager.setting a (front_of l.initial.operator) b) l.agent-index l.initial.agents l.agents;
}
