use Rattle.aim_agents.specs.Runs.{IsFrontOf, Running, shown_by}
use Rattle.aim_agents.proofs.runs.run_turns.Given as goal

abbrev pub invariant-loop-agent : goal.invariant-loop-agent
invariant-loop-agent g l = record {
  before : IsFrontOf l.manager l.before;
  running : Running l.manager.setting l.step l.agent-index (shown_by l.before) l.initial.agents l.agents;
}
