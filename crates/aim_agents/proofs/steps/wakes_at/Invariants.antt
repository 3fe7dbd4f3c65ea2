use Rattle.std.proofs.Common.{ℕ, ◌<◌, ◌≤◌, get_or}
use Rattle.aim_agents.specs.Agents.{AgentModel, Idles}
use Rattle.aim_agents.proofs.steps.wakes_at.Given as goal

abbrev pub invariant-loop-agent : goal.invariant-loop-agent
invariant-loop-agent l = (k : ℕ) (d : AgentModel) → k < l.agent-index → (t : ℕ) → l.step ≤ t → t < l.least → Idles (get_or l.agents k d) t
