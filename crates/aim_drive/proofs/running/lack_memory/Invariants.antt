use Rattle.std.proofs.Common.{◌≡◌, ◌≢◌, ℕ, ◌<◌, get_or, Some}
use Rattle.aim_agents.specs.declared.agents.Trouble.TheVariants as trouble
use Rattle.aim_agents.specs.Agents.{AgentModel, IsFull}
use Rattle.aim_drive.proofs.running.lack_memory.Given as goal

abbrev pub invariant-loop-agent : goal.invariant-loop-agent
invariant-loop-agent l = (k : ℕ) (d : AgentModel) → k < l.agent-index → let a = get_or l.agents.items k d in (a.trouble ≢ Some trouble.NoMemory) × (a.trouble ≡ Some trouble.Full → IsFull a.pass)
