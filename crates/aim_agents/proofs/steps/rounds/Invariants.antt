use Rattle.aim_agents.proofs.RoundLaws.{Going}
use Rattle.aim_agents.proofs.steps.rounds.Given as goal

abbrev pub invariant-loop-step : goal.invariant-loop-step
invariant-loop-step g l = Going l.manager.setting l.from l.step l.wake l.size l.fn.operator l.operator l.fn.agents l.agents
