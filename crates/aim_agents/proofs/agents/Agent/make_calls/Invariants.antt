use Rattle.aim_driver.specs.Links.{under_way}
use Rattle.aim_agents.proofs.Turns.{Making}
use Rattle.aim_agents.proofs.agents.Agent.make_calls.Given as goal

abbrev pub invariant-loop-message : goal.invariant-loop-message
invariant-loop-message g l = Making l.manager.setting l.step l.initial.self l.self

abbrev pub decreases-loop-message : goal.decreases-loop-message
decreases-loop-message g l = under_way l.self.up
