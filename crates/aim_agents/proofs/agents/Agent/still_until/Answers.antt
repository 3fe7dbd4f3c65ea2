use Rattle.std.proofs.Common.{subst, arith}
use Rattle.aim_agents.specs.Agents.{AgentModel}
use Rattle.aim_agents.specs.Rests.{IsStill}
use Rattle.aim_agents.proofs.agents.Agent.still_until.Goals as goal

pub returns : goal.returns
returns c = λ s lo hi.
    let first = c.idle_until-until.ensures.idle s lo (omega arith) in
    let P : AgentModel → Type 0 = λ a. IsStill a.driver a.up a.down s in
    subst P c.self.view_is (record { above = c.idle_until.ensures s (omega arith); below = c.idle_until-2.ensures s (omega arith); free = first.0; calm = first.1 })
