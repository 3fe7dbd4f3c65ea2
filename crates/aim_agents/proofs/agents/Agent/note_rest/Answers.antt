use Rattle.std.proofs.Common.{sym, subst}
use Rattle.aim_agents.specs.Agents.{AgentModel}
use Rattle.aim_agents.specs.Rests.{AreStill}
use Rattle.aim_agents.proofs.agents.Agent.note_rest.Goals as goal

pub invariant_of-self : goal.invariant_of-self
invariant_of-self c = record {
  whole = c.self.invariant.whole;
  sheets = c.self.invariant.sheets;
  full = c.self.invariant.full;
  still = (let P : AgentModel → Type 0 = λ a. AreStill a.driver a.up a.down c.args.from c.still_until.result in subst P (sym c.self.view_is) c.still_until.ensures);
}
