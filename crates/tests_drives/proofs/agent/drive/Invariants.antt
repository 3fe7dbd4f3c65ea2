use Rattle.std.proofs.Common.{◌≤◌}
use Rattle.aim_driver.specs.Models.{step_of}
use Rattle.aim_agents.specs.Agents.{IsAgentOf}
use Rattle.tests_drives.proofs.agent.drive.Given as goal

abbrev pub invariant-loop-step : goal.invariant-loop-step
invariant-loop-step g l = record {
  own : IsAgentOf l.manager l.agent;
  last : step_of l.agent.driver.log ≤ l.step;
}
