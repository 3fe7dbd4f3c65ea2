use Rattle.std.proofs.Common.{ℕ, ◌≤◌, length, take}
use Rattle.std.specs.Prelude.{All}
use Rattle.aim_driver.specs.Models.{step_of}
use Rattle.aim_turnstile.specs.Models.{IsPassOf, IsSamePass}
use Rattle.aim_agents.specs.Agents.{IsAgentOf}
use Rattle.aim_agents.specs.Rounds.{run_size}
use Rattle.aim_agents.specs.Driven.{Driven}
use Rattle.aim_agents.specs.Orders.{AreOrders, CarryOrders, IsReached}
use Rattle.aim_agents.proofs.driving.give_all.Given as goal

abbrev pub invariant-loop-ordered : goal.invariant-loop-ordered
invariant-loop-ordered g l = record {
  same : IsSamePass l.fn.operator l.operator;
  driven : Driven l.manager.setting l.step (run_size (length l.fn.agents) l.workers) l.operator l.fn.agents l.agents;
  given : CarryOrders l.operator.mine (take l.ordered-index l.orders);
  operator : IsPassOf l.manager l.operator;
  own : All (IsAgentOf l.manager) l.agents;
  last : All (λ a. step_of a.driver.log ≤ l.step) l.agents;
  reached : (until : ℕ) → AreOrders l.manager.setting.layout l.manager.setting.vehicles until l.orders → IsReached l.step l.ordered-index until l.orders;
}
