-- Travellers may go to other threads, and threads may share the managers.
use denote.Param.Send.{IsSend, sendable}
use Rattle.std.proofs.Crossing.{crosses}
use Rattle.aim_driver.proofs.drivers.Driver.TheSendSync as driver
use Rattle.aim_driver.proofs.plans.DrivePlan.TheSendSync as plan
use Rattle.aim_agents.proofs.RunsCross.{pass_send, pool_send, agent_send}
use Rattle.aim_grid.specs.contracts.travellers.Leg as Leg
use Rattle.aim_grid.specs.contracts.travellers.Traveller as Traveller

leg_send : IsSend Leg.the_row
leg_send = search (sendable, crosses, plan.the_send, pass_send, pool_send) depth 30

pub traveller_send : IsSend Traveller.the_row
traveller_send = search (sendable, crosses, driver.the_send, pass_send, agent_send, leg_send) depth 30 fits 20000
