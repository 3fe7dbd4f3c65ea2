-- Agents may go to other threads, and threads may share a manager and what they call before a call.
use denote.Param.Send.{IsSend, sendable}
use Rattle.std.proofs.Crossing.{crosses}
use Rattle.aim_messages.proofs.messages.Message.TheSendSync as message
use Rattle.aim_messages.proofs.replies.Reply.TheSendSync as reply
use Rattle.aim_agents.proofs.agents.Trouble.TheSendSync as trouble
use Rattle.aim_driver.proofs.drivers.Driver.TheSendSync as driver
use Rattle.aim_driver.proofs.links.Link.TheSendSync as link
pub use Rattle.aim_agents.proofs.Crosses.{manager_sync, pass_send, pool_send}
use Rattle.aim_agents.proofs.Crosses.{memo_send}
use Rattle.aim_agents.specs.contracts.agents.Agent as Agent

pub agent_send : IsSend Agent.the_row
agent_send = search (sendable, crosses, message.the_send, reply.the_send, trouble.the_send, driver.the_send, link.the_send, pass_send, pool_send, memo_send) depth 30 fits 20000
