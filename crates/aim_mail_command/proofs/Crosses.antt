-- Callers may go to other threads.
use denote.Param.Send.{IsSend, sendable}
use Rattle.std.proofs.Crossing.{crosses}
use Rattle.aim_mail.proofs.Crosses.{client_send}
use Rattle.aim_mail.proofs.ChannelCrosses.{pool_send}
use Rattle.aim_mail_command.specs.contracts.callers.Caller as Caller

pub caller_send : IsSend Caller.the_field.row
caller_send = search (sendable, crosses, client_send, pool_send) depth 20
