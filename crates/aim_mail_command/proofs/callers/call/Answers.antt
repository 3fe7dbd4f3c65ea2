use Rattle.std.proofs.Common.{refl}
use Rattle.aim_mail.specs.Calls.{Call as ClientCall}
use Rattle.aim_mail_command.proofs.Steps.{called_is}
use Rattle.aim_mail_command.proofs.callers.call.Goals as goal

pub returns-clause-called : goal.returns-clause-called
returns-clause-called g c =
    let call : ClientCall = record { moment = c.args.event.now.moment; message = c.prepare_from-prepared.result.message; answer = c.call-answer.result } in
    called_is c.args.event.now c.args.client.now c.call-answer.new.self call c.call-answer.new.self.kept c.call-answer.ensures.call refl c.prepare_from-prepared.ensures.message
