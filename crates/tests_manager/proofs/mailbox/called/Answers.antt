use Rattle.aim_mail.proofs.Clients.{prepared_if, same_called}
use Rattle.tests_manager.proofs.mailbox.called.Goals as goal

pub call-requires-clause-prepared : goal.call-requires-clause-prepared
call-requires-clause-prepared g c = prepared_if _ _ _ c.requires.layout (rw c.expect-prepared.ensures at c.prepared.ensures.prepared)

pub returns : goal.returns
returns g c = same_called _ _ _ _ c.call.ensures.call
