use Rattle.aim_mail.proofs.Clients.{prepared_if}
use Rattle.bench_manager.proofs.mailbox.call.Goals as goal

pub call-requires-clause-prepared : goal.call-requires-clause-prepared
call-requires-clause-prepared g c = prepared_if _ _ _ c.requires.layout c.prepare_from-prepared.ensures.prepared
