use Rattle.aim_mail.specs.Calls.{IsOfMail}
use Rattle.aim_mail.proofs.Clients.{all_two}
use Rattle.tests_manager.proofs.mailbox.settled.Goals as goal

pub settle-requires : goal.settle-requires
settle-requires g c = record { own = rw c.both.ensures (all_two (IsOfMail c.args.served) _ _ c.requires.own.0 c.requires.own.1) }
