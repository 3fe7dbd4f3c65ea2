use Rattle.bench_manager.proofs.Same.{own_of}
use Rattle.bench_manager.proofs.mailbox.beside.Goals as goal

-- what the clients' side says of any mailbox, of this server's
pub returns : goal.returns
returns g c = record { own = own_of c.args.server c.in_ok-both.both.0 c.args.clients.items c.in_ok-both.both.1.items c.in_ok-both.ensures.1 c.requires.own }
