use Rattle.std.proofs.Common.{arith}
use Rattle.aim_shards.specs.declared.claims.ClaimAct.TheVariants.{Claim}
use Rattle.aim_shards_command.proofs.Calls.{own_same, tickets_more}
use Rattle.aim_shards_command.proofs.callers.claim.Goals as goal

pub returns-clause-works : goal.returns-clause-works
returns-clause-works g c =
    let w = c.requires.works in
    let p = c.push_reserved.ensures in record {
      own = own_same c.args.shards.now c.args.caller.now.pass c.claim.new.pass c.in-Ok.ensures.same w.own;
      calls = w.calls;
      tickets = tickets_more c.args.caller.now.pass.mine c.claim.new.pass.mine (record { ticket = c.in-Ok.claimed.ticket; caller = c.args.caller.now.pass.number; act = Claim c.args.set; yes = c.in-Ok.claimed.yes }) c.args.caller.now.tickets.items c.push_reserved.new.self.items w.tickets p.items c.in-Ok.ensures.made.mine;
      room = omega (arith, p.capacity, w.room);
    }
