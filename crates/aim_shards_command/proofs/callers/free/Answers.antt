use Rattle.std.proofs.Common.{◌<◌, length, ap, arith}
use Rattle.aim_shards.specs.declared.claims.ClaimAct.TheVariants.{Free}
use Rattle.aim_shards_command.proofs.Calls.{own_same, ticket_at, tickets_more}
use Rattle.aim_shards_command.proofs.callers.free.Goals as goal

pub returns-clause-works : goal.returns-clause-works
returns-clause-works g c =
    let w = c.requires.works in
    let p = c.push_reserved.ensures in record {
      own = own_same c.args.shards.now c.args.caller.now.pass c.free.new.pass c.in-Ok.ensures.same w.own;
      calls = w.calls;
      tickets = tickets_more c.args.caller.now.pass.mine c.free.new.pass.mine (record { ticket = c.in-Ok.claimed.ticket; caller = c.args.caller.now.pass.number; act = Free c.index-ticket.result.now; yes = c.in-Ok.claimed.yes }) c.args.caller.now.tickets.items c.push_reserved.new.self.items w.tickets p.items c.in-Ok.ensures.made.mine;
      room = omega (arith, p.capacity, w.room);
    }

pub returns-clause-made : goal.returns-clause-made
returns-clause-made g c =
    let w = c.requires.works in
    let there : c.args.call < length c.args.caller.now.pass.mine = c.requires.can.there in record {
      entry = record { ticket = c.in-Ok.claimed.ticket; caller = c.args.caller.now.pass.number; act = Free c.index-ticket.result.now; yes = c.in-Ok.claimed.yes };
      is = c.in-Ok.ensures.made.mine;
      does = ap Free (ticket_at c.args.caller.now.tickets.items c.args.caller.now.pass.mine c.args.call c.index-ticket.result.now w.tickets there c.index-ticket.ensures);
    }
