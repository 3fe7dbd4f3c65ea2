use Rattle.std.proofs.Common.{length, refl, sym, ap, ◌∙◌, arith}
use Rattle.std.proofs.lemmas.List.{length-map, length_push}
use Rattle.aim_mail_command.proofs.Seats.{caller_with, clients_more, seats_more}
use Rattle.aim_mail_command.proofs.running.seated.Goals as goal

pub loop-client-preserved : goal.loop-client-preserved
loop-client-preserved c =
    let i = c.loop-client.invariant in
    let p = c.push_reserved.ensures in
    let old = c.loop-client.callers.items in
    let one = caller_with c.loop-client.vehicle c.in-Some.client c.in_ok-sheets.sheets in
    let made = ap (caller_with c.loop-client.vehicle c.in-Some.client) c.in_ok-sheets.ensures in
    let push = length_push c.loop-client.yielded c.in-Some.client in record {
      count = omega (arith, p.len, i.count, push);
      number = omega (arith, i.number, push);
      room = omega (arith, p.capacity, i.room);
      clients = clients_more c.loop-client.yielded c.in-Some.client old c.push_reserved.new.self.items one i.clients refl p.items;
      callers = seats_more c.args.spans c.loop-client.vehicle c.in-Some.client old c.push_reserved.new.self.items one (i.number ∙ sym (ap length i.clients) ∙ length-map old (λ x. x.client)) made p.items i.callers;
    }
