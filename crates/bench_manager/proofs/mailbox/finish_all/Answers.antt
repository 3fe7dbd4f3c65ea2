use Rattle.std.proofs.Common.{[], ◌∷◌, ◌++◌, ap, ◌∙◌, arith}
use Rattle.std.proofs.lemmas.List.{length_push}
use Rattle.bench_manager.proofs.mailbox.finish_all.Goals as goal

pub loop-client-preserved : goal.loop-client-preserved
loop-client-preserved g c =
    let i = c.loop-client.invariant in
    let p = c.push_reserved.ensures in
    let before = c.loop-client.yielded in
    let push = length_push c.loop-client.yielded c.in-Some.client in record {
      count = omega (arith, p.len, i.count, push);
      room = omega (arith, p.capacity, i.room);
      ended = p.items ∙ ap (λ l. l ++ c.finish.result ∷ []) i.ended ∙ ap (λ x. before ++ x ∷ []) c.finish.ensures;
    }
