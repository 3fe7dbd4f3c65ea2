use Rattle.std.proofs.Common.{[], ◌∷◌, ◌++◌, map, sym, ap, ◌∙◌, arith}
use Rattle.std.proofs.lemmas.List.{length_push, map_push}
use Rattle.aim_mail_command.specs.declared.callers.Caller.{Caller}
use Rattle.aim_mail_command.proofs.runs.finish_all.Goals as goal

pub loop-caller-preserved : goal.loop-caller-preserved
loop-caller-preserved g c =
    let i = c.loop-caller.invariant in
    let p = c.push_reserved.ensures in
    let before = c.loop-caller.yielded in
    let push = length_push c.loop-caller.yielded c.in-Some.caller in record {
      count = omega (arith, p.len, i.count, push);
      room = omega (arith, p.capacity, i.room);
      ended = p.items ∙ ap (λ l. l ++ c.finish.result ∷ []) i.ended ∙ ap (λ x. map (λ (a : Caller). a.client) before ++ x ∷ []) c.finish.ensures ∙ sym (map_push (λ (a : Caller). a.client) before c.in-Some.caller);
    }
