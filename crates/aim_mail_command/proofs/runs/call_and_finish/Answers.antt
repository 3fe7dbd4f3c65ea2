use Rattle.std.proofs.Common.{◌≡◌, List, length, map, sym, ap, ◌∙◌, subst}
use Rattle.std.proofs.lemmas.List.{with_items_is}
use Rattle.aim_mail_command.specs.declared.callers.Caller.{Caller}
use Rattle.aim_mail_command.specs.Calling.{AllByPlace, Finished, HasMade}
use Rattle.aim_mail_command.proofs.Places.{by_place_map}
use Rattle.aim_mail_command.proofs.Steps.{has_made}
use Rattle.aim_mail_command.proofs.runs.call_and_finish.Goals as goal

pub returns : goal.returns
returns g c =
    let i = c.args.layout.now in
    let es = c.args.events.now in
    let ys = c.side_by_side.new.callers in
    let made : AllByPlace (Finished c.args.layout.now c.args.events.now) c.args.callers.items c.side_by_side.new.callers =
    subst (λ (l : List Caller). AllByPlace (Finished c.args.layout.now c.args.events.now) l c.side_by_side.new.callers) c.deref_mut.ensures.value c.side_by_side.ensures in
    let count : length c.side_by_side.new.callers ≡ c.args.callers.len = made.len ∙ ap (λ (l : List Caller). length l) (sym c.deref_mut.ensures.value) ∙ c.deref_mut.ensures.len in
    by_place_map (Finished i es) (HasMade es) (λ b. b.client) c.args.callers.items ys c.finish_all.result.items made (c.finish_all.ensures ∙ ap (λ (l : List Caller). map (λ b. b.client) l) (with_items_is c.args.callers ys count)) (has_made i es)
