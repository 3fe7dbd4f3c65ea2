use Rattle.std.proofs.Common.{List, ap, sym, ◌∙◌, subst}
use Rattle.aim_shards.specs.Claims.{has_ticket, freed}
use Rattle.aim_shards.specs.Models.{PassModel, ShardsModel}
use Rattle.aim_shards.specs.Sets.{Quarters, chosen, lies_in, IsOf}
use Rattle.aim_shards.proofs.Walks.{decides_free, decides_own, of_works}
use Rattle.aim_shards.proofs.Freed.{lies_same}
use Rattle.aim_shards.proofs.Keeping.{keeps_room, keeps_more, works_own, calls_left}
use Rattle.aim_shards.proofs.calls.Shards.free.Goals as goal

pub make-entry-requires-clause-decides : goal.make-entry-requires-clause-decides
make-entry-requires-clause-decides g c =
    let own = ap (λ (p : PassModel). p.quarters) c.pass.view_is ∙ (c.requires.own.quarters ∙ sym (ap (λ (s : ShardsModel). s.quarters) c.self.view_is)) in
    let k = c.look_up-known.ensures in
    let t = c.take_turns-found.ensures in
    let sets = c.pass.inside.seat.me.0.terms.sets in
    decides_own t.works
    (decides_free c.choose-parts.result.now c.args.ticket c.look_up-known.result.own t.four t.works (k.own ∙ ap (has_ticket c.args.ticket) c.pass.invariant.stands_is)
    (λ q. lies_same c.choose-parts.result.now (chosen c.self.inside.quarters.items c.look_up-known.result.set) q c.choose-parts.ensures.same
    ∙ ap (λ (s : Quarters). lies_in s q) (ap (λ (s : List Quarters). chosen s c.look_up-known.result.set) (sym own) ∙ (k.set sets ∙ ap (freed sets c.args.ticket) c.pass.invariant.stands_is))))

pub stand-requires : goal.stand-requires
stand-requires g c = keeps_room c.pass.invariant c.if-pass.false

pub invariant_of-pass : goal.invariant_of-pass
invariant_of-pass g c = keeps_more c.make-entry.result c.pass.invariant c.if-pass.false c.take_turns-found.ensures.works c.make-entry.ensures.made c.stand.ensures.items c.stand.ensures.room

pub take_turns-found-requires-clause-of : goal.take_turns-found-requires-clause-of
take_turns-found-requires-clause-of g c =
    let own = ap (λ (p : PassModel). p.quarters) c.pass.view_is ∙ (c.requires.own.quarters ∙ sym (ap (λ (s : ShardsModel). s.quarters) c.self.view_is)) in
    subst (λ (s : List Quarters). IsOf s c.choose-parts.result.now) (sym own) c.choose-parts.ensures.of

pub make-entry-requires-clause-of : goal.make-entry-requires-clause-of
make-entry-requires-clause-of g c =
    let own = ap (λ (p : PassModel). p.quarters) c.pass.view_is ∙ (c.requires.own.quarters ∙ sym (ap (λ (s : ShardsModel). s.quarters) c.self.view_is)) in
    of_works c.take_turns-found.ensures.works (subst (λ (s : List Quarters). IsOf s c.choose-parts.result.now) (sym own) c.choose-parts.ensures.of)

pub make-entry-requires-clause-works : goal.make-entry-requires-clause-works
make-entry-requires-clause-works g c = works_own c.take_turns-found.ensures.works

pub make-entry-requires-clause-calls : goal.make-entry-requires-clause-calls
make-entry-requires-clause-calls g c = calls_left c.pass.invariant c.if-pass.false c.take_turns-found.ensures.works (ap (λ (p : PassModel). p.calls) c.pass.view_is ∙ (c.requires.own.calls ∙ sym (ap (λ (s : ShardsModel). s.calls) c.self.view_is)))
