use Rattle.std.proofs.Common.{ap, sym, ◌∙◌}
use Rattle.aim_shards.specs.Models.{PassModel, ShardsModel}
use Rattle.aim_shards.proofs.Walks.{decides_claim, decides_own, of_works}
use Rattle.aim_shards.proofs.Keeping.{keeps_room, keeps_more, set_there, of_same, works_own, calls_left, moves_claim}
use Rattle.aim_shards.proofs.calls.Shards.claim.Goals as goal

pub take_turns-found-requires-clause-of : goal.take_turns-found-requires-clause-of
take_turns-found-requires-clause-of g c =
    let own = ap (λ (p : PassModel). p.quarters) c.pass.view_is ∙ (c.requires.own.quarters ∙ sym (ap (λ (s : ShardsModel). s.quarters) c.self.view_is)) in
    of_same c.pass.inside.seat.me.0.terms.sets c.args.set (set_there c.self.invariant.4 (ap (λ (s : ShardsModel). s.sets) c.self.view_is) c.requires.set own c.index-parts.ensures)

pub make-entry-requires-clause-of : goal.make-entry-requires-clause-of
make-entry-requires-clause-of g c =
    let own = ap (λ (p : PassModel). p.quarters) c.pass.view_is ∙ (c.requires.own.quarters ∙ sym (ap (λ (s : ShardsModel). s.quarters) c.self.view_is)) in
    of_works c.take_turns-found.ensures.works (of_same c.pass.inside.seat.me.0.terms.sets c.args.set (set_there c.self.invariant.4 (ap (λ (s : ShardsModel). s.sets) c.self.view_is) c.requires.set own c.index-parts.ensures))

pub make-entry-requires-clause-decides : goal.make-entry-requires-clause-decides
make-entry-requires-clause-decides g c =
    let own = ap (λ (p : PassModel). p.quarters) c.pass.view_is ∙ (c.requires.own.quarters ∙ sym (ap (λ (s : ShardsModel). s.quarters) c.self.view_is)) in
    let t = c.take_turns-found.ensures in
    decides_own t.works (decides_claim c.index-parts.result.now c.args.set (set_there c.self.invariant.4 (ap (λ (s : ShardsModel). s.sets) c.self.view_is) c.requires.set own c.index-parts.ensures) t.four t.works t.found)

pub stand-requires : goal.stand-requires
stand-requires g c = keeps_room c.pass.invariant c.if-pass.false

pub invariant_of-pass : goal.invariant_of-pass
invariant_of-pass g c = keeps_more c.make-entry.result c.pass.invariant c.if-pass.false c.take_turns-found.ensures.works c.make-entry.ensures.made c.stand.ensures.items c.stand.ensures.room

pub make-entry-requires-clause-works : goal.make-entry-requires-clause-works
make-entry-requires-clause-works g c = works_own c.take_turns-found.ensures.works

pub make-entry-requires-clause-calls : goal.make-entry-requires-clause-calls
make-entry-requires-clause-calls g c = calls_left c.pass.invariant c.if-pass.false c.take_turns-found.ensures.works (ap (λ (p : PassModel). p.calls) c.pass.view_is ∙ (c.requires.own.calls ∙ sym (ap (λ (s : ShardsModel). s.calls) c.self.view_is)))

pub make-entry-requires-clause-moves : goal.make-entry-requires-clause-moves
make-entry-requires-clause-moves g c =
    let own = ap (λ (p : PassModel). p.quarters) c.pass.view_is ∙ (c.requires.own.quarters ∙ sym (ap (λ (s : ShardsModel). s.quarters) c.self.view_is)) in
    moves_claim c.args.set c.take_turns-found.ensures.works (set_there c.self.invariant.4 (ap (λ (s : ShardsModel). s.sets) c.self.view_is) c.requires.set own c.index-parts.ensures)
