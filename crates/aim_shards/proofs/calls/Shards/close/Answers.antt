use Rattle.std.proofs.Common.{[], length, ap, sym, ◌∙◌, arith}
use Rattle.aim_shards.specs.Models.{ShardsModel}
use Rattle.aim_shards.proofs.Seats.{comes_new, arrived}
use Rattle.aim_shards.proofs.Endings.{closes_by}
use Rattle.aim_shards.proofs.calls.Shards.close.Goals as goal

pub load_new_seat-root-requires : goal.load_new_seat-root-requires
load_new_seat-root-requires c = (omega (arith, c.self.invariant.0), comes_new _ _ _ _ _)

pub gather-requires-clause-root : goal.gather-requires-clause-root
gather-requires-clause-root c = arrived [] _ c.load_new_seat-root.ensures.1 c.load_new_seat-root.ensures.2

pub returns : goal.returns
returns c =
    let v = c.self.view_is in
    let numbers = ap (λ (s : ShardsModel). s.numbers) v in
    let f = c.finish.ensures c.args.passes.items c.gather.ensures.root (c.requires.all ∙ ap length (sym numbers)) in
    (f.0, closes_by c.self.invariant.4 (ap (λ (s : ShardsModel). s.sets) v) (ap (λ (s : ShardsModel). s.quarters) v) numbers c.self.invariant.2 f.1)

pub finish-requires-clause-root : goal.finish-requires-clause-root
finish-requires-clause-root c = (c.args.passes.items, c.gather.ensures.root, c.requires.all ∙ ap length (sym (ap (λ (s : ShardsModel). s.numbers) c.self.view_is)))
