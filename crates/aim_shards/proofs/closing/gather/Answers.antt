use Rattle.std.proofs.Common.{◌≡◌, ◌∷◌, sym, ap, ◌∙◌, arith}
use Rattle.aim_shards.proofs.Seats.{gathers_as}
use Rattle.aim_shards.proofs.Endings.{all_middle, popped, gathers_one}
use Rattle.aim_shards.proofs.closing.gather.Goals as goal

pub join_seat-requires : goal.join_seat-requires
join_seat-requires c =
    let i = c.loop-pass.invariant in
    let whose = c.pass.invariant.rests.is in
    let whole = popped _ _ i.2.0 _ _ i.2.1 c.in-Some.ensures.items in (
      i.0 ∙ c.requires.desk.0,
      ap (λ z. z.table) c.pass.view_is ∙ all_middle (λ p. p.table ≡ c.args.desk.now.shared.table_id) _ _ _ _ c.requires.own whole,
      ap (λ z. z.1) whose,
      omega (arith, c.requires.desk.1),
      gathers_as _ _ _ _ _ _ _ _ _ _ _ i.2.2.is whose,
    )

pub loop-pass-preserved : goal.loop-pass-preserved
loop-pass-preserved c =
    let i = c.loop-pass.invariant in
    let j = c.join_seat.ensures in (
      j.0 ∙ i.0,
      j.1 ∙ i.1,
      (c.in-Some.pass ∷ i.2.0, popped _ _ i.2.0 _ _ i.2.1 c.in-Some.ensures.items, gathers_one i.2.0 c.in-Some.pass _ _ _ _ _ _ i.2.2 c.pass.invariant.rests.is j.2 (sym (ap (λ z. z.number) c.pass.view_is)) (sym (ap (λ z. z.mine) c.pass.view_is))),
    )
