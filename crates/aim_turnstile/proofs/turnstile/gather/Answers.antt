use Rattle.std.proofs.Common.{◌≡◌, ◌∷◌, ◌++◌, ◌∙◌}
use Rattle.aim_turnstile.proofs.Closes.{all_middle, popped}
use Rattle.aim_turnstile.proofs.turnstile.gather.Goals as goal

pub take_in-requires : goal.take_in-requires
take_in-requires g c =
    let i = c.loop-pass.invariant in
    let whole = popped _ _ i.2.0 _ _ i.2.1 c.in-Some.ensures.items in record {
      desk = (i.0 ∙ c.requires.desk.0, c.requires.desk.1);
      main = (i.2.0 ++ c.requires.main.0, i.2.2 c.requires.main.0 c.requires.main.1);
      own = all_middle (λ p. p.table ≡ c.args.desk.now.shared.table_id) _ _ _ _ c.requires.own whole;
    }

pub loop-pass-preserved : goal.loop-pass-preserved
loop-pass-preserved g c =
    let i = c.loop-pass.invariant in
    let j = c.take_in.ensures in (
      j.seat.0 ∙ i.0,
      j.seat.1 ∙ i.1,
      (
        c.in-Some.pass ∷ i.2.0,
        popped _ _ i.2.0 _ _ i.2.1 c.in-Some.ensures.items,
        (λ start was. j.main (i.2.0 ++ start) (i.2.2 start was)),
      ),
    )
