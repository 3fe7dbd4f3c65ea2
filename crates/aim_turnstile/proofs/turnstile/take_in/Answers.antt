use Rattle.std.proofs.Common.{ap, ◌∙◌, arith}
use Rattle.aim_turnstile.proofs.Seats.{gathers}
use Rattle.aim_turnstile.proofs.Closes.{one_more}
use Rattle.aim_turnstile.proofs.turnstile.take_in.Goals as goal

pub join_seat-requires : goal.join_seat-requires
join_seat-requires g c =
    let is = c.pass.invariant.is in
    let had = c.requires.main.1.is in (
      c.requires.desk.0,
      ap (λ z. z.table) c.pass.view_is ∙ c.requires.own,
      ap (λ z. z.1) is,
      omega (arith, c.requires.desk.1),
      gathers _ _ _ _ _ _ _ _ (ap (λ z. z.0.setting) had) (ap (λ z. z.0.turn) had) (ap (λ z. z.0.ticket) is) (ap (λ z. z.0.turn) is),
    )

pub returns-clause-main : goal.returns-clause-main
returns-clause-main g c = λ start was. one_more _ _ start _ c.pass.inside.seat.table_id _ _ _ _ was c.pass.invariant c.join_seat.ensures.2 c.pass.view_is
