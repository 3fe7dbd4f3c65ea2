use Rattle.std.proofs.Common.{ap, sym, ◌∙◌, arith, Some}
use Rattle.aim_turnstile.proofs.Seats.{gathers, off_of, meets_at, sits_met, met_all}
use Rattle.aim_turnstile.proofs.turnstile.Turnstile.meet.Goals as goal

pub join_seat-requires : goal.join_seat-requires
join_seat-requires g c =
    let shows = c.front.invariant.is in (
      ap (λ z. z.table) c.pass.view_is ∙ c.requires.own.table ∙ sym (ap (λ z. z.table) c.self.view_is),
      ap (λ z. z.table) c.front.view_is ∙ c.requires.front ∙ sym (ap (λ z. z.table) c.self.view_is),
      ap (λ z. z.1) shows,
      omega (arith, c.self.invariant.0),
      gathers _ _ _ _ _ _ _ _ (ap (λ z. z.setting) c.pass.view_is ∙ c.requires.own.setting) (off_of c.pass.invariant) (ap (λ z. z.0.ticket) shows) (ap (λ z. z.0.turn) shows),
    )

pub load-requires : goal.load-requires
load-requires g c = (
  c.join_seat.ensures.0 ∙ ap (λ z. z.table) c.pass.view_is ∙ c.requires.own.table ∙ sym (ap (λ z. z.table) c.self.view_is),
  omega (arith, c.self.invariant.0),
  meets_at _ _ _ _ _ _ c.front.inside.seat.me c.pass.invariant (ap (λ z. z.setting) c.pass.view_is ∙ c.requires.own.setting ∙ ap Some (sym (ap (λ z. z.setting) c.self.view_is))) c.join_seat.ensures.2,
)

pub invariant_of-pass : goal.invariant_of-pass
invariant_of-pass g c = sits_met _ c.pass.invariant c.front.invariant c.join_seat.ensures.2 c.load.ensures.2

pub returns-clause-meets : goal.returns-clause-meets
returns-clause-meets g c =
    rw (← c.self.view_is, ← c.pass.view_is, ← c.front.view_is)
    (met_all _ _ _ _ c.pass.invariant c.front.invariant (ap (λ z. z.setting) c.pass.view_is ∙ c.requires.own.setting ∙ ap Some (sym (ap (λ z. z.setting) c.self.view_is))) c.join_seat.ensures.2 c.load.ensures.2)
