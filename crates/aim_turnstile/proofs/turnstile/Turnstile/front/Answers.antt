use Rattle.std.proofs.Common.{ap, sym, ◌∙◌, arith}
use Rattle.aim_turnstile.proofs.Seats.{notes, off_of}
use Rattle.aim_turnstile.proofs.turnstile.Turnstile.front.Goals as goal

pub split_seat-seat-requires : goal.split_seat-seat-requires
split_seat-seat-requires g c =
    (ap (λ z. z.table) c.pass.view_is ∙ c.requires.own ∙ sym (ap (λ z. z.table) c.self.view_is), omega (arith, c.self.invariant.0), notes _ _ _ _ _ (off_of c.pass.invariant))
