use Rattle.std.proofs.Common.{Some, ◌∷◌, ap, sym, ◌∙◌}
use Rattle.atomic_table.specs.Table.{rest}
use Rattle.aim_turnstile.proofs.turnstile.take.Goals as goal

pub exchange-requires : goal.exchange-requires
exchange-requires g c =
    let h = c.requires.held in (c.requires.desk, (Some h.0, h.1 ∙ ap (λ l. (0, Some h.0) ∷ rest l) (sym h.1)))
