use Rattle.std.proofs.Common.{◌*◌}
use Rattle.aim_tiles.proofs.Views.{fresh}
use Rattle.aim_tiles.proofs.tables.Table.new.Goals as goal

pub returns : goal.returns
returns g c =
    let e = c.in_ok-new.ensures in
    λ i. record { size = e.1 i; horizon = e.2 i; current = 0; cells = fresh (c.args.horizon * c.args.n) c.in_ok-new.field-0.size c.in_ok-new.field-0.horizon c.in_ok-new.field-0.words.items.items e.0 i }
