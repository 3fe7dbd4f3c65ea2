use Rattle.std.proofs.Common.{◌≡◌, refl, arith, max}
use Rattle.aim_book.proofs.SameLemmas.{managed_later}
use Rattle.aim_book.proofs.desks.Desk.go_on.Goals as goal

pub returns-clause-managed : goal.returns-clause-managed
returns-clause-managed g c = λ i n h m.
    let now_is : c.max-now.result ≡ max c.args.self.now.reservations.table.current c.args.moment = grind (arith, c.max-now.ensures, c.now.ensures.now) in
    managed_later i n h c.args.moment c.max-now.result c.args.self.now _ now_is m refl c.advance.ensures.rows c.advance.ensures.table c.advance.ensures.cells
