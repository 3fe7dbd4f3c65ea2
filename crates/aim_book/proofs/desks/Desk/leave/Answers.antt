use Rattle.std.proofs.Common.{refl}
use Rattle.aim_book.proofs.desks.Desk.leave.Goals as goal

pub returns : goal.returns
returns g c = rw c.leave.ensures refl
