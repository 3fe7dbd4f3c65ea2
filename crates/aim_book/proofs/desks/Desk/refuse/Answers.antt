use Rattle.std.proofs.Common.{refl}
use Rattle.aim_book.proofs.desks.Desk.refuse.Goals as goal

pub returns : goal.returns
returns g c = λ k place tells. rw (c.next_after.ensures k place tells, c.held.ensures c.args.layout.now k place tells) refl
