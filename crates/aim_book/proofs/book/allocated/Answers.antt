use Rattle.std.proofs.Common.{arith}
use Rattle.aim_book.proofs.book.allocated.Goals as goal

pub returns : goal.returns
returns g c = (
  c.in_ok-journal.ensures.items,
  record {
    managed = rw c.in_ok-journal.ensures.items c.in_ok-desk.ensures.managed;
    fits = rw c.in_ok-journal.ensures.items (omega arith);
    reserved = c.in_ok-journal.ensures.capacity;
    most = c.requires.room;
    timeline = c.in_ok-desk.ensures.timeline;
  },
)
