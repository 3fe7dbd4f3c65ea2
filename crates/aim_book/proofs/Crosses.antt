-- A book may go to another thread, an idle one too. Of a book nothing is kept ready, and it is too large to be searched
-- through at once.
use denote.RattleType.{RattleType}
use denote.Param.Send.{IsSend, sendable}
use Rattle.std.proofs.Crossing.{crosses}
use Rattle.std.specs.declared.sync.ledger.Ledger.{Ghosts}
use Rattle.aim_messages.proofs.entries.Entry.TheSendSync as entry
use Rattle.aim_layout.proofs.layouts.Layout.TheSendSync as layout
use Rattle.aim_book.proofs.DeskCrosses.{desk_send, idle_desk_send}
use Rattle.aim_book.specs.contracts.book.Book as Book
use Rattle.aim_book.specs.contracts.idle.IdleBook as IdleBook

pub idle_book_send : IsSend IdleBook.the_row
idle_book_send = search (sendable, crosses, layout.the_send, entry.the_send, idle_desk_send) depth 30

pub book_send : (L : RattleType) (g : Ghosts L.Denot) → IsSend (Book.the_row L g)
book_send L g = search (sendable, crosses, layout.the_send, entry.the_send, desk_send) depth 30
