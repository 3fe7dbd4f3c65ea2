-- What callers share and carry may cross threads. The search alone doesn't find it of a book (`Crosses` of `aim_book`): so
-- it is shown part by part. What others cite is at the end.
use denote.Param.Send.{IsSend, IsSync, sendable}
use Rattle.std.proofs.Crossing.{crosses}
use Rattle.aim_messages.specs.contracts.entries.Entry as Entry
use Rattle.aim_layout.proofs.layouts.Layout.TheSendSync as layout
pub use Rattle.aim_sheets.proofs.Crosses.{pool_send}
pub use Rattle.aim_requests.proofs.Crosses.{memo_send}
use Rattle.aim_book.proofs.Crosses.{idle_book_send}
use Rattle.aim_turnstile.proofs.pass.Front.TheSendSync as front
use Rattle.aim_turnstile.proofs.pass.Pass.TheSendSync as pass
use Rattle.aim_turnstile.proofs.turnstile.Turnstile.TheSendSync as turnstile
use Rattle.aim_turnstile.specs.contracts.pass.Front as Front
use Rattle.aim_turnstile.specs.contracts.pass.Pass as Pass
use Rattle.aim_manager.specs.contracts.keeper.Ask as Ask
use Rattle.aim_manager.specs.contracts.keeper.Keeper as Keeper
use Rattle.aim_manager.specs.contracts.keeper.KeeperKept.TheImpl as kept
use Rattle.aim_manager.specs.contracts.keeper.BookSetting as BookSetting
use Rattle.aim_manager.specs.contracts.keeper.Told as Told
use Rattle.aim_manager.specs.contracts.manager.Manager as Manager

pub keeper_send : IsSend Keeper.the_row
keeper_send = search (sendable, crosses, idle_book_send) depth 20

-- a pass may go to another thread
pub pass_send : IsSend (Pass.the_row Keeper.the_row BookSetting.the_row Entry.the_row Ask.the_row Told.the_row kept.ghosts)
pass_send = search (sendable, pass.the_send, keeper_send)

-- and so may what it notes
pub front_send : IsSend (Front.the_row Keeper.the_row BookSetting.the_row Entry.the_row Ask.the_row Told.the_row kept.ghosts)
front_send = search (sendable, front.the_send, keeper_send)

-- threads may share a manager
pub manager_sync : IsSync Manager.the_row
manager_sync = search (sendable, crosses, turnstile.the_sync, keeper_send, layout.the_sync) depth 20

-- for the searches of callers
pub ruleset shared = (pool_send, pass_send, front_send, manager_sync)
