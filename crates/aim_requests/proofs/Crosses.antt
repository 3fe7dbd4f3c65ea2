-- A prepared request and a memo may go to other threads. Of sheets nothing is kept ready (`Crosses` of `aim_sheets`): so it is
-- shown part by part.
use denote.Param.Send.{IsSend, sendable}
use Rattle.std.proofs.Crossing.{crosses}
use Rattle.aim_messages.proofs.replies.Field.TheSendSync as field
use Rattle.aim_sheets.proofs.Crosses.{sheet_send}
use Rattle.aim_requests.specs.contracts.memos.Memo as Memo
use Rattle.aim_requests.specs.contracts.requests.Prepared as Prepared

pub prepared_send : IsSend Prepared.the_row
prepared_send = search (sendable, crosses, field.the_send, sheet_send) depth 30

pub memo_send : IsSend Memo.the_row
memo_send = search (sendable, crosses, prepared_send) depth 30
