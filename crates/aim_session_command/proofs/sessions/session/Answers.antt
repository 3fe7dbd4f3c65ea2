use Rattle.std.proofs.Common.{Err, ap}
use Rattle.aim_session_command.proofs.EndLemmas.{holds_cut_last, holds_ended}
use Rattle.aim_session_command.proofs.sessions.session.Goals as goal

pub returns-in-Ok-put_last : goal.returns-in-Ok-put_last
returns-in-Ok-put_last g c = holds_ended _ _ _ c.in-Ok.ensures.needed _ _ c.status_of.ensures c.in-Ok.ensures.runs c.in-Ok-put_last.ensures.ok c.in-Ok-put_last.ensures.later

pub returns-in-Err-Write-put_last : goal.returns-in-Err-Write-put_last
returns-in-Err-Write-put_last g c =
    holds_cut_last _ _ _ c.in-Ok.ensures.needed _ c.in-Ok.ensures.runs c.in-Err-Write-put_last.ensures.err (c.in-Err-Write-put_last.ensures.write (ap Err c.in-Err-Write-put_last.field-0-is)) c.in-Err-Write-put_last.ensures.later
