use Rattle.aim_session_command.proofs.LineLemmas.{nothing_read, piece_read}
use Rattle.aim_session_command.proofs.ahead.Ahead.fill.Goals as goal

pub returns-in_err-count-clause-piece : goal.returns-in_err-count-clause-piece
returns-in_err-count-clause-piece g c = nothing_read _ _ _ c.in_err-count.ensures.bytes c.in_err-count.ensures.last

pub returns-clause-piece : goal.returns-clause-piece
returns-clause-piece g c = let e = c.in_ok-count.ensures in piece_read _ _ _ _ c.in_ok-count.count e.bound.0 e.bytes.0 e.last
