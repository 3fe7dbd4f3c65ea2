use Rattle.aim_io.proofs.MemoryLemmas.{front_kept, piece_read}
use Rattle.aim_io.proofs.lines.read_at.Goals as goal

pub returns-in_err-count-clause-front : goal.returns-in_err-count-clause-front
returns-in_err-count-clause-front g c = front_kept c.args.bytes.now c.read.new.buf c.args.at _ c.requires.in_range

pub returns-clause-front : goal.returns-clause-front
returns-clause-front g c = front_kept c.args.bytes.now c.read.new.buf c.args.at _ c.requires.in_range

pub returns-clause-piece : goal.returns-clause-piece
returns-clause-piece g c =
    piece_read _ _ c.args.bytes.now c.read.new.buf c.args.at _ c.in_ok-count.count c.requires.in_range c.in_ok-count.ensures.bound.0 c.in_ok-count.ensures.bytes.0
