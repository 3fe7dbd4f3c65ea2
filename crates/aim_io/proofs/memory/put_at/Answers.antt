use Rattle.aim_io.proofs.MemoryLemmas.{written}
use Rattle.aim_io.proofs.memory.put_at.Goals as goal

pub returns : goal.returns
returns c = written c.args.bytes.now c.copy_from_slice.new.self c.args.piece.now c.args.at _ c.requires c.copy_from_slice.ensures.after
