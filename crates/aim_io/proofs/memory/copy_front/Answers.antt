use Rattle.aim_io.proofs.MemoryLemmas.{copied_front}
use Rattle.aim_io.proofs.memory.copy_front.Goals as goal

pub returns-clause-copied : goal.returns-clause-copied
returns-clause-copied c =
    copied_front c.args.bytes.now c.args.buf.now c.copy_from_slice.new.self c.args.at c.min-count.result c.requires c.min-count.ensures c.copy_from_slice.ensures.after
