use Rattle.aim_io.proofs.MemoryLemmas.{reads_left, reads_ok, reads_bound}
use Rattle.aim_io.proofs.memory.CleanSourceSource.read.Goals as goal

pub returns-clause-bound : goal.returns-clause-bound
returns-clause-bound c = reads_bound c.copy_front-count.new.buf _ c.copy_front-count.result c.copy_front-count.ensures.most

pub returns-clause-bytes : goal.returns-clause-bytes
returns-clause-bytes c =
    reads_left c.args.self.now c.self.inside.bytes.items c.deref.result.now c.copy_front-count.new.buf c.self.inside.at c.copy_front-count.result
    c.deref.ensures.value c.self.view_is c.copy_front-count.ensures.most c.copy_front-count.ensures.copied

pub returns-clause-most : goal.returns-clause-most
returns-clause-most c =
    reads_ok c.args.self.now c.self.inside.bytes.items c.deref.result.now c.copy_front-count.new.buf c.self.inside.at c.copy_front-count.result
    c.deref.ensures.value c.self.view_is c.copy_front-count.ensures.most
