use Rattle.std.proofs.Common.{ap}
use Rattle.aim_io.specs.Memory.{Supply}
use Rattle.aim_io.proofs.MemoryLemmas.{reads_left, reads_most, reads_bound, fine}
use Rattle.aim_io.proofs.memory.MemSourceSource.read.Goals as goal

pub returns-clause-bound : goal.returns-clause-bound
returns-clause-bound c = reads_bound c.copy_front-count.new.buf _ c.copy_front-count.result c.copy_front-count.ensures.most

pub returns-clause-bytes : goal.returns-clause-bytes
returns-clause-bytes c =
    reads_left c.args.self.now.left c.self.inside.bytes.items c.deref-2.result.now c.copy_front-count.new.buf c.self.inside.at c.copy_front-count.result
    c.deref-2.ensures.value (ap (λ (s : Supply). s.left) c.self.view_is) c.copy_front-count.ensures.most c.copy_front-count.ensures.copied

pub returns-clause-cause : goal.returns-clause-cause
returns-clause-cause c = fine _ _ _ (ap (λ (s : Supply). s.faults) c.self.view_is)

pub returns-clause-most : goal.returns-clause-most
returns-clause-most c =
    reads_most c.args.self.now.left c.self.inside.bytes.items c.deref-2.result.now c.copy_front-count.new.buf c.self.inside.at c.copy_front-count.result
    c.deref-2.ensures.value (ap (λ (s : Supply). s.left) c.self.view_is) c.copy_front-count.ensures.most
