use Rattle.std.proofs.Common.{ap}
use Rattle.aim_io.specs.Memory.{Store}
use Rattle.aim_io.proofs.MemoryLemmas.{reads_bound, fine, fits_store, stored, stores_most}
use Rattle.aim_io.proofs.memory.MemSinkSink.write.Goals as goal

pub slice_bounds-put_at-end : goal.slice_bounds-put_at-end
slice_bounds-put_at-end c = (reads_bound c.args.piece.now _ c.min-count.result c.min-count.ensures).1

pub put_at-requires : goal.put_at-requires
put_at-requires c =
    fits_store c.args.piece.now c.deref_mut.result.now c.self.inside.len c.len.result c.self.inside.bytes.len c.min-count.result
    c.min-count.ensures c.len.ensures c.self.invariant c.deref_mut.ensures.len

pub returns-clause-bytes : goal.returns-clause-bytes
returns-clause-bytes c =
    stored c.args.self.now.held c.self.inside.bytes.items c.deref_mut.result.now c.put_at.new.bytes c.args.piece.now c.self.inside.len c.len.result
    c.self.inside.bytes.len c.min-count.result c.deref_mut.ensures.value (ap (λ (s : Store). s.held) c.self.view_is) c.min-count.ensures c.len.ensures
    c.self.invariant c.deref_mut.ensures.len c.put_at.auto.bytes c.put_at.ensures

pub returns-clause-cause : goal.returns-clause-cause
returns-clause-cause c = fine _ _ _ (ap (λ (s : Store). s.faults) c.self.view_is)

pub returns-clause-most : goal.returns-clause-most
returns-clause-most c =
    stores_most c.args.self.now.held c.self.inside.bytes.items c.deref_mut.result.now c.args.piece.now c.self.inside.len c.len.result
    c.self.inside.bytes.len _ c.min-count.result c.deref_mut.ensures.value (ap (λ (s : Store). s.held) c.self.view_is) c.min-count.ensures c.len.ensures
    (ap (λ (s : Store). s.room) c.self.view_is) c.self.invariant c.deref_mut.ensures.len
