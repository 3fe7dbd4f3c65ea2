use Rattle.aim_drive.proofs.running.left_by.Goals as goal

pub closed-requires-clause-memory : goal.closed-requires-clause-memory
closed-requires-clause-memory c = c.lack_memory.ensures c.if-lack_memory.false
