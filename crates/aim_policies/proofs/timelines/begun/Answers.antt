use Rattle.std.proofs.Common.{leb, rules}
use Rattle.std.proofs.lemmas.List.Sorted.{IsPartitionPoint-from_clause, IsPartitionedBy-leb}
use Rattle.aim_policies.proofs.timelines.begun.Goals as goal

pub returns-clause-point : goal.returns-clause-point
returns-clause-point c =
    IsPartitionPoint-from_clause (λ y. leb y.from c.args.step) _ _ c.partition_point.ensures.partitioned (IsPartitionedBy-leb (λ y. y.from) c.args.changes.now c.args.step c.requires.order) (λ a r q k. search rules)
