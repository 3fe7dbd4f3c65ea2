use Rattle.std.proofs.Common.{◌-◌, length, sym, arith, rules}
use Rattle.aim_sheets.specs.Spans.{precedes}
use Rattle.aim_sheets.proofs.Order.{partitioned, place_at_end, place_of_last}
use Rattle.std.proofs.lemmas.List.Sorted.{IsPartitionPoint-from_clause}
use Rattle.aim_sheets.proofs.sheets.place_of.Goals as goal

pub returns-then-precedes-clause-place : goal.returns-then-precedes-clause-place
returns-then-precedes-clause-place c = place_at_end c.args.spans.now c.requires c.args.step c.args.row _ (length c.args.spans.now - 1) (omega arith) (sym c.if-precedes.ensures)

pub returns-then-is_at-clause-place : goal.returns-then-is_at-clause-place
returns-then-is_at-clause-place c = place_of_last c.args.spans.now c.requires c.args.step c.args.row _ (length c.args.spans.now - 1) (omega arith) (sym c.if-is_at.ensures)

pub returns-clause-place : goal.returns-clause-place
returns-clause-place c = IsPartitionPoint-from_clause (λ span. precedes span c.args.step c.args.row) c.args.spans.now c.partition_point.result c.partition_point.ensures.partitioned (partitioned c.args.spans.now c.requires c.args.step c.args.row) (λ a r f h. search rules)
