use Rattle.std.proofs.Common.{ap, length, arith}
use Rattle.aim_shards.proofs.Numbers.{count_apart, count_length, few_of}
use Rattle.aim_shards.proofs.calls.Shards.open.Goals as goal

pub opened-requires-clause-distinct : goal.opened-requires-clause-distinct
opened-requires-clause-distinct c = count_apart c.args.callers c.in-Ok.numbers.items c.in-Ok.ensures

pub opened-requires-clause-few : goal.opened-requires-clause-few
opened-requires-clause-few c = (let f = few_of c.args.callers c.args.calls c.len.result c.fault_of.result c.fault_of.ensures c.in_default.not-Some in (omega (arith, ap length c.in-Ok.ensures, count_length c.args.callers, f.0), f.1))
