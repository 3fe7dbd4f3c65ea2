use Rattle.std.proofs.Common.{Some, None}
use Rattle.aim_shards_command.proofs.Marks.{first_mark_in}
use Rattle.aim_shards_command.proofs.callers.next_place.Goals as goal

pub returns-in-Some-clause-passed : goal.returns-in-Some-clause-passed
returns-in-Some-clause-passed c = first_mark_in c.args.marks.now c.args.from c.mark-mark.result c.args.number (Some c.in-Some.at) c.mark-mark.ensures c.in-Some.ensures

pub returns-in-None-clause-passed : goal.returns-in-None-clause-passed
returns-in-None-clause-passed c = first_mark_in c.args.marks.now c.args.from c.mark-mark.result c.args.number None c.mark-mark.ensures c.in-None.ensures
