use Rattle.aim_shards.proofs.Pushed.{next_step}
use Rattle.aim_shards.proofs.rectangles.Rectangle.add_step.Goals as goal

pub returns-clause-last : goal.returns-clause-last
returns-clause-last c = next_step c.args.step c.loop-row.row c.args.self.now.row0 c.loop-row.sheet.spans c.loop-row.invariant.last
