use Rattle.std.proofs.Common.{arith}
use Rattle.aim_shards.proofs.Cutting.{columns_right, columns_left}
use Rattle.aim_shards.proofs.cuts.Corner.columns.Goals as goal

pub returns-then-self : goal.returns-then-self
returns-then-self c = columns_right c.args.self.half c.args.self.down c.args.row c.args.mask c.args.self.right c.requires.half (omega (arith, c.ranges.mask.fits)) c.requires.row c.if-self.true

pub returns-else-self : goal.returns-else-self
returns-else-self c = columns_left c.args.self.half c.args.self.down c.args.row c.args.mask c.args.self.right c.requires.half c.requires.row c.if-self.false
