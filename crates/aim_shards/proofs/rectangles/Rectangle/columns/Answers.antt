use Rattle.aim_shards.proofs.Boxes.{columns_are, columns_some}
use Rattle.aim_shards.proofs.rectangles.Rectangle.columns.Goals as goal

pub returns-clause-bits : goal.returns-clause-bits
returns-clause-bits c column = columns_are c.args.self.now.col0 c.args.self.now.col1 column c.requires.0 c.requires.1

pub returns-clause-some : goal.returns-clause-some
returns-clause-some c e = columns_some c.args.self.now.col0 c.args.self.now.col1 c.requires.0 c.requires.1 e
