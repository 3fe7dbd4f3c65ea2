use Rattle.std.proofs.Common.{refl, arith}
use Rattle.aim_shards.proofs.Boxes.{row_cells}
use Rattle.aim_shards.proofs.Pushed.{pushed_cells, next_row}
use Rattle.aim_shards.proofs.rectangles.Rectangle.add_row.Goals as goal

pub returns-clause-cells : goal.returns-clause-cells
returns-clause-cells c = row_cells c.args.sheet.now.spans c.push_last.new.self.spans _ c.args.step c.args.row c.args.self.now.col0 c.args.self.now.col1 refl (omega (arith, c.requires.row)) c.columns.ensures.bits (λ cell. pushed_cells c.args.sheet.now.spans c.push_last.new.self.spans _ cell c.in-Ok.ensures.spans)

pub returns-clause-last : goal.returns-clause-last
returns-clause-last c = next_row c.args.step c.args.row c.args.sheet.now.spans c.push_last.new.self.spans _ refl (omega (arith, c.requires.row)) c.in-Ok.ensures.spans c.requires.last
