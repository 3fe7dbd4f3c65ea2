use Rattle.aim_tiles.proofs.Bounds.{cells_in_box}
use Rattle.aim_tiles.proofs.tables.Table.now.Goals as goal

pub returns-clause-cells : goal.returns-clause-cells
returns-clause-cells g c = cells_in_box c.self.inside.pages.words.items.items c.self.inside.pages.size c.self.inside.pages.horizon c.self.inside.current c.args.self.now c.self.view_is
