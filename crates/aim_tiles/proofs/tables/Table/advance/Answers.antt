use Rattle.std.proofs.Common.{◌-◌, min, arith, ap, ◌∙◌}
use Rattle.aim_tiles.specs.Cells.{TakenCells}
use Rattle.aim_tiles.proofs.Views.{advanced}
use Rattle.aim_tiles.proofs.tables.Table.advance.Goals as goal

pub returns-clause-cells : goal.returns-clause-cells
returns-clause-cells g c = advanced c.self.inside.pages.size c.self.inside.pages.horizon c.self.inside.current c.args.now c.min-leaving.result c.self.inside.pages.words.items.items c.clear_pages.new.pages.words.items.items
    c.self.inside.pages.ahead (omega (arith, c.requires.later, ap (λ (t : TakenCells). t.current) c.self.view_is)) (c.min-leaving.ensures ∙ ap (λ h. min (c.args.now - c.self.inside.current) h) c.horizon.ensures.horizon) c.clear_pages.ensures.marks
    c.clear_pages.new.pages.size c.clear_pages.new.pages.horizon c.args.self.now c.self.view_is c.clear_pages.ensures.size c.clear_pages.ensures.horizon
