use Rattle.aim_tiles.proofs.Bounds.{tiles_test}
use Rattle.aim_tiles.proofs.tables.Table.has_tiles.Goals as goal

pub returns : goal.returns
returns g c = tiles_test c.are_tiles.result c.self.inside.pages.words.items.items c.self.inside.pages.size c.self.inside.pages.horizon c.self.inside.current c.size.result c.args.sheet.now.spans c.spans.result.now c.args.self.now
    c.self.view_is c.size.ensures.size c.spans.ensures.spans c.spans.ensures.marked c.are_tiles.ensures
