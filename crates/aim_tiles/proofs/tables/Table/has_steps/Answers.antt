use Rattle.aim_tiles.proofs.Bounds.{steps_test}
use Rattle.aim_tiles.proofs.tables.Table.has_steps.Goals as goal

pub returns : goal.returns
returns g c = steps_test c.are_ahead.result c.self.inside.pages.words.items.items c.self.inside.pages.size c.self.inside.pages.horizon c.self.inside.current c.horizon.result c.args.sheet.now.spans c.spans.result.now c.args.self.now
    c.self.view_is c.horizon.ensures.horizon c.spans.ensures.spans c.spans.ensures.marked c.are_ahead.ensures
