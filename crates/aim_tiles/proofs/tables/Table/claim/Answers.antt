use Rattle.aim_tiles.proofs.Views.{claimed}
use Rattle.aim_tiles.proofs.tables.Table.claim.Goals as goal

pub returns-clause-cells : goal.returns-clause-cells
returns-clause-cells g c = claimed c.self.inside.pages.size c.self.inside.pages.horizon c.self.inside.current c.mark_spans.new.pages.size c.mark_spans.new.pages.horizon c.self.inside.pages.words.items.items c.mark_spans.new.pages.words.items.items
    c.args.sheet.now.spans c.spans.result.now c.args.self.now c.self.view_is c.mark_spans.ensures.size c.mark_spans.ensures.horizon c.spans.ensures.spans c.requires.tiles c.requires.ahead c.mark_spans.ensures.marks
