use Rattle.aim_tiles.proofs.Views.{released}
use Rattle.aim_tiles.proofs.tables.Table.release.Goals as goal

pub returns-clause-cells : goal.returns-clause-cells
returns-clause-cells g c = released c.self.inside.pages.size c.self.inside.pages.horizon c.self.inside.current c.unmark_spans.new.pages.size c.unmark_spans.new.pages.horizon c.self.inside.pages.words.items.items c.unmark_spans.new.pages.words.items.items
    c.args.sheet.now.spans c.spans.result.now c.args.self.now c.self.view_is c.unmark_spans.ensures.size c.unmark_spans.ensures.horizon c.spans.ensures.spans c.unmark_spans.ensures.marks
