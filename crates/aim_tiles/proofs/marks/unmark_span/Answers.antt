use Rattle.std.proofs.Common.{◌∙◌, sym}
use Rattle.aim_tiles.proofs.Writes.{unmarked_one}
use Rattle.aim_tiles.proofs.marks.unmark_span.Goals as goal

pub returns-then-has_page-clause-marks : goal.returns-then-has_page-clause-marks
returns-then-has_page-clause-marks g c = unmarked_one c.args.pages.now.words.items.items c.unmark.new.self.words.items.items c.args.pages.now.size c.args.pages.now.horizon c.args.now c.page-page.result c.args.span
    c.args.pages.now.ahead c.requires.row (sym c.has_page.ensures ∙ c.if-has_page.true) c.page-page.ensures.place c.page-page.ensures.within c.args.pages.now.few c.unmark.ensures.fits c.unmark.ensures.words
