use Rattle.std.proofs.Common.{refl, ◌∙◌}
use Rattle.aim_sheets.specs.declared.spans.Span.{Span}
use Rattle.aim_tiles.proofs.Runs.{first_page, page_stays, none_marked, marked_next, marked_all, place_within, count_more, count_all, no_count}
use Rattle.aim_tiles.proofs.marks.mark_spans.Goals as goal

abbrev none : Span
none = record { step = 0; row = 0; mask = 0 }

pub mark-requires : goal.mark-requires
mark-requires g c = place_within c.args.pages.now.size c.args.pages.now.horizon c.args.pages.now.words.items.items c.loop-span.pages.words.items.items c.args.spans.now c.loop-span.span-index none c.loop-span-test.true c.requires.tiles c.requires.marked
    c.loop-span.pages.size c.loop-span.pages.horizon c.page_after-page.result c.loop-span.invariant.size c.loop-span.invariant.horizon c.page_after-page.ensures.place c.page_after-page.ensures.within

pub loop-span-init : goal.loop-span-init
loop-span-init g c = record {
  page = first_page c.args.pages.now.horizon c.args.pages.now.size c.args.pages.now.ahead;
  size = refl;
  horizon = refl;
  marks = λ now ahead cell box. none_marked _;
  cost = no_count c.args.steps.now;
}

pub loop-span-preserved : goal.loop-span-preserved
loop-span-preserved g c = record {
  page = page_stays _ _ c.loop-span.pages.horizon c.loop-span.pages.size c.mark.new.self.horizon c.mark.new.self.size c.page_after-page.ensures.place c.mark.ensures.horizon c.mark.ensures.size;
  size = c.mark.ensures.size ∙ c.loop-span.invariant.size;
  horizon = c.mark.ensures.horizon ∙ c.loop-span.invariant.horizon;
  marks = marked_next c.args.pages.now.size c.args.pages.now.horizon c.args.pages.now.words.items.items c.loop-span.pages.words.items.items c.args.spans.now c.loop-span.span-index none c.loop-span-test.true c.requires.tiles c.requires.marked
      c.loop-span.pages.size c.loop-span.pages.horizon c.page_after-page.result c.loop-span.invariant.size c.loop-span.invariant.horizon c.page_after-page.ensures.place c.page_after-page.ensures.within
      c.args.pages.now.ahead c.mark.new.self.words.items.items c.mark.ensures.words c.loop-span.invariant.marks;
  cost = count_more c.mark.new.steps c.loop-span.steps c.args.steps.now c.loop-span.span-index c.mark.ensures.cost c.loop-span.invariant.cost;
}

pub returns : goal.returns
returns g c = record {
  marks = marked_all c.args.pages.now.size c.args.pages.now.horizon c.args.pages.now.words.items.items c.loop-span.pages.words.items.items c.args.spans.now c.loop-span.span-index c.loop-span-test.false c.loop-span.invariant.marks;
  size = c.loop-span.invariant.size;
  horizon = c.loop-span.invariant.horizon;
  cost = count_all c.loop-span.steps c.args.steps.now c.loop-span.span-index _ c.loop-span.auto.span-index-end c.loop-span-test.false c.loop-span.invariant.cost;
}
