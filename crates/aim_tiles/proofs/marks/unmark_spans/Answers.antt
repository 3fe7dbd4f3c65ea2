use Rattle.std.proofs.Common.{refl, ◌∙◌}
use Rattle.aim_sheets.specs.declared.spans.Span.{Span}
use Rattle.aim_tiles.proofs.Runs.{row_of, unmarked_next, unmarked_all, none_unmarked, cost_more, cost_all, at_most, no_more, same_most}
use Rattle.aim_tiles.proofs.marks.unmark_spans.Goals as goal

abbrev none : Span
none = record { step = 0; row = 0; mask = 0 }

pub unmark_span-requires-clause-row : goal.unmark_span-requires-clause-row
unmark_span-requires-clause-row g c = row_of c.args.spans.now c.loop-span.span-index none c.args.pages.now.size c.loop-span.pages.size c.loop-span-test.true c.requires.marked c.requires.tiles c.loop-span.invariant.size

pub loop-span-init : goal.loop-span-init
loop-span-init g c = record {
  size = refl;
  horizon = refl;
  marks = λ cell box. none_unmarked _;
  cost = no_more c.args.steps.now;
  counted = same_most c.args.steps.now;
}

pub loop-span-preserved : goal.loop-span-preserved
loop-span-preserved g c = record {
  size = c.unmark_span.ensures.size ∙ c.loop-span.invariant.size;
  horizon = c.unmark_span.ensures.horizon ∙ c.loop-span.invariant.horizon;
  marks = unmarked_next c.args.pages.now.size c.args.pages.now.horizon c.args.now c.args.pages.now.words.items.items c.loop-span.pages.words.items.items c.args.spans.now c.loop-span.span-index none c.loop-span-test.true c.requires.tiles c.requires.marked
      c.loop-span.pages.size c.loop-span.pages.horizon c.unmark_span.new.pages.words.items.items c.loop-span.invariant.size c.loop-span.invariant.horizon c.unmark_span.ensures.marks c.loop-span.invariant.marks;
  cost = cost_more c.unmark_span.new.steps c.loop-span.steps c.args.steps.now c.loop-span.span-index c.unmark_span.ensures.cost c.loop-span.invariant.cost;
  counted = at_most c.args.steps.now c.loop-span.steps c.unmark_span.new.steps c.loop-span.invariant.counted c.unmark_span.ensures.counted;
}

pub returns : goal.returns
returns g c = record {
  marks = unmarked_all c.args.pages.now.size c.args.pages.now.horizon c.args.now c.args.pages.now.words.items.items c.loop-span.pages.words.items.items c.args.spans.now c.loop-span.span-index none c.loop-span-test.false c.loop-span.invariant.marks;
  size = c.loop-span.invariant.size;
  horizon = c.loop-span.invariant.horizon;
  cost = cost_all c.loop-span.steps c.args.steps.now c.loop-span.span-index _ c.loop-span.invariant.cost c.loop-span.auto.span-index-end;
  counted = c.loop-span.invariant.counted;
}
