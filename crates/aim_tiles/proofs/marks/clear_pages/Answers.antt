use Rattle.std.proofs.Common.{◌∙◌, refl}
use Rattle.aim_tiles.proofs.Clears.{cleared_more}
use Rattle.aim_tiles.proofs.Runs.{none_cleared, cleared_all, no_times, times_more, times_all, both_at_most, next_below}
use Rattle.aim_tiles.proofs.marks.clear_pages.Goals as goal

pub loop-gone-preserved : goal.loop-gone-preserved
loop-gone-preserved g c = record {
  size = c.clear.ensures.size ∙ c.loop-gone.invariant.size;
  horizon = c.clear.ensures.horizon ∙ c.loop-gone.invariant.horizon;
  marks = cleared_more c.args.pages.now.size c.args.pages.now.horizon c.args.now c.loop-gone.gone c.loop-gone.pages.size c.loop-gone.pages.horizon c.page-page.result c.args.pages.now.words.items.items c.loop-gone.pages.words.items.items c.clear.new.self.words.items.items
      c.args.pages.now.ahead (next_below c.loop-gone.gone c.args.leaving c.args.pages.now.horizon c.loop-gone-test.true c.requires.few) c.loop-gone.invariant.size c.loop-gone.invariant.horizon c.page-page.ensures.place c.clear.ensures.page c.clear.ensures.below c.clear.ensures.above c.loop-gone.invariant.marks;
  cost = times_more c.clear.new.steps c.loop-gone.steps c.args.steps.now c.loop-gone.pages.size c.args.pages.now.size c.loop-gone.gone c.clear.ensures.cost c.loop-gone.invariant.size c.loop-gone.invariant.cost;
}

pub loop-gone-init : goal.loop-gone-init
loop-gone-init g c = record {
  size = refl;
  horizon = refl;
  marks = none_cleared c.args.pages.now.words.items.items c.args.pages.now.size c.args.pages.now.horizon c.args.now;
  cost = no_times c.args.steps.now c.args.pages.now.size;
}

pub returns : goal.returns
returns g c = let end = both_at_most c.loop-gone.gone c.args.leaving c.loop-gone.auto.gone-end c.loop-gone-test.false in record {
  marks = cleared_all c.args.pages.now.size c.args.pages.now.horizon c.args.now c.loop-gone.gone c.args.leaving c.args.pages.now.words.items.items c.loop-gone.pages.words.items.items end c.loop-gone.invariant.marks;
  size = c.loop-gone.invariant.size;
  horizon = c.loop-gone.invariant.horizon;
  cost = times_all c.loop-gone.steps c.args.steps.now c.args.pages.now.size c.loop-gone.gone c.args.leaving end c.loop-gone.invariant.cost;
}
