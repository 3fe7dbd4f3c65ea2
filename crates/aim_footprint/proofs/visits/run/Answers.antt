use Rattle.std.proofs.Common.{arith}
use Rattle.aim_footprint.specs.Visits.{ShowsStep}
use Rattle.aim_footprint.proofs.Visiting.{visited_none, visited_more}
use Rattle.aim_footprint.proofs.UnderLemmas.{window_some}
use Rattle.aim_footprint.proofs.visits.run.Goals as goal

pub loop-k-init : goal.loop-k-init
loop-k-init g c = record {
  window = c.first-window.ensures.window;
  low = λ j a b. omega (arith, c.first-window.ensures.low);
  next = λ j a b. omega (arith, c.first-window.ensures.next);
  visited = visited_none g.V.Visit.visits (ShowsStep c.args.rects.now c.args.reaches.now) c.args.visit.now;
}

pub row_range-requires : goal.row_range-requires
row_range-requires g c = window_some c.args.rects.now c.move_to.new.self c.requires.rects c.move_to.ensures.window

pub loop-k-preserved : goal.loop-k-preserved
loop-k-preserved g c =
    let n = c.move_to.ensures in
    let shown : ShowsStep c.args.rects.now c.args.reaches.now c.loop-k.k c.row_range.result c.move_to.new.self.rows = record {
      count = c.row_range.ensures.count;
      words = c.row_range.ensures.words;
      tiles = rw (n.low, n.next) at n.window.shows;
      range = c.row_range.ensures.range;
    } in
    record {
      window = n.window;
      low = λ j a b. let r = c.requires.reaches.low_rises c.loop-k.k j (omega arith) b in omega arith;
      next = λ j a b. let r = c.requires.reaches.high_rises c.loop-k.k j (omega arith) b in omega arith;
      visited = visited_more g.V.Visit.visits (ShowsStep c.args.rects.now c.args.reaches.now) c.loop-k.k c.args.visit.now c.loop-k.visit c.step.new.self c.row_range.result c.move_to.new.self.rows c.loop-k.invariant.visited shown c.step.ensures;
    }
