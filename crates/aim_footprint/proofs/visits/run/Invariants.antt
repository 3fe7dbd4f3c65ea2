use Rattle.std.proofs.Common.{ℕ, ◌<◌, ◌≤◌, ◌+◌, length}
use Rattle.aim_footprint.specs.Windows.{IsWindow}
use Rattle.aim_footprint.specs.Reaches.{reach_at}
use Rattle.aim_footprint.specs.Visits.{Visited, ShowsStep}
use Rattle.aim_footprint.proofs.visits.run.Given as goal

abbrev pub invariant-loop-k : goal.invariant-loop-k
invariant-loop-k g l = record {
  window : IsWindow l.rects l.window;
  low : (j : ℕ) → l.k ≤ j → j < length l.reaches → l.window.low ≤ (reach_at l.reaches j).low;
  next : (j : ℕ) → l.k ≤ j → j < length l.reaches → l.window.next ≤ (reach_at l.reaches j).high + 1;
  visited : Visited g.V.Visit.visits (ShowsStep l.rects l.reaches) l.k l.fn.visit l.visit;
}
