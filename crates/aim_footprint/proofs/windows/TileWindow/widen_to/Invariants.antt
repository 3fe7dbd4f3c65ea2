use Rattle.std.proofs.Common.{◌≡◌, ◌≤◌, ◌+◌, ◌-◌}
use Rattle.aim_footprint.specs.Windows.{IsWindow}
use Rattle.aim_footprint.proofs.windows.TileWindow.widen_to.Given as goal

abbrev pub invariant-up : goal.invariant-up
invariant-up l = record {
  window : IsWindow l.rects l.self;
  low : l.self.low ≡ l.fn.self.low;
  next : l.self.next ≤ l.high + 1;
}

abbrev pub decreases-up : goal.decreases-up
decreases-up l = l.high + 1 - l.self.next
