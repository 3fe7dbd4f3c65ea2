use Rattle.std.proofs.Common.{◌≡◌, ◌≤◌, ◌-◌}
use Rattle.aim_footprint.specs.Windows.{IsWindow}
use Rattle.aim_footprint.proofs.windows.TileWindow.narrow_to.Given as goal

abbrev pub invariant-down : goal.invariant-down
invariant-down l = record {
  window : IsWindow l.rects l.self;
  low : l.self.low ≤ l.low;
  next : l.self.next ≡ l.fn.self.next;
}

abbrev pub decreases-down : goal.decreases-down
decreases-down l = l.low - l.self.low
