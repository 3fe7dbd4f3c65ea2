use Rattle.std.proofs.Common.{◌≡◌}
use Rattle.aim_grid.specs.Closing.{AllGive}
use Rattle.aim_grid.proofs.Returning.{gone_over}
use Rattle.aim_grid.proofs.making.Crossings.take_legs.Given as goal

abbrev pub invariant-loop-crossing : goal.invariant-loop-crossing
invariant-loop-crossing l = record {
  managers : l.self.managers.items ≡ l.initial.self.managers.items;
  gives : AllGive (gone_over l.vehicle l.yielded) l.initial.self.seats.items l.self.seats.items;
}
