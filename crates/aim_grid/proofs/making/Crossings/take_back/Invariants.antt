use Rattle.std.proofs.Common.{◌≡◌}
use Rattle.aim_grid.specs.Closing.{AllGive, all_gone}
use Rattle.aim_grid.proofs.making.Crossings.take_back.Given as goal

abbrev pub invariant-loop-traveller : goal.invariant-loop-traveller
invariant-loop-traveller l = record {
  managers : l.self.managers.items ≡ l.initial.self.managers.items;
  gives : AllGive (all_gone l.yielded) l.initial.self.seats.items l.self.seats.items;
}
