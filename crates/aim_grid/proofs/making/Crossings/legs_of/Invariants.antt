use Rattle.std.proofs.Common.{◌≡◌, map, take}
use Rattle.std.specs.List.{AllZip}
use Rattle.aim_grid.specs.Making.{AllKeep, IsMadeLeg, seat_of}
use Rattle.aim_grid.specs.Runs.{legs_for}
use Rattle.aim_grid.proofs.making.Crossings.legs_of.Given as goal

abbrev pub invariant-loop-planned : goal.invariant-loop-planned
invariant-loop-planned l = record {
  managers : l.self.managers.items ≡ l.initial.self.managers.items;
  made : AllZip (IsMadeLeg l.initial.self.managers.items) (legs_for l.vehicle (take l.planned-index l.legs)) l.own.items;
  keeps : AllKeep (map seat_of (legs_for l.vehicle (take l.planned-index l.legs))) l.initial.self.seats.items l.self.seats.items;
}
