use Rattle.std.proofs.Common.{◌≡◌, map, take}
use Rattle.aim_grid.specs.Making.{AllKeep, AreSetOut, legs_of_all, seat_of, vehicles_of}
use Rattle.aim_grid.proofs.making.Crossings.travellers.Given as goal

abbrev pub invariant-loop-planned : goal.invariant-loop-planned
invariant-loop-planned l = record {
  managers : l.self.managers.items ≡ l.initial.self.managers.items;
  out : AreSetOut l.initial.self.managers.items l.legs (take l.planned-index l.legs) l.travellers.items;
  keeps : AllKeep (map seat_of (legs_of_all l.legs (vehicles_of l.travellers.items))) l.initial.self.seats.items l.self.seats.items;
}
