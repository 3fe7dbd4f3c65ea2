use Rattle.std.proofs.Common.{◌≡◌, ◌++◌, map}
use Rattle.aim_grid.specs.Legs.{told, told_unbegun}
use Rattle.aim_grid.proofs.travellers.append_unbegun.Given as goal

abbrev pub invariant-loop-leg : goal.invariant-loop-leg
invariant-loop-leg l = map told l.over.items ≡ map told l.initial.over.items ++ map told_unbegun l.yielded
