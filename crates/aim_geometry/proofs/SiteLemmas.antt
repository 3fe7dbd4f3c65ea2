-- What the tests of a ground's numbers say.
use Rattle.std.proofs.Common.{◌≡◌, false, arith}
use Rattle.std.proofs.lemmas.Bool.Decides.{nat_tests}
use Rattle.aim_geometry.specs.declared.ground.Grid.{Grid}
use Rattle.aim_geometry.specs.declared.ground.Times.{Times}
use Rattle.aim_geometry.specs.Sites.{IsGrid, IsTimes, has_bad_numbers, has_bad_buffers, has_bad_times}

pub IsTimes-tests : (t : Times) → has_bad_buffers t ≡ false → has_bad_times t ≡ false → IsTimes t
IsTimes-tests t b h = record {
  some_horizon = grind (arith, nat_tests);
  horizon = grind (arith, nat_tests);
  some_longest = grind (arith, nat_tests);
  longest = grind (arith, nat_tests);
  clearance = grind (arith, nat_tests);
  early = grind (arith, nat_tests);
  late = grind (arith, nat_tests);
  edge = grind (arith, nat_tests);
  window = grind (arith, nat_tests);
}

pub IsGrid-tests : (g : Grid) → has_bad_numbers g ≡ false → IsGrid g
IsGrid-tests g h = record {
  side = grind (arith, nat_tests);
  some_rows = grind (arith, nat_tests);
  rows = grind (arith, nat_tests);
  tiles = grind (arith, nat_tests);
  tile = grind (arith, nat_tests);
  some_spacing = grind (arith, nat_tests);
  spacing = grind (arith, nat_tests);
  fixed = grind (arith, nat_tests);
  half = grind (arith, nat_tests);
  some_spans = grind (arith, nat_tests);
  spans = grind (arith, nat_tests);
}
