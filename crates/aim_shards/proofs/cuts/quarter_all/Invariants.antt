use Rattle.std.proofs.Common.{◌≡◌, ◌≤◌, length}
use Rattle.std.specs.Prelude.{vec_len, vec_capacity}
use Rattle.aim_shards.specs.Cuts.{AreCut, half_of}
use Rattle.aim_shards.proofs.cuts.quarter_all.Given as goal

abbrev pub invariant-loop-sheet : goal.invariant-loop-sheet
invariant-loop-sheet l = record {
  count : vec_len l.quarters ≡ length l.yielded;
  room : length l.fn.sets.items ≤ vec_capacity l.quarters;
  cut : AreCut (half_of l.fn.n) l.yielded l.quarters.items;
}
