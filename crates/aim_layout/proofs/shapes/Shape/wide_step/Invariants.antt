use Rattle.std.proofs.Common.{◌≡◌, ℕ, ◌+◌, ◌<◌, false}
use Rattle.std.specs.List.{slice_index_or}
use Rattle.aim_layout.specs.Shapes.{are_wide, origin, stations_of}
use Rattle.aim_layout.proofs.shapes.Shape.wide_step.Given as goal

abbrev pub invariant-loop-j : goal.invariant-loop-j
invariant-loop-j l =
    (k : ℕ) → k < l.j → are_wide l.spacing (slice_index_or (stations_of l.self) k origin) (slice_index_or (stations_of l.self) (k + 1) origin) ≡ false
