use Rattle.std.proofs.Common.{◌≡◌, true}
use Rattle.aim_footprint.specs.Ways.{RowsRise, RowsFall, ColumnsRise, ColumnsFall}
use Rattle.aim_footprint.proofs.fills.are_steady.Given as goal

abbrev pub invariant-loop-j : goal.invariant-loop-j
invariant-loop-j l = record {
  north : l.north ≡ true → RowsRise l.rects l.j;
  south : l.south ≡ true → RowsFall l.rects l.j;
  east : l.east ≡ true → ColumnsRise l.rects l.j;
  west : l.west ≡ true → ColumnsFall l.rects l.j;
}
