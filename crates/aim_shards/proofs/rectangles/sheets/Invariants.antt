use Rattle.std.proofs.Common.{◌≡◌, ◌≤◌, length, take}
use Rattle.std.specs.Prelude.{vec_len, vec_capacity}
use Rattle.aim_shards.specs.Fitting.{AreSheets}
use Rattle.aim_shards.proofs.rectangles.sheets.Given as goal

abbrev pub invariant-loop-rectangle : goal.invariant-loop-rectangle
invariant-loop-rectangle l = record {
  count : vec_len l.sheets ≡ l.rectangle-index;
  room : length l.rectangles ≤ vec_capacity l.sheets;
  made : AreSheets l.n l.horizon (take l.rectangle-index l.rectangles) l.sheets.items;
}
