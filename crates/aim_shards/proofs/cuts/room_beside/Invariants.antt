use Rattle.std.proofs.Common.{◌≡◌, ◌≤◌, length, take}
use Rattle.std.specs.Prelude.{filter}
use Rattle.aim_shards.specs.Cuts.{is_beside}
use Rattle.aim_shards.proofs.cuts.room_beside.Given as goal

abbrev pub invariant-loop-span : goal.invariant-loop-span
invariant-loop-span l = record {
  count : l.count ≡ length (filter (is_beside l.half l.down) (take l.span-index l.span-items));
  few : l.count ≤ l.span-index;
  all : l.span-items ≡ l.sheet.spans;
  fits : length l.span-items ≤ l.sheet.room;
}
