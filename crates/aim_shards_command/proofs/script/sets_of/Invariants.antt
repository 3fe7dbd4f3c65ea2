use Rattle.std.proofs.Common.{◌≡◌, take}
use Rattle.aim_shards_command.specs.Fits.{AreFitting}
use Rattle.aim_shards_command.specs.Said.{sets_of, terms_of}
use Rattle.aim_shards_command.proofs.script.sets_of.Given as goal

abbrev pub invariant-loop-line : goal.invariant-loop-line
invariant-loop-line l = record {
  sets : l.rectangles.items ≡ sets_of (take l.line-index l.lines);
  fit : AreFitting (terms_of l.lines) l.rectangles.items;
}
