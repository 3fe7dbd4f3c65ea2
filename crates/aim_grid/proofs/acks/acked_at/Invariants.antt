use Rattle.std.proofs.Common.{◌≡◌, take}
use Rattle.aim_grid.specs.Told.{told_all}
use Rattle.aim_grid.proofs.acks.acked_at.Given as goal

abbrev pub invariant-loop-item : goal.invariant-loop-item
invariant-loop-item l = l.told ≡ told_all (take l.item-index l.log)
