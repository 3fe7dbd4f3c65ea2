use Rattle.aim_driver.specs.Crossings.{first_entrance as entrance_of}
use Rattle.std.proofs.Common.{◌≡◌, drop}
use Rattle.aim_safety.proofs.grants.entrance.Given as goal

abbrev pub invariant-loop-item : goal.invariant-loop-item
invariant-loop-item l = entrance_of (drop l.item-index l.log) ≡ entrance_of l.log
