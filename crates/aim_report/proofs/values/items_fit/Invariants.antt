use Rattle.std.proofs.Common.{ℕ, ◌<◌, get_or}
use Rattle.aim_driver.specs.declared.logs.LogItem.{LogItem}
use Rattle.aim_report.specs.Told.{IsItem}
use Rattle.aim_report.proofs.values.items_fit.Given as goal

abbrev pub invariant-loop-item : goal.invariant-loop-item
invariant-loop-item l = (k : ℕ) (d : LogItem) → k < l.item-index → IsItem (get_or l.log k d)
