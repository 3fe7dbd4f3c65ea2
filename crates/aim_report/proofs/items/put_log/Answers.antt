use Rattle.std.proofs.Common.{◌∙◌}
use Rattle.aim_report.proofs.Lines.{log_next}
use Rattle.aim_report.proofs.items.put_log.Goals as goal

pub loop-item-preserved : goal.loop-item-preserved
loop-item-preserved c =
    c.in_ok-put_item.ensures
    ∙ log_next c.args.vehicle c.loop-item.out.items c.args.out.now.items c.args.log.now c.loop-item.item-index _ c.loop-item-test.true c.loop-item.invariant
