use Rattle.std.proofs.Common.{◌∙◌}
use Rattle.aim_report.proofs.Lines.{entry_next}
use Rattle.aim_report.proofs.entries.put_entries.Goals as goal

pub loop-position-preserved : goal.loop-position-preserved
loop-position-preserved c =
    c.in_ok-put_entry.ensures
    ∙ entry_next c.loop-position.out.items c.args.out.now.items c.args.journal.now c.loop-position.position _ c.loop-position-test.true c.loop-position.invariant
