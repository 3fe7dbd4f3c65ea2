use Rattle.std.proofs.Common.{◌∙◌}
use Rattle.aim_shards_command.proofs.TextLines.{lines_more}
use Rattle.aim_shards_command.proofs.texts.put_entries.Goals as goal

pub loop-entry-preserved : goal.loop-entry-preserved
loop-entry-preserved c =
    c.in_ok-put_entry.ensures
    ∙ lines_more c.loop-entry.out.items c.args.out.now.items c.args.log.now c.loop-entry.entry-index _ c.loop-entry-test.true c.loop-entry.invariant
