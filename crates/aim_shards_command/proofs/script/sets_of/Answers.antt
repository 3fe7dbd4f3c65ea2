use Rattle.std.specs.Prelude.{get_or}
use Rattle.std.proofs.lemmas.Option.{slice_get-get_or}
use Rattle.aim_shards_command.specs.declared.lines.ShardLine.TheVariants as line
use Rattle.aim_shards_command.proofs.Fitting.{fitting_more, sets_next}
use Rattle.aim_shards_command.proofs.script.sets_of.Goals as goal

pub loop-line-preserved : goal.loop-line-preserved
loop-line-preserved c =
    let i = c.loop-line.invariant in
    let none = line.Shards 0 0 0 in
    let lines = c.args.lines.now in
    let at = c.loop-line.line-index in
    let new = c.add_set.new.rectangles.items in record {
      sets = sets_next lines at none c.loop-line.rectangles.items new c.loop-line-test.true i.sets c.in_ok-add_set.ensures;
      fit = fitting_more lines at (get_or lines at none) c.loop-line.rectangles.items new (c.requires.each at (get_or lines at none) (slice_get-get_or lines at none c.loop-line-test.true)) i.fit c.in_ok-add_set.ensures;
    }
