use Rattle.std.proofs.Common.{◌∙◌, refl}
use Rattle.std.proofs.lemmas.List.{length-set}
use Rattle.aim_sheets.specs.declared.spans.Span.{Span}
use Rattle.aim_tiles.proofs.Runs.{more_some, next_within, row_few, row_within, run_started, run_more}
use Rattle.aim_tiles.proofs.searches.gather.Goals as goal

abbrev none : Span
none = record { step = 0; row = 0; mask = 0 }

pub loop-count-init : goal.loop-count-init
loop-count-init c = record {
  some = more_some 0;
  within = c.requires.some;
  few = more_some 63;
  len = length-set c.args.masks.now 0 _ ∙ c.told-masks;
  first = refl;
  run = run_started c.args.spans.now c.args.masks.now none c.requires.some c.told-masks;
}

pub loop-count-preserved : goal.loop-count-preserved
loop-count-preserved c = record {
  some = more_some c.loop-count.count;
  within = next_within _ _ c.loop-count-test.true;
  few = row_few _ _ _ c.if-spans-count-2.true (c.requires.few c.loop-count.count none c.loop-count-test.true);
  len = length-set c.loop-count.masks c.loop-count.count _ ∙ c.loop-count.invariant.len;
  first = refl;
  run = run_more c.args.spans.now c.loop-count.masks none c.loop-count.count c.loop-count.invariant.some c.loop-count-test.true
      (row_within _ _ _ _ c.if-spans-count-2.true (c.requires.few c.loop-count.count none c.loop-count-test.true) c.loop-count.invariant.len) c.if-spans-count.true c.if-spans-count-2.true c.loop-count.invariant.run;
}

pub bounds-masks-count : goal.bounds-masks-count
bounds-masks-count c = row_within _ _ _ 64 c.if-spans-count-2.true (c.requires.few c.loop-count.count none c.loop-count-test.true) refl
