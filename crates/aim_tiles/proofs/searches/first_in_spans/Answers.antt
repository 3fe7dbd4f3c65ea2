use Rattle.aim_geometry.specs.Cells.{cell_at}
use Rattle.std.proofs.Common.{sym, refl}
use Rattle.std.specs.Option.{option_copied}
use Rattle.aim_tiles.specs.Searches.{is_hit, IsFirstHit, spans_of}
use Rattle.aim_tiles.proofs.Firsts.{some_then, none_then, rest_rows, run_is, run_tiles, run_marked, run_masks, run_within, run_cost, not_none, hit_of_run, clear_of_run}
use Rattle.aim_tiles.proofs.Runs.{at_least_0, none_clear, all_clear, no_more, same_most, at_most}
use Rattle.aim_tiles.proofs.searches.first_in_spans.Goals as goal

pub gather-count-requires-clause-few : goal.gather-count-requires-clause-few
gather-count-requires-clause-few g c = rest_rows c.args.spans.now c.loop-at.at c.loop-at.invariant.within c.args.pages.now.size c.args.pages.now.few c.requires.tiles c.requires.marked

pub first_in_run-found-requires-clause-run : goal.first_in_run-found-requires-clause-run
first_in_run-found-requires-clause-run g c = run_is c.args.spans.now c.loop-at.at c.loop-at.invariant.within c.gather-count.result c.gather-count.ensures.within c.gather-count.new.masks c.gather-count.ensures.some c.gather-count.ensures.run

pub first_in_run-found-requires-clause-tiles : goal.first_in_run-found-requires-clause-tiles
first_in_run-found-requires-clause-tiles g c = run_tiles c.args.spans.now c.loop-at.at c.loop-at.invariant.within c.gather-count.result c.gather-count.ensures.within c.args.pages.now.size c.requires.tiles

pub returns-then-is_some-clause-found : goal.returns-then-is_some-clause-found
returns-then-is_some-clause-found g c =
    some_then c.first_in_run-found.result _ (λ r. IsFirstHit (is_hit c.args.pages.now.words.items.items c.args.pages.now.size c.args.pages.now.horizon c.args.now (spans_of (option_copied c.args.own))) c.args.spans.now (cell_at r.0 r.1 r.2))
    (λ r. hit_of_run c.args.spans.now c.loop-at.at c.loop-at.invariant.within c.gather-count.result c.gather-count.ensures.within
    (is_hit c.args.pages.now.words.items.items c.args.pages.now.size c.args.pages.now.horizon c.args.now (spans_of (option_copied c.args.own))) c.loop-at.invariant.clear (cell_at r.0 r.1 r.2))
    c.first_in_run-found.ensures.found

pub loop-at-preserved : goal.loop-at-preserved
loop-at-preserved g c = record {
  within = run_within c.args.spans.now c.loop-at.at c.loop-at.invariant.within c.gather-count.result c.gather-count.ensures.within;
  len = c.gather-count.array_long;
  clear = clear_of_run c.args.spans.now c.loop-at.at c.loop-at.invariant.within c.gather-count.result c.gather-count.ensures.within
      (is_hit c.args.pages.now.words.items.items c.args.pages.now.size c.args.pages.now.horizon c.args.now (spans_of (option_copied c.args.own))) c.loop-at.invariant.clear
      (none_then c.first_in_run-found.result _ (sym c.if-is_some.ensures) c.first_in_run-found.ensures.none);
  cost = run_cost c.args.spans.now c.loop-at.at c.loop-at.invariant.within c.gather-count.result c.gather-count.ensures.within c.first_in_run-found.new.steps c.loop-at.steps c.args.steps.now c.first_in_run-found.ensures.cost c.loop-at.invariant.cost;
  counted = at_most c.args.steps.now c.loop-at.steps c.first_in_run-found.new.steps c.loop-at.invariant.counted c.first_in_run-found.ensures.counted;
}

pub loop-at-init : goal.loop-at-init
loop-at-init g c = record {
  within = at_least_0 _;
  len = refl;
  clear = none_clear (is_hit c.args.pages.now.words.items.items c.args.pages.now.size c.args.pages.now.horizon c.args.now (spans_of (option_copied c.args.own))) c.args.spans.now;
  cost = no_more c.args.steps.now;
  counted = same_most c.args.steps.now;
}

pub returns-clause-none : goal.returns-clause-none
returns-clause-none g c = all_clear (is_hit c.args.pages.now.words.items.items c.args.pages.now.size c.args.pages.now.horizon c.args.now (spans_of (option_copied c.args.own))) c.args.spans.now c.loop-at.at c.loop-at-test.false c.loop-at.invariant.clear

pub first_in_run-found-requires-clause-marked : goal.first_in_run-found-requires-clause-marked
first_in_run-found-requires-clause-marked g c = run_marked c.args.spans.now c.loop-at.at c.loop-at.invariant.within c.gather-count.result c.gather-count.ensures.within c.requires.marked

pub first_in_run-found-requires-clause-masks : goal.first_in_run-found-requires-clause-masks
first_in_run-found-requires-clause-masks g c = run_masks c.args.spans.now c.loop-at.at c.loop-at.invariant.within c.gather-count.result c.gather-count.ensures.within c.gather-count.new.masks c.gather-count.array_long c.gather-count.ensures.few

pub returns-then-is_some-clause-none : goal.returns-then-is_some-clause-none
returns-then-is_some-clause-none g c = not_none c.first_in_run-found.result _ c.if-is_some.ensures
