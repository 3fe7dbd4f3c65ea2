use Rattle.std.proofs.Common.{length, get_or, refl, ◌∙◌, sym}
use Rattle.std.specs.Option.{option_copied}
use Rattle.aim_sheets.specs.declared.spans.Span.{Span}
use Rattle.aim_tiles.specs.Pages.{place_of}
use Rattle.aim_tiles.specs.Searches.{is_hit, spans_of}
use Rattle.aim_tiles.proofs.Runs.{at_least_0, none_clear, same_most, next_within_same}
use Rattle.aim_tiles.proofs.Hits.{run_fits, run_outside, no_range, clear_to, clear_past, hit_from}
use Rattle.aim_tiles.proofs.searches.first_in_run.Goals as goal

abbrev none : Span
none = record { step = 0; row = 0; mask = 0 }

pub read_rows-words-requires : goal.read_rows-words-requires
read_rows-words-requires g c = run_fits c.args.run.now c.args.masks.now c.args.pages.now.size none c.requires.some c.requires.run c.requires.marked c.requires.tiles

pub meeting_from-requires-clause-same : goal.meeting_from-requires-clause-same
meeting_from-requires-clause-same g c = c.requires.masks ∙ sym c.read_rows-words.ensures.len

pub loop-place-init : goal.loop-place-init
loop-place-init g c = record {
  within = at_least_0 _;
  clear = none_clear (is_hit c.args.pages.now.words.items.items c.args.pages.now.size c.args.pages.now.horizon c.args.now (spans_of (option_copied c.args.own))) c.args.run.now;
}

pub loop-place-preserved : goal.loop-place-preserved
loop-place-preserved g c = record {
  within = next_within_same c.in-Some.place (length c.args.masks.now) (length c.args.run.now) c.in-Some.ensures.found.0 c.requires.masks;
  clear = clear_past c.args.pages.now.words.items.items c.args.pages.now.size c.args.pages.now.horizon (place_of c.args.pages.now.size c.args.pages.now.horizon (get_or c.args.run.now 0 none).step (get_or c.args.run.now 0 none).row) c.args.run.now c.args.masks.now c.requires.run none refl
      c.args.now c.args.pages.now.few (spans_of (option_copied c.args.own)) c.read_rows-words.result.now c.read_rows-words.ensures.words c.loop-place.at c.loop-place.invariant.clear
      c.in-Some.place (length c.args.masks.now) c.in-Some.ensures.found.0 c.requires.masks c.in-Some.ensures.first c.own_mask.result c.own_mask.type_inv c.own_mask.ensures c.if-hit-ne0.false;
}

pub returns-then-hit-ne0-clause-found : goal.returns-then-hit-ne0-clause-found
returns-then-hit-ne0-clause-found g c = hit_from c.args.pages.now.words.items.items c.args.pages.now.size c.args.pages.now.horizon (place_of c.args.pages.now.size c.args.pages.now.horizon (get_or c.args.run.now 0 none).step (get_or c.args.run.now 0 none).row) c.args.run.now c.args.masks.now c.requires.run none refl
    c.args.now c.args.pages.now.few (spans_of (option_copied c.args.own)) c.read_rows-words.result.now c.read_rows-words.ensures.words c.loop-place.at c.loop-place.invariant.clear
    c.in-Some.place (length c.args.masks.now) c.in-Some.ensures.found.0 c.requires.masks c.in-Some.ensures.first c.own_mask.result c.own_mask.type_inv c.own_mask.ensures c.if-hit-ne0.true (c.type_inv.masks c.in-Some.place).fits c.requires.tiles (sym c.has_page.ensures ∙ c.if-not-has_page.false)

pub returns-clause-none : goal.returns-clause-none
returns-clause-none g c = clear_to c.args.pages.now.words.items.items c.args.pages.now.size c.args.pages.now.horizon (place_of c.args.pages.now.size c.args.pages.now.horizon (get_or c.args.run.now 0 none).step (get_or c.args.run.now 0 none).row) c.args.run.now c.args.masks.now c.requires.run none refl
    c.args.now c.args.pages.now.few (spans_of (option_copied c.args.own)) c.read_rows-words.result.now c.read_rows-words.ensures.words c.loop-place.at c.loop-place.invariant.clear
    (length c.args.run.now) (length c.args.masks.now) (same_most _) c.requires.masks c.in_default.ensures.none

pub returns-then-not-has_page-clause-none : goal.returns-then-not-has_page-clause-none
returns-then-not-has_page-clause-none g c = run_outside c.args.pages.now.words.items.items c.args.pages.now.size c.args.pages.now.horizon c.args.now (spans_of (option_copied c.args.own)) c.args.run.now c.args.masks.now c.requires.run none
    (no_range c.has_page.result c.args.now c.args.pages.now.horizon (get_or c.args.run.now 0 none).step c.has_page.ensures c.if-not-has_page.true)
