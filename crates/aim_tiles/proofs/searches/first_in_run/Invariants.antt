use Rattle.std.proofs.Common.{ℕ, ◌<◌, ◌≤◌, ◌-◌, length, slice_index_or}
use Rattle.std.specs.Option.{option_copied}
use Rattle.aim_sheets.specs.declared.spans.Span.{Span}
use Rattle.aim_tiles.specs.Searches.{is_hit, IsClear, spans_of}
use Rattle.aim_tiles.proofs.searches.first_in_run.Given as goal

abbrev pub invariant-loop-place : goal.invariant-loop-place
invariant-loop-place g l = record {
  within : l.at ≤ length l.run;
  clear : (k : ℕ) (d : Span) → k < l.at → IsClear (is_hit l.pages.words.items.items l.pages.size l.pages.horizon l.now (spans_of (option_copied l.own))) (slice_index_or l.run k d);
}

abbrev pub decreases-loop-place : goal.decreases-loop-place
decreases-loop-place g l = length l.run - l.at
