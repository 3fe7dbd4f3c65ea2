use Rattle.std.proofs.Common.{◌≡◌, ℕ, ◌+◌, ◌<◌, ◌≤◌, ◌-◌, length, slice_index_or}
use Rattle.std.specs.Option.{option_copied}
use Rattle.aim_sheets.specs.declared.spans.Span.{Span}
use Rattle.aim_tiles.specs.Searches.{is_hit, IsClear, spans_of}
use Rattle.aim_tiles.proofs.searches.first_in_spans.Given as goal

abbrev pub invariant-loop-at : goal.invariant-loop-at
invariant-loop-at g l = record {
  within : l.at ≤ length l.spans;
  len : length l.masks ≡ 64;
  clear : (k : ℕ) (d : Span) → k < l.at → IsClear (is_hit l.pages.words.items.items l.pages.size l.pages.horizon l.now (spans_of (option_copied l.own))) (slice_index_or l.spans k d);
  cost : l.steps ≤ l.fn.steps + l.at;
  counted : l.fn.steps ≤ l.steps;
}

abbrev pub decreases-loop-at : goal.decreases-loop-at
decreases-loop-at g l = length l.spans - l.at
