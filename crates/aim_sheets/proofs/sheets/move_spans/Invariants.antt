use Rattle.std.proofs.Common.{◌≡◌, ℕ, ◌≤◌, map, ◌++◌, take, drop, get_or}
use Rattle.aim_sheets.specs.declared.spans.Span.{Span}
use Rattle.aim_sheets.specs.Moves.{moved}
use Rattle.aim_sheets.proofs.sheets.move_spans.Given as goal

-- the spans so far have moved, the others have not
abbrev pub invariant-loop-span : goal.invariant-loop-span
invariant-loop-span l = record {
  before : l.spans ≡ map (moved l.from l.to) (take l.span-index l.initial.spans) ++ drop l.span-index l.initial.spans;
  ahead : (k : ℕ) (d : Span) → l.span-index ≤ k → get_or l.spans k d ≡ get_or l.initial.spans k d;
}
