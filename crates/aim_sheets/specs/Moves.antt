-- Spans that come later, or earlier.
use Rattle.std.specs.Prelude.{ℕ, ◌+◌, ◌-◌, ◌<◌, ◌≤◌, ◌^◌, List, All}
use Rattle.aim_sheets.specs.declared.spans.Span.{Span}

-- the span as much later as the second step is than the first
abbrev pub moved : ℕ → ℕ → Span → Span
moved from to s = record { step = s.step - from + to; row = s.row; mask = s.mask }

-- none of the spans is before the first step, and each is a step after the move
abbrev pub MayMove : ℕ → ℕ → List Span → Type 0
MayMove from to spans = All (λ s. (from ≤ s.step) × (s.step - from + to < 2 ^ 32)) spans
