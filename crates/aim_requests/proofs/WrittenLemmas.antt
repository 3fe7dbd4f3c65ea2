-- The cells of a trial are written step by step.
use Rattle.std.proofs.Common.{◌≡◌, ℕ, ◌+◌, ◌-◌, ◌*◌, ◌<◌, ◌≤◌, Bool, ◌||◌, List, [], length, min, Ok, Err, Result, arith, refl, sym, ◌∙◌}
use Rattle.std.specs.Prelude.{OnOk, OnErr}
use Rattle.aim_messages.specs.declared.messages.Params.{Params}
use Rattle.aim_geometry.specs.declared.tiles.TileRect.{TileRect}
use Rattle.aim_geometry.specs.Cells.{cell_at}
use Rattle.aim_layout.specs.Intersection.{Intersection}
use Rattle.aim_sheets.specs.declared.spans.Span.{Span}
use Rattle.aim_sheets.specs.Spans.{in_spans}
use Rattle.aim_rules.specs.Bad.{span_count}
use Rattle.aim_rules.specs.Footprint.{crossing_steps}
use Rattle.aim_footprint.specs.declared.reaches.Reach.{Reach}
use Rattle.aim_footprint.specs.declared.windows.TileWindow.{TileWindow}
use Rattle.aim_requests.specs.Cells.{HaveCells}
use Rattle.aim_requests.specs.Counts.{count_below, spans_before}
use Rattle.aim_requests.specs.Moves.{IsFirst, IsTrial, MayMove}
use Rattle.aim_requests.specs.Rows.{AreBefore, has_shown, in_rows_of}
use Rattle.aim_requests.specs.Written.{IsWritten}
use Rattle.aim_requests.proofs.MoveLemmas.{first_may, may_later}
use Rattle.aim_requests.proofs.RowLemmas.{before_step}
use Rattle.aim_requests.proofs.SpanLemmas.{all_before, none_before, spans_all, spans_more, spans_most, spans_none}
use Rattle.aim_requests.proofs.StepLemmas.{IsStep, step_cells, step_count}

-- three facts of an answer that is `Ok` give a fourth
pub on_ok : {T E A B C D : Type 0} (r : Result T E) → OnOk r A → OnOk r B → OnOk r C → (A → B → C → D) → OnOk r D
on_ok (Ok x) a b c f = f a b c
on_ok (Err x) a b c f = tt

pub on_error : {T E A B : Type 0} (r : Result T E) → OnErr r A → (A → B) → OnErr r B
on_error (Ok x) a f = tt
on_error (Err x) a f = f a

module _ (i : Intersection) (p : Params) (fast : Bool) (rects : List TileRect) (reaches : List Reach) (trial : IsTrial i p fast rects reaches) where
  -- at first nothing is
  pub written_none : (outer inner : TileWindow) (spans : List Span) (t : ℕ) → IsFirst rects outer → IsFirst rects inner → spans ≡ [] → t ≡ i.times.edge - p.arrive → IsWritten i p fast rects reaches outer inner spans t
  written_none outer inner spans t out in_ empty is =
      let early = trial.times.early in
      let late = trial.times.late in
      let low : p.arrive + t - i.times.edge ≤ p.arrive - i.times.edge = omega (arith, is) in
      let none : length spans ≡ 0 = rw empty refl in
      let zero = spans_none i p fast (p.arrive + t - i.times.edge) early late low in
      record {
        outer_may = may_later rects reaches outer 0 0 _ _ (omega arith) (omega arith) (first_may rects reaches outer out.window out.low out.next);
        inner_may = may_later rects reaches inner 0 0 _ _ (omega arith) (omega arith) (first_may rects reaches inner in_.window in_.low in_.next);
        cells = λ s r k. rw empty (sym (none_before i p fast (p.arrive + t - i.times.edge) s r k early late low));
        count = omega (arith, none, zero);
        before = λ k d l. absurd (omega (arith, none, l));
        start = omega (arith, is);
      }

  -- a step with its tiles comes behind them
  pub written_more : (outer inner outer' inner' : TileWindow) (spans spans' : List Span) (t step first last n : ℕ) (rows : List ℕ) → IsWritten i p fast rects reaches outer inner spans t → step ≡ p.arrive + t - i.times.edge
      → IsStep i p fast step first last n rows outer'.rows
      → MayMove rects reaches outer' (t + 1 - (i.times.edge + i.times.edge)) (min (t + 1 + i.times.edge - i.times.edge) (length reaches - 1))
      → MayMove rects reaches inner' (t + 1 - (i.times.edge + i.times.late)) (min (t + 1 + i.times.early - i.times.edge) (length reaches - 1))
      → ((s r c : ℕ) → in_spans spans' (cell_at s r c) ≡ (in_spans spans (cell_at s r c) || in_rows_of n rows outer'.rows step first (last + 1) s r c))
      → length spans' ≡ length spans + count_below (last + 1) (has_shown n rows outer'.rows first) → AreBefore spans' step (last + 1)
      → IsWritten i p fast rects reaches outer' inner' spans' (t + 1)
  written_more outer inner outer' inner' spans spans' t step first last n rows v is st out in_ cells count before =
      let start = v.start in
      let next : p.arrive + (t + 1) - i.times.edge ≡ step + 1 = omega (arith, is, start) in
      let had : length spans ≡ spans_before i p fast step = rw is v.count in
      let needed = step_count i p fast step first last n rows outer'.rows st in
      let more = spans_more i p fast step in
      let all : length spans' ≡ spans_before i p fast (step + 1) = omega (arith, count, had, needed, more) in
      record {
        outer_may = out;
        inner_may = in_;
        cells = λ s r k. let old = rw (← is) at (v.cells s r k) in cells s r k ∙ rw (old, next) (step_cells i p fast step first last n rows outer'.rows s r k st);
        count = rw next all;
        before = rw next (before_step spans' step (last + 1) (step + 1) (omega arith) before);
        start = omega (arith, start);
      }

  -- where a step has no room, the trial has none
  pub no_room : (outer inner outer' : TileWindow) (spans : List Span) (t step first last n room : ℕ) (rows : List ℕ) → IsWritten i p fast rects reaches outer inner spans t → step ≡ p.arrive + t - i.times.edge
      → IsStep i p fast step first last n rows outer'.rows → t < length reaches + 2 * i.times.edge
      → room < length spans + count_below (last + 1) (has_shown n rows outer'.rows first) → room < span_count i p fast
  no_room outer inner outer' spans t step first last n room rows v is st near full =
      let many = trial.reach.count in
      let start = v.start in
      let had : length spans ≡ spans_before i p fast step = rw is v.count in
      let needed = step_count i p fast step first last n rows outer'.rows st in
      let more = spans_more i p fast step in
      let end : step + 1 ≤ p.arrive + crossing_steps i p fast + i.times.edge = omega (arith, is, near, many, start) in
      let most = spans_most i p fast (step + 1) trial.times.early trial.times.late end in
      omega (arith, full, had, needed, more, most)

  -- behind the last step all are
  pub all_cells : (outer inner : TileWindow) (spans : List Span) (t : ℕ) → IsWritten i p fast rects reaches outer inner spans t → length reaches + 2 * i.times.edge ≤ t → HaveCells i p fast spans
  all_cells outer inner spans t v past cell =
      let many = trial.reach.count in
      let end : p.arrive + crossing_steps i p fast + i.times.edge ≤ p.arrive + t - i.times.edge = omega (arith, past, many) in
      v.cells cell.step cell.row cell.col ∙ all_before i p fast (p.arrive + t - i.times.edge) cell trial.times.early trial.times.late end

  pub all_counted : (outer inner : TileWindow) (spans : List Span) (t : ℕ) → IsWritten i p fast rects reaches outer inner spans t → length reaches + 2 * i.times.edge ≤ t → length spans ≡ span_count i p fast
  all_counted outer inner spans t v past =
      let many = trial.reach.count in
      let end : p.arrive + crossing_steps i p fast + i.times.edge ≤ p.arrive + t - i.times.edge = omega (arith, past, many) in
      v.count ∙ spans_all i p fast (p.arrive + t - i.times.edge) trial.times.early trial.times.late end
