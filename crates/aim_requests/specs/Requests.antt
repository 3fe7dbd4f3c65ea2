-- What a prepared request is seen as, and what makes it one of a layout.
use Rattle.std.specs.Prelude.{◌≡◌, Bool, true, false, List, [], length, Option, Some, None, is_none, option_and_then, if◌then◌else◌}
use Rattle.aim_messages.specs.declared.messages.Message.{Message}
use Rattle.aim_messages.specs.declared.messages.Params.{Params}
use Rattle.aim_messages.specs.declared.replies.Field.{Field}
use Rattle.aim_layout.specs.Intersection.{Intersection}
use Rattle.aim_sheets.specs.declared.spans.Span.{Span}
use Rattle.aim_sheets.specs.Sheets.{Spans}
use Rattle.aim_rules.specs.Bad.{bad, span_count}
use Rattle.aim_rules.specs.Trials.{is_fast_made, judged}
use Rattle.aim_rules.specs.Footprint.{crossing_steps}
use Rattle.aim_rules.specs.History.{params_of}
use Rattle.aim_requests.specs.Cells.{HaveCells}
use Rattle.aim_requests.specs.declared.requests.TrialSteps.{TrialSteps}

-- A message, which of its fields is wrong, how many crossing steps its trials have, and two sheets: the first is the fast
-- trial's, the second the steady one's. In a layout with windows the steady trial has none where the fast one is made.
pub record Request : Type 0 where
  pub message : Message
  pub bad : Option Field
  pub steps : TrialSteps
  pub first : Spans
  pub second : Spans

-- the params of a crossing that the request has prepared: None for a message without params, and where a field is wrong
abbrev pub prepared_params : Request → Option Params
prepared_params r = if is_none r.bad then params_of r.message.body else None

-- the fast trial's sheet, where that trial is made
abbrev pub fast_sheet : Request → Option Spans
fast_sheet r = option_and_then (λ p. if is_fast_made p then Some r.first else None) (prepared_params r)

-- the steady trial's sheet
abbrev pub steady_sheet : Request → Option Spans
steady_sheet r = option_and_then (λ p. Some r.second) (prepared_params r)

-- the spans have the cells of the trial, one span for each pair of a step and a row
pub record IsTrialOf (i : Intersection) (p : Params) (fast : Bool) (spans : List Span) : Type 0 where
  pub cells : HaveCells i p fast spans
  pub count : length spans ≡ span_count i p fast

-- the crossing steps of the trials, 0 for one that has no sheet
pub record IsStepsOf (i : Intersection) (p : Params) (s : TrialSteps) : Type 0 where
  pub fast : s.fast ≡ (if is_fast_made p then crossing_steps i p true else 0)
  pub steady : s.steady ≡ (if (judged i p).fast then 0 else crossing_steps i p false)

-- The request was prepared for the layout: the field is that of its message, both sheets have the layout's room, and
-- each has the cells of its trial, or none: the steady one only where it isn't the fast one that is judged.
pub record IsPreparedFor (i : Intersection) (r : Request) : Type 0 where
  pub field : r.bad ≡ option_and_then (bad i) (params_of r.message.body)
  pub first_room : r.first.room ≡ i.grid.spans
  pub second_room : r.second.room ≡ i.grid.spans
  pub steady : (p : Params) → prepared_params r ≡ Some p → (judged i p).fast ≡ false → IsTrialOf i p false r.second.spans
  pub fast : (p : Params) → prepared_params r ≡ Some p → is_fast_made p ≡ true → IsTrialOf i p true r.first.spans
  pub steps : (p : Params) → prepared_params r ≡ Some p → IsStepsOf i p r.steps
  pub unmade : (p : Params) → prepared_params r ≡ Some p → is_fast_made p ≡ false → r.first.spans ≡ []
  pub untried : (p : Params) → prepared_params r ≡ Some p → (judged i p).fast ≡ true → r.second.spans ≡ []
  pub empty : prepared_params r ≡ None → (r.first.spans ≡ []) × (r.second.spans ≡ [])
