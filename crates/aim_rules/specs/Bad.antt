-- Which field of a request is wrong, if any.
use Rattle.std.specs.Prelude.{◌≡◌, ◌+◌, not, ◌<◌, ◌≤◌, ℕ, Bool, true, false, ◌&&◌, ◌||◌, nat_lt, nat_le, length, filter, flat_map, map, Option, Some, None, is_none, if◌then◌else◌}
use Rattle.std.specs.List.{range_with_len}
use Rattle.aim_messages.specs.declared.messages.Params.{Params}
use Rattle.aim_messages.specs.declared.entries.TheConstants.{LATEST_MOMENT}
use Rattle.aim_messages.specs.declared.replies.Field.{Field}
use Rattle.aim_messages.specs.declared.replies.Field.TheVariants as field
use Rattle.aim_geometry.specs.Bounded.{some_below, is_outside}
use Rattle.aim_layout.specs.Intersection.{Intersection, path}
use Rattle.aim_rules.specs.Footprint.{crossing_steps}
use Rattle.aim_rules.specs.Cells.{in_cells, steps_of}
use Rattle.aim_rules.specs.Trials.{has_windows, is_fast_made, judged}

-- the number of spans: pairs of a step, from 0 on, and a row in which the crossing needs a cell
abbrev pub span_count : Intersection → Params → Bool → ℕ
span_count i p fast =
    length (filter (λ c. some_below i.grid.n (λ col. in_cells i p fast (record c { col = col })))
    (flat_map (λ s. map (λ r. record { row = r; col = 0; step = s }) (range_with_len 0 i.grid.n)) (steps_of i p fast)))

-- whether the trial by which the request is judged, or another at its arrival, has more spans than a sheet has room for
abbrev pub needs_too_many_spans : Intersection → Params → Bool
needs_too_many_spans i p =
    nat_lt i.grid.spans (span_count i p (judged i p).fast)
    || (not (has_windows i) && is_fast_made p && nat_lt i.grid.spans (span_count i p true))

-- whether the window ends before it begins, past the latest moment, or later than the layout's longest window allows
abbrev pub has_bad_window : Intersection → Params → Bool
has_bad_window i p =
    has_windows i && (nat_lt p.latest p.arrive || nat_lt LATEST_MOMENT p.latest || nat_lt (p.arrive + i.times.window) p.latest)

-- the first field that is wrong
abbrev pub bad : Intersection → Params → Option Field
bad i p =
    if nat_le (length i.lanes) p.lane then Some field.Lane
    else if is_none (path i p.lane p.turn) then Some field.Turn
    else if nat_lt LATEST_MOMENT p.arrive then Some field.Arrive
    else if has_bad_window i p then Some field.Latest
    else if is_outside p.max_speed 4000 then Some field.Max
    else if is_outside p.speed p.max_speed then Some field.Speed
    else if nat_lt 1000 p.accel then Some field.Accel
    else if is_outside p.length 30000 then Some field.Length
    else if is_outside p.width 30000 then Some field.Width
    else if nat_lt 2048 (crossing_steps i p (judged i p).fast) then Some field.Steps
    else if needs_too_many_spans i p then Some field.Spans
    else None

-- a trial's spans fit into a sheet
abbrev pub FitsSheet : Intersection → Params → Bool → Type 0
FitsSheet i p fast = span_count i p fast ≤ i.grid.spans

-- params of which no field is wrong, said as bounds
pub record IsGood (i : Intersection) (p : Params) : Type 0 where
  pub lane : p.lane < length i.lanes
  pub turn : is_none (path i p.lane p.turn) ≡ false
  pub arrive : p.arrive ≤ LATEST_MOMENT
  pub window : has_windows i ≡ true → (p.arrive ≤ p.latest) × (p.latest ≤ LATEST_MOMENT) × (p.latest ≤ p.arrive + i.times.window)
  pub greatest : (1 ≤ p.max_speed) × (p.max_speed ≤ 4000)
  pub speed : (1 ≤ p.speed) × (p.speed ≤ p.max_speed)
  pub accel : p.accel ≤ 1000
  pub length : (1 ≤ p.length) × (p.length ≤ 30000)
  pub width : (1 ≤ p.width) × (p.width ≤ 30000)
  pub steps : crossing_steps i p (judged i p).fast ≤ 2048
  pub judged : FitsSheet i p (judged i p).fast
  pub fast : has_windows i ≡ false → is_fast_made p ≡ true → FitsSheet i p true
