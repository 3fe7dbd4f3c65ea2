-- Which field of a crossing is wrong, before its cells are counted.
use Rattle.std.specs.Prelude.{◌≡◌, ◌<◌, ◌≤◌, Bool, true, nat_lt, nat_le, length, Option, Some, None, is_none, if◌then◌else◌}
use Rattle.aim_messages.specs.declared.messages.Params.{Params}
use Rattle.aim_messages.specs.declared.replies.Field.{Field}
use Rattle.aim_messages.specs.declared.replies.Field.TheVariants as field
use Rattle.aim_messages.specs.declared.entries.TheConstants.{LATEST_MOMENT}
use Rattle.aim_geometry.specs.Bounded.{is_outside}
use Rattle.aim_layout.specs.Intersection.{Intersection, path}
use Rattle.aim_rules.specs.Bad.{has_bad_window}
use Rattle.aim_rules.specs.Footprint.{crossing_steps}
use Rattle.aim_rules.specs.Trials.{has_windows, is_fast_made, judged}

-- the first field of `Lane` to `Steps` that is wrong
abbrev pub bad_crossing : Intersection → Params → Option Field
bad_crossing i p =
    if nat_le (length i.lanes) p.lane then Some field.Lane
    else if is_none (path i p.lane p.turn) then Some field.Turn
    else if nat_lt LATEST_MOMENT p.arrive then Some field.Arrive
    else if has_bad_window i p then Some field.Latest
    else if is_outside p.max_speed 4000 then Some field.Max
    else if is_outside p.speed p.max_speed then Some field.Speed
    else if nat_lt 1000 p.accel then Some field.Accel
    else if is_outside p.length 30000 then Some field.Length
    else if is_outside p.width 30000 then Some field.Width
    else if nat_lt 2048 (crossing_steps i p (judged i p).fast) then Some field.Steps
    else None

-- In a layout with windows the trial is the one that is made: no field speaks of the steps of the other.
abbrev pub IsTried : Intersection → Params → Bool → Type 0
IsTried i p fast = has_windows i ≡ true → fast ≡ is_fast_made p

-- numbers with which a vehicle moves, and sums of them fit
pub record IsMoving (p : Params) : Type 0 where
  pub speed : 0 < p.speed
  pub most : p.speed ≤ p.max_speed
  pub greatest : p.max_speed ≤ 4000
  pub accel : p.accel ≤ 1000
  pub length : p.length ≤ 30000
  pub width : p.width ≤ 30000
