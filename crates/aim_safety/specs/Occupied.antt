-- The tiles on which a driver is, step by step.
use Rattle.std.specs.Prelude.{ℕ, ◌+◌, Bool, true, false, not, ◌&&◌, ◌==◌, List, Option, Some, None, is_none, option_and_then, option_map, slice_get, if◌then◌else◌}
use Rattle.aim_messages.specs.declared.messages.Params.{Params}
use Rattle.aim_messages.specs.declared.replies.Reply.{Reply}
use Rattle.aim_messages.specs.declared.entries.Entry.{Entry}
use Rattle.aim_geometry.specs.Bounded.{some_below}
use Rattle.aim_layout.specs.Intersection.{Intersection}
use Rattle.aim_rules.specs.Footprint.{crossing_steps, in_footprint}
use Rattle.aim_geometry.specs.Cells.{Cell}
use Rattle.aim_rules.specs.Bad.{bad}
use Rattle.aim_rules.specs.Trials.{has_windows, is_fast_made}
use Rattle.aim_rules.specs.History.{message_of, params_of, is_confirm}
use Rattle.aim_rules.specs.Holds.{is_fast}
use Rattle.aim_driver.specs.declared.logs.Entrance.{Entrance}
use Rattle.aim_driver.specs.declared.logs.LogItem.{LogItem}
use Rattle.aim_driver.specs.Crossings.{first_entrance}

-- the params of a REQUEST or a CHANGE-REQUEST
abbrev pub params_in : Entry → Option Params
params_in e = option_and_then (λ m. params_of m.body) (message_of e.act)

-- what a Confirm grants: the params, and which trial
pub record Grant : Type 0 where
  pub params : Params
  pub fast : Bool

-- whether the trial is one that may be made with these params: where requests have windows, one of the two is
abbrev pub is_tried : Intersection → Params → Bool → Bool
is_tried i p fast = if has_windows i then (if fast then is_fast_made p else not (is_fast_made p)) else true

abbrev pub grant_with : Intersection → Reply → Option Params → Option Grant
grant_with i r None = None
grant_with i r (Some p) =
    if is_confirm r && (is_tried i p (is_fast r) && is_none (bad i p)) then Some (record { params = p; fast = is_fast r }) else None

-- what the entry grants, if there is one and its reply is a Confirm of params of which no field is wrong, and of a trial
-- that may be made with them
abbrev pub grant_of : Intersection → Option Entry → Option Grant
grant_of i None = None
grant_of i (Some e) = grant_with i e.reply (params_in e)

-- a crossing: the step at which it began, and what was granted for it
pub record Passage : Type 0 where
  pub step : ℕ
  pub grant : Grant

-- the crossing that the driver makes: it begins where it entered first, on what the history granted there
abbrev pub passage_from : Intersection → List Entry → Option Entrance → Option Passage
passage_from i h None = None
passage_from i h (Some t) = option_map (λ g. record { step = t.step; grant = g }) (grant_of i (slice_get h t.id))

abbrev pub passage : Intersection → List Entry → List LogItem → Option Passage
passage i h log = passage_from i h (first_entrance log)

-- whether the crossing is on the tile in that step: the tile is under the vehicle in the crossing step of that time
abbrev pub is_on : Intersection → Passage → Cell → Bool
is_on i x c =
    let g = x.grant in
    some_below (crossing_steps i g.params g.fast)
    (λ k. c.step == x.step + k && in_footprint i g.params g.fast 0 k c.row c.col)

abbrev pub is_occupied_by : Intersection → Option Passage → Cell → Bool
is_occupied_by i None c = false
is_occupied_by i (Some x) c = is_on i x c

-- whether the driver is on the tile in that step
abbrev pub is_occupied : Intersection → List Entry → List LogItem → Cell → Bool
is_occupied i h log c = is_occupied_by i (passage i h log) c
