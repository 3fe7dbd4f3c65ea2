-- Crossings that differ in their arrival alone.
use Rattle.std.specs.Prelude.{◌≡◌, ◌≤◌, ℕ, false, List, All, Option, Some}
use Rattle.aim_messages.specs.declared.messages.Params.{Params}
use Rattle.aim_messages.specs.declared.entries.TheConstants.{LATEST_MOMENT}
use Rattle.aim_layout.specs.Intersection.{Intersection}
use Rattle.aim_rules.specs.Bad.{has_bad_window}
use Rattle.aim_requests.specs.Requests.{Request, IsPreparedFor, prepared_params}

-- the same crossing with other first and last steps of arrival
abbrev pub arriving : Params → ℕ → ℕ → Params
arriving p at latest = record { lane = p.lane; turn = p.turn; arrive = at; latest = latest; speed = p.speed; max_speed = p.max_speed; accel = p.accel; length = p.length; width = p.width; emergency = p.emergency }

-- each of the requests is prepared for the layout
abbrev pub ArePreparedFor : Intersection → List Request → Type 0
ArePreparedFor i requests = All (IsPreparedFor i) requests

-- the params ask for the crossing of the request, which arrives at the first step, at the second one, in no bad window
abbrev pub AsksAnew : Intersection → Request → ℕ → ℕ → Option Params → Type 0
AsksAnew i r from to asked =
    (p : Params) × (prepared_params r ≡ Some p) × (p.arrive ≡ from) × (latest : ℕ) × (asked ≡ Some (arriving p to latest)) × (has_bad_window i (arriving p to latest) ≡ false)

-- the params ask for the crossing of the request, which arrives at the step, at another one; no buffer reaches back past
-- 0, and no window is bad
pub record IsAnew (i : Intersection) (r : Request) (from : ℕ) (p : Params) : Type 0 where
  pub known : (q : Params) × (prepared_params r ≡ Some q) × (q.arrive ≡ from) × (p ≡ arriving q p.arrive p.latest)
  pub from_edge : i.times.edge ≤ from
  pub to_edge : i.times.edge ≤ p.arrive
  pub last : p.arrive ≤ LATEST_MOMENT
  pub window : has_bad_window i p ≡ false
