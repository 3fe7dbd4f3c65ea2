-- Windows of arrivals, with one trial at each.
use Rattle.std.proofs.Common.{◌≡◌, ℕ, [], ◌∷◌, List, Some, None, refl, true}
use Rattle.aim_messages.specs.declared.messages.Params.{Params}
use Rattle.aim_messages.specs.declared.messages.Body.TheVariants.{Request, Change}
use Rattle.aim_messages.specs.declared.replies.Field.TheVariants as field
use Rattle.aim_messages.specs.declared.replies.Reason.TheVariants.{Bad, Distance, Emergency, Far, Late, NoReservation, Taken}
use Rattle.aim_messages.specs.declared.replies.Reply.TheVariants.{Confirm}
use Rattle.aim_layout.specs.Intersection.{Intersection, Policy}
use Rattle.aim_rules.specs.Bad.{bad}
use Rattle.aim_rules.specs.Journals.{Call}
use Rattle.aim_rules.proofs.Rows.{ambulance, ask, car, crossing_of, lights, plain, reject, replies, send, siren, siren_small, small, steady}

abbrev windowed : ℕ → List Policy → Intersection
windowed horizon policies = crossing_of 4 (record { horizon = horizon; longest = 25; clearance = 20; early = 0; late = 0; edge = 0; window = 20 }) policies

abbrev wide : Intersection
wide = windowed 1500 (plain ∷ lights ∷ siren ∷ [])

abbrev until : ℕ → Params → Params
until latest p = record p { latest = latest }

abbrev wait : ℕ → ℕ → ℕ → ℕ → Call
wait v lane arrive latest = send v 0 1 (Request (until latest (car lane arrive)))

-- the first step of the window that is free, which may be its last
pub granted_later : replies wide (ask 0 0 1 0 10 ∷ wait 1 1 10 20 ∷ []) ≡ steady 0 10 20 ∷ steady 1 18 28 ∷ []
granted_later = refl

pub granted_at_the_last_step : replies wide (ask 0 0 1 0 10 ∷ wait 1 1 10 18 ∷ []) ≡ steady 0 10 20 ∷ steady 1 18 28 ∷ []
granted_at_the_last_step = refl

-- where none is free, the first one's least blocked cell is told
pub refused_at_its_first_step : replies wide (ask 0 0 1 0 10 ∷ wait 1 1 10 17 ∷ []) ≡ steady 0 10 20 ∷ reject (Taken 1 2 13 0) 5 None ∷ []
refused_at_its_first_step = refl

-- version 3 tries the arrival alone
pub no_window_before_version_four : replies small (ask 0 0 1 0 10 ∷ wait 1 1 10 20 ∷ []) ≡ steady 0 10 20 ∷ reject (Taken 1 2 13 0) 5 None ∷ []
no_window_before_version_four = refl

-- the bounds of a window
pub windows : (bad wide (until 30 (car 0 10)) ≡ None) × (bad wide (until 31 (car 0 10)) ≡ Some field.Latest) × (bad wide (until 9 (car 0 10)) ≡ Some field.Latest) × (bad small (until 31 (car 0 10)) ≡ None)
windows = (refl, refl, refl, refl)

pub window_at_the_latest_moment : (bad wide (until 1073741824 (car 0 1073741824)) ≡ None) × (bad wide (until 1073741825 (car 0 1073741824)) ≡ Some field.Latest)
window_at_the_latest_moment = (refl, refl)

pub bad_window : replies wide (wait 0 0 10 31 ∷ []) ≡ reject (Bad field.Latest) 5 None ∷ []
bad_window = refl

-- the arrival before the window, and the window before the greatest speed
pub neighbours_of_a_bad_window : (bad wide (until 0 (car 0 1073741825)) ≡ Some field.Arrive) × (bad wide (until 9 (let p = car 0 10 in record p { max_speed = 0 })) ≡ Some field.Latest)
neighbours_of_a_bad_window = (refl, refl)

-- a window stops at the horizon
pub window_up_to_the_horizon : replies (windowed 29 (plain ∷ [])) (ask 0 0 1 0 10 ∷ wait 1 1 10 20 ∷ []) ≡ steady 0 10 20 ∷ steady 1 18 28 ∷ []
window_up_to_the_horizon = refl

pub window_past_the_horizon : replies (windowed 28 (plain ∷ [])) (ask 0 0 1 0 10 ∷ wait 1 1 10 20 ∷ []) ≡ steady 0 10 20 ∷ reject (Taken 1 2 13 0) 5 None ∷ []
window_past_the_horizon = refl

-- an open window saves no arrival that is late
pub late_in_an_open_window : replies wide (wait 0 0 0 10 ∷ []) ≡ reject (Late 0) 1 None ∷ []
late_in_an_open_window = refl

-- An accelerating vehicle has the fast trial alone.
abbrev sprint : ℕ → ℕ → Call
sprint arrive latest = send 1 0 1 (Request (let p = car 0 arrive in record p { latest = latest; max_speed = 1000; accel = 250 }))

pub steady_in_version_three : replies small (ask 0 0 1 1 10 ∷ sprint 14 14 ∷ []) ≡ steady 0 10 20 ∷ steady 1 14 24 ∷ []
steady_in_version_three = refl

pub never_steady : replies wide (ask 0 0 1 1 10 ∷ sprint 14 14 ∷ []) ≡ steady 0 10 20 ∷ reject (Taken 1 2 16 0) 7 None ∷ []
never_steady = refl

pub fast_and_later : replies wide (ask 0 0 1 1 10 ∷ sprint 14 20 ∷ []) ≡ steady 0 10 20 ∷ Confirm 1 15 0 0 true 20 ∷ []
fast_and_later = refl

-- it is as far as its fast trial, in version 3 as its steady one
pub far_by_the_fast_trial : (replies wide (sprint 1494 1494 ∷ []) ≡ Confirm 0 1494 0 0 true 1499 ∷ []) × (replies wide (sprint 1495 1495 ∷ []) ≡ reject (Far 1500) 25 None ∷ []) × (replies small (sprint 1494 1494 ∷ []) ≡ reject (Far 1500) 25 None ∷ [])
far_by_the_fast_trial = (refl, refl, refl)

-- no lane has a distance
pub no_distance : (replies wide (ask 0 0 1 0 10 ∷ ask 1 0 1 1 10 ∷ ask 2 0 1 1 12 ∷ []) ≡ steady 0 10 20 ∷ reject (Taken 1 2 13 0) 5 None ∷ reject (Taken 1 2 13 0) 6 None ∷ []) × (replies small (ask 0 0 1 0 10 ∷ ask 1 0 1 1 10 ∷ ask 2 0 1 1 12 ∷ []) ≡ steady 0 10 20 ∷ reject (Taken 1 2 13 0) 5 None ∷ reject (Distance 5000) 6 None ∷ [])
no_distance = (refl, refl)

-- an emergency that is confirmed calls no more, until another message of it is refused
abbrev sirens : Intersection
sirens = windowed 1500 (siren ∷ plain ∷ lights ∷ [])

pub confirmed_calls_no_more : replies sirens (send 1 0 1 (Request (ambulance 1 10)) ∷ ask 0 0 1 0 40 ∷ []) ≡ steady 0 10 20 ∷ steady 1 40 50 ∷ []
confirmed_calls_no_more = refl

pub confirmed_still_calls_in_version_three : replies siren_small (send 1 0 1 (Request (ambulance 1 10)) ∷ ask 0 0 1 0 40 ∷ []) ≡ steady 0 10 20 ∷ reject (Emergency 1) 20 None ∷ []
confirmed_still_calls_in_version_three = refl

pub refused_calls : replies sirens (ask 0 0 1 0 10 ∷ send 1 0 1 (Request (ambulance 1 10)) ∷ ask 2 0 1 0 40 ∷ []) ≡ steady 0 10 20 ∷ reject (Taken 1 2 13 0) 5 None ∷ reject (Emergency 1) 20 None ∷ []
refused_calls = refl

pub refused_change_calls_again : replies sirens (send 1 0 1 (Request (ambulance 1 10)) ∷ send 1 0 2 (Change 7 (ambulance 1 12)) ∷ ask 0 0 1 0 40 ∷ []) ≡ steady 0 10 20 ∷ reject NoReservation 0 (Some 0) ∷ reject (Emergency 1) 20 None ∷ []
refused_change_calls_again = refl
