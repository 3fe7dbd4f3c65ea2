-- Worked rows: how many spans a message asks for.
use Rattle.std.proofs.Common.{◌≡◌, Some, None, [], ◌∷◌, refl}
use Rattle.aim_messages.specs.declared.messages.Params.{Params}
use Rattle.aim_layout.specs.Intersection.{Intersection}
use Rattle.aim_rules.proofs.Rows.{car, crossing_of, plain, small}
use Rattle.aim_book.specs.Costs.{asked_spans, starts_tried}

abbrev sprinter : Params
sprinter = let p = car 0 10 in record p { max_speed = 1000; accel = 250 }

abbrev thin : Params
thin = let p = car 0 10 in record p { width = 0 }

pub asks_for_nothing : asked_spans small None ≡ 0
asks_for_nothing = refl

pub asks_for_the_steady_trial : asked_spans small (Some (car 0 10)) ≡ 11
asks_for_the_steady_trial = refl

-- 11 of the steady trial, and 6 of the fast one
pub asks_for_both_trials : asked_spans small (Some sprinter) ≡ 17
asks_for_both_trials = refl

pub asks_with_a_wrong_field : asked_spans small (Some thin) ≡ 0
asks_with_a_wrong_field = refl

abbrev windowed : Intersection
windowed = crossing_of 4 (record { horizon = 1500; longest = 25; clearance = 20; early = 0; late = 0; edge = 0; window = 20 }) (plain ∷ [])

abbrev waiting : Params
waiting = let p = car 0 10 in record p { latest = 12 }

-- the 11 of the one trial at each of three starts
pub asks_at_each_start : asked_spans windowed (Some waiting) ≡ 33
asks_at_each_start = refl

abbrev sprinting : Params
sprinting = let p = car 0 10 in record p { latest = 11; max_speed = 1000; accel = 250 }

-- the 6 of the fast trial alone at each of two
pub asks_for_the_one_trial : asked_spans windowed (Some sprinting) ≡ 12
asks_for_the_one_trial = refl

abbrev short : Intersection
short = crossing_of 4 (record { horizon = 30; longest = 25; clearance = 20; early = 0; late = 0; edge = 0; window = 20 }) (plain ∷ [])

abbrev patient : Params
patient = let p = car 0 10 in record p { latest = 50 }

-- of 41 starts those that lie up to 30 steps behind the first
pub tries_no_start_past_the_horizon : starts_tried short (Some patient) ≡ 31
tries_no_start_past_the_horizon = refl
