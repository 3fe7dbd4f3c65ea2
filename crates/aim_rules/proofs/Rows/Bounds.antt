-- At the bounds of numbers, and what decides between neighbouring lines of the answer table.
use Rattle.std.proofs.Common.{◌≡◌, ℕ, [], ◌∷◌, List, Some, None, refl, true, false}
use Rattle.std.specs.Prelude.{map, if◌then◌else◌}
use Rattle.aim_messages.specs.declared.messages.Params.{Params}
use Rattle.aim_messages.specs.declared.messages.Body.TheVariants.{Request}
use Rattle.aim_messages.specs.declared.messages.Turn.TheVariants.{Straight, Right}
use Rattle.aim_messages.specs.declared.replies.Field.TheVariants as field
use Rattle.aim_messages.specs.declared.replies.Reason.TheVariants.{Late, Taken, Holds, TooSoon, Distance, NoReservation, Emergency}
use Rattle.aim_messages.specs.declared.replies.Reply.TheVariants.{Stale, Ack}
use Rattle.aim_geometry.specs.Stations.{line, curve, on_line, on_curve}
use Rattle.aim_geometry.specs.Ground.{is_edge, meets}
use Rattle.aim_layout.specs.Intersection.{Intersection}
use Rattle.aim_rules.specs.Motion.{front}
use Rattle.aim_rules.specs.Footprint.{crossing_steps}
use Rattle.aim_rules.specs.Bad.{bad, span_count}
use Rattle.aim_layout.specs.LaneTiles.{in_lane_tiles}
use Rattle.aim_rules.specs.Lights.{lit}
use Rattle.aim_rules.specs.Asking.{next_allowed}
use Rattle.aim_rules.proofs.Rows.{small, siren_small, send, ask, change, cancel, steady, reject, replies, car, ambulance}

-- stations, with the whole part towards minus infinity
pub station_down : on_line 1000 0 3 1 ≡ 666
station_down = refl

pub station_up : on_line 0 4000 40 39 ≡ 3900
station_up = refl

pub curve_half_way : on_curve 0 13500 13500 280 140 ≡ 10125
curve_half_way = refl

pub curve_half_way_up : on_curve 10500 10500 24000 280 140 ≡ 13875
curve_half_way_up = refl

pub curve_first_part : on_curve 0 13500 13500 280 1 ≡ 96
curve_first_part = refl

-- squares are closed: a square that ends at a tile's border touches that tile
abbrev square : ℕ → List ℕ
square half = map (λ i. if meets 1000 half i 1500 then 1 else 0) (0 ∷ 1 ∷ 2 ∷ 3 ∷ [])

pub square_inside : square 450 ≡ 0 ∷ 1 ∷ 0 ∷ 0 ∷ []
square_inside = refl

pub square_touches : square 500 ≡ 1 ∷ 1 ∷ 1 ∷ 0 ∷ []
square_touches = refl

abbrev edges : ℕ → List ℕ
edges row = map (λ col. if is_edge small.grid row col then 1 else 0) (0 ∷ 1 ∷ 2 ∷ 3 ∷ [])

pub edge_rows : (edges 0 ≡ 1 ∷ 1 ∷ 1 ∷ 1 ∷ []) × (edges 1 ≡ 1 ∷ 0 ∷ 0 ∷ 1 ∷ []) × (edges 3 ≡ 1 ∷ 1 ∷ 1 ∷ 1 ∷ [])
edge_rows = (refl, refl, refl)

-- the front of a vehicle that gains 250 from 500 up to 1,000
abbrev sprinter : Params
sprinter = let p = car 0 10 in record p { max_speed = 1000; accel = 250 }

pub fronts : map (front sprinter true) (0 ∷ 1 ∷ 2 ∷ 3 ∷ 4 ∷ 5 ∷ 6 ∷ []) ≡ 0 ∷ 500 ∷ 1250 ∷ 2250 ∷ 3250 ∷ 4250 ∷ 5250 ∷ []
fronts = refl

pub steps_of_both : (crossing_steps small sprinter true ≡ 6) × (crossing_steps small sprinter false ≡ 11)
steps_of_both = (refl, refl)

-- tiles of a lane
abbrev column_of_a_lane : List ℕ
column_of_a_lane = map (λ row. if in_lane_tiles small 0 row 2 then 1 else 0) (0 ∷ 1 ∷ 2 ∷ 3 ∷ [])

pub lane_tiles : column_of_a_lane ≡ 0 ∷ 1 ∷ 0 ∷ 0 ∷ []
lane_tiles = refl

-- phases: red and green end where the next begins
abbrev phases : List ℕ
phases = map (lit (record { red = 2; green = 3; lanes = 1 } ∷ record { red = 1; green = 2; lanes = 6 } ∷ [])) (0 ∷ 1 ∷ 2 ∷ 4 ∷ 5 ∷ 6 ∷ 7 ∷ [])

pub lit_in_turn : phases ≡ 0 ∷ 0 ∷ 1 ∷ 1 ∷ 0 ∷ 6 ∷ 6 ∷ []
lit_in_turn = refl

-- bounds of fields
abbrev with_numbers : ℕ → ℕ → ℕ → ℕ → ℕ → ℕ → Params
with_numbers arrive speed most accel length width =
    record { lane = 0; turn = Straight; arrive = arrive; latest = arrive; speed = speed; max_speed = most; accel = accel; length = length; width = width; emergency = false }

pub greatest_arrival : bad small (car 0 1073741824) ≡ None
greatest_arrival = refl

pub arrival_too_great : bad small (car 0 1073741825) ≡ Some field.Arrive
arrival_too_great = refl

pub speeds : (bad small (with_numbers 9 4000 4000 0 1 1) ≡ None) × (bad small (with_numbers 9 4001 4001 0 1 1) ≡ Some field.Max) × (bad small (with_numbers 9 0 0 0 1 1) ≡ Some field.Max) × (bad small (with_numbers 9 0 9 0 1 1) ≡ Some field.Speed) × (bad small (with_numbers 9 10 9 0 1 1) ≡ Some field.Speed)
speeds = (refl, refl, refl, refl, refl)

pub accelerations : (bad small (with_numbers 9 500 4000 1000 1 1) ≡ None) × (bad small (with_numbers 9 500 4000 1001 1 1) ≡ Some field.Accel)
accelerations = (refl, refl)

pub sizes : (bad small (with_numbers 9 4000 4000 0 30000 30000) ≡ None) × (bad small (with_numbers 9 500 500 0 0 1) ≡ Some field.Length) × (bad small (with_numbers 9 500 500 0 30001 1) ≡ Some field.Length) × (bad small (with_numbers 9 500 500 0 1 0) ≡ Some field.Width) × (bad small (with_numbers 9 500 500 0 1 30001) ≡ Some field.Width)
sizes = (refl, refl, refl, refl, refl)

-- one step more than a crossing may have
pub steps_too_many : bad small (with_numbers 9 2 2 0 96 700) ≡ Some field.Steps
steps_too_many = refl

-- a pair of a step and a row for each step and row that it covers
pub spans_of_a_crossing : (span_count small (car 0 10) false ≡ 11) × (span_count small (car 1 10) false ≡ 23)
spans_of_a_crossing = (refl, refl)

abbrev cramped : ℕ → Intersection
cramped spans = record small { grid = record { side = 4000; n = 4; spacing = 100; fixed = 0; half = 450; spans = spans } }

pub spans_too_many : (bad (cramped 11) (car 0 10) ≡ None) × (bad (cramped 10) (car 0 10) ≡ Some field.Spans)
spans_too_many = (refl, refl)

-- at the greatest moment
pub latest_arrival : replies small (ask 0 1073741823 1 0 1073741824 ∷ ask 1 1073741824 1 1 1073741824 ∷ []) ≡ steady 0 1073741824 1073741834 ∷ reject (Late 1073741824) 1073741825 None ∷ []
latest_arrival = refl

pub greatest_number_then_stale : replies small (ask 0 0 4294967295 0 10 ∷ cancel 0 0 1 0 ∷ []) ≡ steady 0 10 20 ∷ Stale 4294967295 ∷ []
greatest_number_then_stale = refl

-- a curve of fifty parts
abbrev curved : Intersection
curved = record small { lanes = record { left = None; straight = Some (line 0 1500 4000 1500 40); right = Some (curve 0 1500 2500 1500 2500 0 50) } ∷ [] }

pub round_a_curve : replies curved (send 0 0 1 (Request (let p = car 0 10 in record p { turn = Right })) ∷ []) ≡ steady 0 10 22 ∷ []
round_a_curve = refl

-- the next allowed time: half of the way to the arrival, at least a step, at most the longest wait
pub next_times : (next_allowed 10 10 25 ≡ 11) × (next_allowed 10 13 25 ≡ 11) × (next_allowed 10 14 25 ≡ 12) × (next_allowed 10 61 25 ≡ 35) × (next_allowed 10 5 25 ≡ 11)
next_times = (refl, refl, refl, refl, refl)

-- too soon until the step before the one that the refusal named, and not from that step on
pub in_time_again : replies small (ask 0 0 1 0 10 ∷ ask 1 3 1 1 10 ∷ ask 1 6 2 1 13 ∷ []) ≡ steady 0 10 20 ∷ reject (Taken 1 2 13 0) 6 None ∷ reject (Taken 1 2 14 0) 9 None ∷ []
in_time_again = refl

-- a later Confirm doesn't reset the time at which a vehicle may ask
pub standing_next_stays : replies small (ask 0 0 1 0 10 ∷ ask 1 3 1 1 10 ∷ ask 1 11 2 1 18 ∷ cancel 1 11 3 2 ∷ change 1 11 4 2 1 40 ∷ []) ≡ steady 0 10 20 ∷ reject (Taken 1 2 13 0) 6 None ∷ steady 2 18 28 ∷ Ack 2 ∷ reject NoReservation 6 None ∷ []
standing_next_stays = refl

-- a change of a reservation that begins in the next step, and of one that begins now
pub change_before_it_begins : replies small (ask 0 0 1 0 10 ∷ change 0 9 2 0 0 40 ∷ []) ≡ steady 0 10 20 ∷ steady 1 40 50 ∷ []
change_before_it_begins = refl

-- a reservation is held up to the last step of its cells
pub held_to_the_last_step : replies small (ask 0 0 1 0 10 ∷ ask 0 20 2 0 40 ∷ ask 0 21 3 0 40 ∷ []) ≡ steady 0 10 20 ∷ reject (Holds 0) 0 (Some 0) ∷ steady 2 40 50 ∷ []
held_to_the_last_step = refl

-- a repeat of a message is none, whatever it would be answered now
pub repeat_after_cancel : replies small (ask 0 0 1 0 10 ∷ cancel 0 1 2 0 ∷ ask 0 2 1 0 10 ∷ cancel 0 3 2 0 ∷ ask 1 3 1 1 10 ∷ []) ≡ steady 0 10 20 ∷ Ack 0 ∷ Stale 2 ∷ Ack 0 ∷ steady 4 10 20 ∷ []
repeat_after_cancel = refl

-- a cancel of another id gives nothing up
pub cancel_of_another : replies small (ask 0 0 1 0 10 ∷ cancel 0 1 2 7 ∷ ask 0 2 3 0 40 ∷ []) ≡ steady 0 10 20 ∷ Ack 7 ∷ reject (Holds 0) 0 (Some 0) ∷ []
cancel_of_another = refl

-- exactly at the lane's distance
pub at_the_distance : replies small (ask 0 0 1 0 10 ∷ ask 1 0 1 1 10 ∷ ask 2 0 1 1 10 ∷ ask 2 5 2 1 15 ∷ ask 3 5 1 1 16 ∷ []) ≡ steady 0 10 20 ∷ reject (Taken 1 2 13 0) 5 None ∷ reject (Taken 1 2 13 0) 5 None ∷ reject (Taken 1 2 16 0) 10 None ∷ reject (Distance 5000) 10 None ∷ []
at_the_distance = refl

-- the least distance of those that were refused counts
pub least_distance : replies small (ask 0 0 1 0 10 ∷ ask 1 0 1 1 10 ∷ ask 2 4 1 1 10 ∷ ask 3 4 1 1 11 ∷ []) ≡ steady 0 10 20 ∷ reject (Taken 1 2 13 0) 5 None ∷ reject (Taken 1 2 13 0) 7 None ∷ reject (Distance 3000) 7 None ∷ []
least_distance = refl

-- an emergency is approaching until its arrival and the horizon are past
pub emergency_that_is_past : replies (record siren_small { times = record { horizon = 30; longest = 25; clearance = 20; early = 0; late = 0; edge = 0; window = 0 } }) (send 1 0 1 (Request (ambulance 1 5)) ∷ ask 0 35 1 0 40 ∷ ask 0 36 2 0 40 ∷ []) ≡ steady 0 5 15 ∷ reject (Emergency 1) 37 None ∷ reject (TooSoon 37) 37 None ∷ []
emergency_that_is_past = refl

pub emergency_that_is_long_past : replies (record siren_small { times = record { horizon = 30; longest = 25; clearance = 20; early = 0; late = 0; edge = 0; window = 0 } }) (send 1 0 1 (Request (ambulance 1 5)) ∷ ask 0 36 1 0 40 ∷ []) ≡ steady 0 5 15 ∷ steady 1 40 50 ∷ []
emergency_that_is_long_past = refl

-- it is approaching from its own call on, though it is refused; after another message of its own it is no more
pub emergency_until_it_says_otherwise : replies siren_small (send 1 0 1 (Request (ambulance 1 0)) ∷ ask 0 0 1 0 10 ∷ cancel 1 1 2 9 ∷ ask 2 1 1 0 40 ∷ []) ≡ reject (Late 0) 1 None ∷ reject (Emergency 1) 5 None ∷ Ack 9 ∷ steady 3 40 50 ∷ []
emergency_until_it_says_otherwise = refl
