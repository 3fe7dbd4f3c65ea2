-- Worked scripts, from bytes to bytes.
use Rattle.std.proofs.Common.{◌≡◌, ℕ, [], ◌++◌, List, refl, None, Some}
use Rattle.std.specs.Prelude.{codes, replicate}
use Rattle.std.specs.Fmt.{digits}
use Rattle.aim_io.specs.Lines.{outcomes_from}
use Rattle.aim_script.specs.Said.{layout_of}
use Rattle.aim_replay_command.specs.Texts.{replay_text, replay_status}

abbrev small : List ℕ
small = codes "aim 1\ngrid 4000 4 100 0 450 4096\ntimes 1500 25 20 0 0\nlanes 2\nmove 0 straight line 0 1500 4000 1500 40\nmove 1 straight line 2500 0 2500 4000 40\npolicy plain fcfs\npolicy lights light\nphase 20 80 0\nphase 20 80 1\npolicy siren emerg\nvehicles 8\nbegin\n"

pub empty : replay_text None [] ≡ codes "bad line 1 end\n"
unfolding digits outcomes_from layout_of
empty = refl

pub first_confirm : replay_text None (small ++ codes "0 0 request 1 0 straight 10 500 500 0 1000 700 car\nend\n") ≡ codes "0 0 0 request 1 0 straight 10 500 500 0 1000 700 car -> confirm 0 10 0 0 steady 20\nend 1\n"
unfolding digits outcomes_from layout_of
first_confirm = refl

pub first_confirm_is_whole : replay_status (small ++ codes "0 0 request 1 0 straight 10 500 500 0 1000 700 car\nend\n") ≡ 0
unfolding digits outcomes_from layout_of
first_confirm_is_whole = refl

pub cut_inside_a_line : replay_text None (small ++ codes "0 0 request 1 0 straight 10 500 500 0 1000 700 car\n1 0 requ") ≡ codes "0 0 0 request 1 0 straight 10 500 500 0 1000 700 car -> confirm 0 10 0 0 steady 20\nbad line 15 words\n"
unfolding digits outcomes_from layout_of
cut_inside_a_line = refl

pub without_its_end : replay_text None (small ++ codes "0 0 request 1 0 straight 10 500 500 0 1000 700 car") ≡ codes "0 0 0 request 1 0 straight 10 500 500 0 1000 700 car -> confirm 0 10 0 0 steady 20\nbad line 15 end\n"
unfolding digits outcomes_from layout_of
without_its_end = refl

pub rows_that_do_not_divide_the_side : replay_text None (codes "aim 1\ngrid 4000 3 100 0 450 4096\n") ≡ codes "bad line 2 grid\n"
unfolding digits outcomes_from layout_of
rows_that_do_not_divide_the_side = refl

pub stations_too_far_apart : replay_text None (codes "aim 1\ngrid 4000 4 100 0 450 4096\ntimes 1500 25 20 0 0\nlanes 2\nmove 0 straight line 0 1500 4000 1500 39\n") ≡ codes "bad line 5 spacing\n"
unfolding digits outcomes_from layout_of
stations_too_far_apart = refl

pub lanes_of_a_phase_that_share_a_tile : replay_text None (codes "aim 1\ngrid 4000 4 100 0 450 4096\ntimes 1500 25 20 0 0\nlanes 2\nmove 0 straight line 0 1500 4000 1500 40\nmove 1 straight line 2500 0 2500 4000 40\npolicy plain fcfs\npolicy lights light\nphase 20 80 0 1\n") ≡ codes "bad line 9 phase\n"
unfolding digits outcomes_from layout_of
lanes_of_a_phase_that_share_a_tile = refl

pub red_below_the_clearance : replay_text None (codes "aim 1\ngrid 4000 4 100 0 450 4096\ntimes 1500 25 20 0 0\nlanes 2\nmove 0 straight line 0 1500 4000 1500 40\nmove 1 straight line 2500 0 2500 4000 40\npolicy plain fcfs\npolicy lights light\nphase 19 80 0\n") ≡ codes "bad line 9 phase\n"
unfolding digits outcomes_from layout_of
red_below_the_clearance = refl

pub chart_of_a_crossing : replay_text (Some 15) (small ++ codes "0 0 request 1 0 straight 10 500 500 0 1000 700 car\nend\n") ≡ codes "0 0 0 request 1 0 straight 10 500 500 0 1000 700 car -> confirm 0 10 0 0 steady 20\n....\n....\n.###\n....\nend 1\n"
unfolding digits outcomes_from layout_of
chart_of_a_crossing = refl

abbrev fleet : List ℕ → List ℕ
fleet n = codes "aim 1\ngrid 4000 4 100 0 450 4096\ntimes 1500 25 20 0 0\nlanes 2\nmove 0 straight line 0 1500 4000 1500 40\npolicy plain fcfs\nvehicles " ++ n ++ codes "\n"

pub too_many_vehicles : replay_text None (fleet (codes "65537")) ≡ codes "limit vehicles\n"
unfolding digits outcomes_from layout_of
too_many_vehicles = refl

pub too_many_sheets : replay_text None (fleet (codes "8192")) ≡ codes "limit sheets\n"
unfolding digits outcomes_from layout_of
too_many_sheets = refl

pub as_many_sheets_as_allowed : replay_text None (fleet (codes "4096") ++ codes "begin\nend\n") ≡ codes "end 0\n"
unfolding digits outcomes_from layout_of
as_many_sheets_as_allowed = refl

-- the bytes of a script behind the header of the small crossing, and what their replay prints
abbrev replayed : List ℕ → List ℕ
replayed body = replay_text None (small ++ body)

pub an_empty_line : replayed (codes "\n") ≡ codes "bad line 14 unknown\n"
unfolding digits outcomes_from layout_of
an_empty_line = refl

pub a_leading_zero : replayed (codes "00 0 cancel 1 0\n") ≡ codes "bad line 14 number\n"
unfolding digits outcomes_from layout_of
a_leading_zero = refl

pub a_number_too_great : replayed (codes "0 4294967296 cancel 1 0\n") ≡ codes "bad line 14 range\n"
unfolding digits outcomes_from layout_of
a_number_too_great = refl

pub a_vehicle_before_a_moment : replayed (codes "8 1073741825 cancel 1 0\n") ≡ codes "bad line 14 vehicle\n"
unfolding digits outcomes_from layout_of
a_vehicle_before_a_moment = refl

pub a_moment_too_late : replayed (codes "0 1073741825 cancel 1 0\n") ≡ codes "bad line 14 moment\n"
unfolding digits outcomes_from layout_of
a_moment_too_late = refl

pub the_latest_moment : replayed (codes "0 1073741824 cancel 1 7\nend") ≡ codes "0 0 1073741824 cancel 1 7 -> ack 7\nend 1\n"
unfolding digits outcomes_from layout_of
the_latest_moment = refl

pub two_spaces : replayed (codes "0  0 cancel 1 0\n") ≡ codes "bad line 14 words\n"
unfolding digits outcomes_from layout_of
two_spaces = refl

pub a_switch_to_an_unknown_name : replayed (codes "operator 1073741825 switch nobody\n") ≡ codes "bad line 14 policy\n"
unfolding digits outcomes_from layout_of
a_switch_to_an_unknown_name = refl

pub a_form_of_a_drive : replayed (codes "until 40\n") ≡ codes "bad line 14 order\n"
unfolding digits outcomes_from layout_of
a_form_of_a_drive = refl

pub a_line_behind_the_end : replayed (codes "end\nend\n") ≡ codes "bad line 15 order\n"
unfolding digits outcomes_from layout_of
a_line_behind_the_end = refl

pub no_line_behind_the_end : replayed (codes "end\nnothing\n") ≡ codes "bad line 15 unknown\n"
unfolding digits outcomes_from layout_of
no_line_behind_the_end = refl

pub an_arrival_too_late : replayed (codes "0 0 request 1 0 straight 1073741825 500 500 0 1000 700 car\nend") ≡ codes "0 0 0 request 1 0 straight 1073741825 500 500 0 1000 700 car -> reject bad arrive next 25 held none\nend 1\n"
unfolding digits outcomes_from layout_of
an_arrival_too_late = refl

pub a_line_too_long : replayed (codes "0 0 request 1 0 straight 10 500 500 0 1000 700 car\n" ++ replicate 401 97) ≡ codes "0 0 0 request 1 0 straight 10 500 500 0 1000 700 car -> confirm 0 10 0 0 steady 20\nbad line 15 long\n"
unfolding digits outcomes_from layout_of
a_line_too_long = refl

pub a_second_begin : replayed (codes "begin\n") ≡ codes "bad line 14 order\n"
unfolding digits outcomes_from layout_of
a_second_begin = refl

pub cut_inside_the_end : replayed (codes "0 0 request 1 0 straight 10 500 500 0 1000 700 car\nen") ≡ codes "0 0 0 request 1 0 straight 10 500 500 0 1000 700 car -> confirm 0 10 0 0 steady 20\nbad line 15 unknown\n"
unfolding digits outcomes_from layout_of
cut_inside_the_end = refl

pub cut_behind_the_end : replayed (codes "0 0 request 1 0 straight 10 500 500 0 1000 700 car\nend") ≡ codes "0 0 0 request 1 0 straight 10 500 500 0 1000 700 car -> confirm 0 10 0 0 steady 20\nend 1\n"
unfolding digits outcomes_from layout_of
cut_behind_the_end = refl

pub cut_inside_a_word : replayed (codes "0 0 request 1 0 straight 10 500 500 0 1000 700 c") ≡ codes "bad line 14 words\n"
unfolding digits outcomes_from layout_of
cut_inside_a_word = refl

pub a_stop_and_a_switch : replayed (codes "operator 5 switch lights\noperator 6 stop\n0 6 request 1 0 straight 10 500 500 0 1000 700 car\nend") ≡ codes "0 operator 5 switch 1 -> switched 1505\n1 operator 6 stop -> stopped\n2 0 6 request 1 0 straight 10 500 500 0 1000 700 car -> emergency-stop\nend 3\n"
unfolding digits outcomes_from layout_of
a_stop_and_a_switch = refl

pub version_five : replay_text None (codes "aim 5\n") ≡ codes "bad line 1 version\n"
unfolding digits outcomes_from layout_of
version_five = refl

pub version_nought : replay_text None (codes "aim 0\n") ≡ codes "bad line 1 version\n"
unfolding digits outcomes_from layout_of
version_nought = refl

pub a_window_wider_than_the_edge : replay_text None (codes "aim 2\ngrid 4000 4 100 0 450 4096\ntimes 1500 25 20 5 3 4\nlanes 2\nmove 0 straight line 0 1500 4000 1500 40\nmove 1 straight line 2500 0 2500 4000 40\n") ≡ codes "bad line 3 buffers\n"
unfolding digits outcomes_from layout_of
a_window_wider_than_the_edge = refl

pub five_times_in_version_two : replay_text None (codes "aim 2\ngrid 4000 4 100 0 450 4096\ntimes 1500 25 20 0 0\nlanes 2\nmove 0 straight line 0 1500 4000 1500 40\nmove 1 straight line 2500 0 2500 4000 40\n") ≡ codes "bad line 3 words\n"
unfolding digits outcomes_from layout_of
five_times_in_version_two = refl

pub six_times_in_version_one : replay_text None (codes "aim 1\ngrid 4000 4 100 0 450 4096\ntimes 1500 25 20 1 3 4\nlanes 2\nmove 0 straight line 0 1500 4000 1500 40\nmove 1 straight line 2500 0 2500 4000 40\n") ≡ codes "bad line 3 words\n"
unfolding digits outcomes_from layout_of
six_times_in_version_one = refl

pub a_buffer_wider_than_the_edge : replay_text None (codes "aim 1\ngrid 4000 4 100 0 450 4096\ntimes 1500 25 20 3 2\nlanes 2\nmove 0 straight line 0 1500 4000 1500 40\nmove 1 straight line 2500 0 2500 4000 40\n") ≡ codes "bad line 3 buffers\n"
unfolding digits outcomes_from layout_of
a_buffer_wider_than_the_edge = refl

pub a_horizon_too_far : replay_text None (codes "aim 1\ngrid 4000 4 100 0 450 4096\ntimes 8193 25 20 0 0\nlanes 2\nmove 0 straight line 0 1500 4000 1500 40\nmove 1 straight line 2500 0 2500 4000 40\n") ≡ codes "bad line 3 times\n"
unfolding digits outcomes_from layout_of
a_horizon_too_far = refl

pub two_windows : replay_text None (codes "aim 2\ngrid 4000 4 100 0 450 4096\ntimes 1500 25 20 1 3 4\nlanes 2\nmove 0 straight line 0 1500 4000 1500 40\nmove 1 straight line 2500 0 2500 4000 40\npolicy plain fcfs\nvehicles 8\nbegin\n0 0 request 1 0 straight 10 500 500 0 1000 700 car\n1 0 request 1 1 straight 22 500 500 0 1000 700 car\nend\n") ≡ codes "0 0 0 request 1 0 straight 10 500 500 0 1000 700 car -> confirm 0 10 1 3 steady 20\n1 1 0 request 1 1 straight 22 500 500 0 1000 700 car -> confirm 1 22 1 3 steady 32\nend 2\n"
unfolding digits outcomes_from layout_of
two_windows = refl

pub lights_that_give_way_in_version_two : replay_text None (codes "aim 2\ngrid 4000 4 100 0 450 4096\ntimes 1500 25 20 0 0 0\nlanes 2\nmove 0 straight line 0 1500 4000 1500 40\nmove 1 straight line 2500 0 2500 4000 40\npolicy both light-emerg\n") ≡ codes "bad line 7 words\n"
unfolding digits outcomes_from layout_of
lights_that_give_way_in_version_two = refl

pub lights_that_give_way : replay_text None (codes "aim 3\ngrid 4000 4 100 0 450 4096\ntimes 1500 25 20 0 0 0\nlanes 2\nmove 0 straight line 0 1500 4000 1500 40\nmove 1 straight line 2500 0 2500 4000 40\npolicy both light-emerg\nphase 20 80 0\nphase 20 80 1\nvehicles 8\nbegin\n2 16 request 1 1 straight 30 500 500 0 1000 700 car\nend\n") ≡ codes "0 2 16 request 1 1 straight 30 500 500 0 1000 700 car -> reject green 1 2 31 0 next 23 held none\nend 1\n"
unfolding digits outcomes_from layout_of
lights_that_give_way = refl

pub no_policy : replay_text None (codes "aim 1\ngrid 4000 4 100 0 450 4096\ntimes 1500 25 20 0 0\nlanes 2\nmove 0 straight line 0 1500 4000 1500 40\nmove 1 straight line 2500 0 2500 4000 40\nvehicles 0\n") ≡ codes "bad line 7 phase\n"
unfolding digits outcomes_from layout_of
no_policy = refl

pub no_vehicles : replay_text None (codes "aim 1\ngrid 4000 4 100 0 450 4096\ntimes 1500 25 20 0 0\nlanes 2\nmove 0 straight line 0 1500 4000 1500 40\nmove 1 straight line 2500 0 2500 4000 40\npolicy plain fcfs\nvehicles 0\n") ≡ codes "bad line 8 vehicle\n"
unfolding digits outcomes_from layout_of
no_vehicles = refl

pub a_name_twice : replay_text None (codes "aim 1\ngrid 4000 4 100 0 450 4096\ntimes 1500 25 20 0 0\nlanes 2\nmove 0 straight line 0 1500 4000 1500 40\nmove 1 straight line 2500 0 2500 4000 40\npolicy plain light\npolicy plain fcfs\n") ≡ codes "bad line 8 policy\n"
unfolding digits outcomes_from layout_of
a_name_twice = refl

pub lights_without_a_phase : replay_text None (codes "aim 1\ngrid 4000 4 100 0 450 4096\ntimes 1500 25 20 0 0\nlanes 2\nmove 0 straight line 0 1500 4000 1500 40\nmove 1 straight line 2500 0 2500 4000 40\npolicy a light\npolicy b fcfs\n") ≡ codes "bad line 8 phase\n"
unfolding digits outcomes_from layout_of
lights_without_a_phase = refl

pub a_phase_before_a_policy : replay_text None (codes "aim 1\ngrid 4000 4 100 0 450 4096\ntimes 1500 25 20 0 0\nlanes 2\nmove 0 straight line 0 1500 4000 1500 40\nmove 1 straight line 2500 0 2500 4000 40\nphase 20 80 0\n") ≡ codes "bad line 7 order\n"
unfolding digits outcomes_from layout_of
a_phase_before_a_policy = refl

pub a_phase_without_lights : replay_text None (codes "aim 1\ngrid 4000 4 100 0 450 4096\ntimes 1500 25 20 0 0\nlanes 2\nmove 0 straight line 0 1500 4000 1500 40\nmove 1 straight line 2500 0 2500 4000 40\npolicy plain fcfs\nphase 20 80 0\n") ≡ codes "bad line 8 phase\n"
unfolding digits outcomes_from layout_of
a_phase_without_lights = refl

pub a_lane_that_is_not_there : replay_text None (codes "aim 1\ngrid 4000 4 100 0 450 4096\ntimes 1500 25 20 0 0\nlanes 2\nmove 0 straight line 0 1500 4000 1500 40\nmove 1 straight line 2500 0 2500 4000 40\nmove 2 left line 0 1500 4000 1500 40\n") ≡ codes "bad line 7 move\n"
unfolding digits outcomes_from layout_of
a_lane_that_is_not_there = refl

pub a_turn_twice : replay_text None (codes "aim 1\ngrid 4000 4 100 0 450 4096\ntimes 1500 25 20 0 0\nlanes 2\nmove 0 straight line 0 1500 4000 1500 40\nmove 1 straight line 2500 0 2500 4000 40\nmove 0 straight line 0 1500 4000 1500 40\n") ≡ codes "bad line 7 move\n"
unfolding digits outcomes_from layout_of
a_turn_twice = refl

pub seventeen_lanes : replay_text None (codes "aim 1\ngrid 4000 4 100 0 450 4096\ntimes 1500 25 20 0 0\nlanes 17\n") ≡ codes "bad line 4 lane\n"
unfolding digits outcomes_from layout_of
seventeen_lanes = refl

pub a_curve_of_too_few_parts : replay_text None (codes "aim 1\ngrid 4000 4 100 0 450 4096\ntimes 1500 25 20 0 0\nlanes 2\nmove 0 straight line 0 1500 4000 1500 40\nmove 1 straight line 2500 0 2500 4000 40\nmove 0 right curve 0 1500 2500 1500 2500 0 40\n") ≡ codes "bad line 7 spacing\n"
unfolding digits outcomes_from layout_of
a_curve_of_too_few_parts = refl

-- of two refusals the later one says when the vehicle may ask again
pub the_last_refusal_counts : replayed (codes "0 0 request 1 0 straight 10 500 500 0 1000 700 car\n1 3 request 1 1 straight 10 500 500 0 1000 700 car\n1 6 request 2 1 straight 13 500 500 0 1000 700 car\n1 8 request 3 1 straight 18 500 500 0 1000 700 car\nend") ≡ codes "0 0 0 request 1 0 straight 10 500 500 0 1000 700 car -> confirm 0 10 0 0 steady 20\n1 1 3 request 1 1 straight 10 500 500 0 1000 700 car -> reject taken 1 2 13 0 next 6 held none\n2 1 6 request 2 1 straight 13 500 500 0 1000 700 car -> reject taken 1 2 14 0 next 9 held none\n3 1 8 request 3 1 straight 18 500 500 0 1000 700 car -> reject too-soon 9 next 9 held none\nend 4\n"
unfolding digits outcomes_from layout_of
the_last_refusal_counts = refl

-- at the greatest moment holding is judged, and marked
pub chart_at_the_greatest_moment : replay_text (Some 12) (small ++ codes "0 0 request 1 0 straight 10 500 500 0 1000 700 car\n1 12 cancel 1 0\nend") ≡ codes "0 0 0 request 1 0 straight 10 500 500 0 1000 700 car -> confirm 0 10 0 0 steady 20\n1 1 12 cancel 1 0 -> ack 0\n....\n....\n##..\n....\nend 2\n"
unfolding digits outcomes_from layout_of
chart_at_the_greatest_moment = refl

pub chart_of_a_step_that_is_past : replay_text (Some 11) (small ++ codes "0 0 request 1 0 straight 10 500 500 0 1000 700 car\n1 12 cancel 1 0\nend") ≡ codes "0 0 0 request 1 0 straight 10 500 500 0 1000 700 car -> confirm 0 10 0 0 steady 20\n1 1 12 cancel 1 0 -> ack 0\n....\n....\n....\n....\nend 2\n"
unfolding digits outcomes_from layout_of
chart_of_a_step_that_is_past = refl

pub too_many_sheets_by_one : replay_text None (fleet (codes "4097")) ≡ codes "limit sheets\n"
unfolding digits outcomes_from layout_of
too_many_sheets_by_one = refl

pub as_many_vehicles_as_allowed : replay_text None (fleet (codes "65536")) ≡ codes "limit sheets\n"
unfolding digits outcomes_from layout_of
as_many_vehicles_as_allowed = refl

-- a vehicle at its greatest speed has no fast trial
pub no_fast_trial_at_the_greatest_speed : replayed (codes "0 0 request 1 0 straight 10 500 500 100 1000 700 car\nend") ≡ codes "0 0 0 request 1 0 straight 10 500 500 100 1000 700 car -> confirm 0 10 0 0 steady 20\nend 1\n"
unfolding digits outcomes_from layout_of
no_fast_trial_at_the_greatest_speed = refl

-- a lane claims its tiles from its first green step on
pub the_first_green_step : replayed (codes "operator 5 switch lights\n1 100 request 1 1 straight 1519 500 500 0 1000 700 car\n2 100 request 1 1 straight 1518 500 500 0 1000 700 car\nend") ≡ codes "0 operator 5 switch 1 -> switched 1505\n1 1 100 request 1 1 straight 1519 500 500 0 1000 700 car -> reject green 1 2 1525 0 next 125 held none\n2 2 100 request 1 1 straight 1518 500 500 0 1000 700 car -> confirm 2 1518 0 0 steady 1528\nend 3\n"
unfolding digits outcomes_from layout_of
the_first_green_step = refl

-- an emergency makes its own lane approached, with the call at hand
pub an_emergency_beside_another : replay_text None (codes "aim 1\ngrid 4000 4 100 0 450 4096\ntimes 1500 25 20 0 0\nlanes 2\nmove 0 straight line 0 1500 4000 1500 40\nmove 1 straight line 2500 0 2500 4000 40\npolicy siren emerg\nvehicles 8\nbegin\n1 0 request 1 1 straight 10 500 500 0 1000 700 emergency\n2 0 request 1 0 straight 40 500 500 0 1000 700 emergency\nend") ≡ codes "0 1 0 request 1 1 straight 10 500 500 0 1000 700 emergency -> confirm 0 10 0 0 steady 20\n1 2 0 request 1 0 straight 40 500 500 0 1000 700 emergency -> confirm 1 40 0 0 steady 50\nend 2\n"
unfolding digits outcomes_from layout_of
an_emergency_beside_another = refl

-- a number used again is told with the standing time, which is 0 where nothing was refused
pub a_number_used_again_later : replayed (codes "0 0 request 1 0 straight 10 500 500 0 1000 700 car\n0 3 request 1 0 straight 12 500 500 0 1000 700 car\nend") ≡ codes "0 0 0 request 1 0 straight 10 500 500 0 1000 700 car -> confirm 0 10 0 0 steady 20\n1 0 3 request 1 0 straight 12 500 500 0 1000 700 car -> reject reused 1 next 0 held 0\nend 2\n"
unfolding digits outcomes_from layout_of
a_number_used_again_later = refl
