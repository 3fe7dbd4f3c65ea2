-- Further worked scripts, from bytes to bytes: each tells a definition from one that is changed in one place.
use Rattle.std.proofs.Common.{◌≡◌, ◌++◌, List, ℕ, refl, None, Some}
use Rattle.std.specs.Prelude.{codes}
use Rattle.std.specs.Fmt.{digits}
use Rattle.aim_io.specs.Lines.{outcomes_from}
use Rattle.aim_script.specs.Said.{layout_of}
use Rattle.aim_replay_command.specs.Texts.{replay_text}

abbrev small : List ℕ
small = codes "aim 1\ngrid 4000 4 100 0 450 4096\ntimes 1500 25 20 0 0\nlanes 2\nmove 0 straight line 0 1500 4000 1500 40\nmove 1 straight line 2500 0 2500 4000 40\npolicy plain fcfs\npolicy lights light\nphase 20 80 0\nphase 20 80 1\npolicy siren emerg\nvehicles 8\nbegin\n"

-- a cancel that came before the reservation that it names doesn't give it up
pub a_cancel_before_its_confirm : replay_text None (small ++ codes "0 0 cancel 1 1\n0 0 request 2 0 straight 10 500 500 0 1000 700 car\n0 1 request 3 0 straight 40 500 500 0 1000 700 car\nend") ≡ codes "0 0 0 cancel 1 1 -> ack 1\n1 0 0 request 2 0 straight 10 500 500 0 1000 700 car -> confirm 1 10 0 0 steady 20\n2 0 1 request 3 0 straight 40 500 500 0 1000 700 car -> reject holds 1 next 0 held 1\nend 3\n"
unfolding digits outcomes_from layout_of
a_cancel_before_its_confirm = refl

-- the phases go round for ever
pub the_second_round_of_the_lights : replay_text None (small ++ codes "operator 0 switch lights\n1 300 request 1 1 straight 1730 500 500 0 1000 700 car\n2 300 request 1 0 straight 1730 500 500 0 1000 700 car\nend") ≡ codes "0 operator 0 switch 1 -> switched 1500\n1 1 300 request 1 1 straight 1730 500 500 0 1000 700 car -> reject green 1 2 1731 0 next 325 held none\n2 2 300 request 1 0 straight 1730 500 500 0 1000 700 car -> confirm 2 1730 0 0 steady 1740\nend 3\n"
unfolding digits outcomes_from layout_of
the_second_round_of_the_lights = refl

-- a grant in another lane leaves a lane's distance
pub a_distance_stays_when_another_lane_is_granted : replay_text None (small ++ codes "0 0 request 1 0 straight 10 500 500 0 1000 700 car\n1 0 request 1 1 straight 10 500 500 0 1000 700 car\n2 0 request 1 0 straight 40 500 500 0 1000 700 car\n3 0 request 1 1 straight 60 500 500 0 1000 700 car\nend") ≡ codes "0 0 0 request 1 0 straight 10 500 500 0 1000 700 car -> confirm 0 10 0 0 steady 20\n1 1 0 request 1 1 straight 10 500 500 0 1000 700 car -> reject taken 1 2 13 0 next 5 held none\n2 2 0 request 1 0 straight 40 500 500 0 1000 700 car -> confirm 2 40 0 0 steady 50\n3 3 0 request 1 1 straight 60 500 500 0 1000 700 car -> reject distance 5000 next 25 held none\nend 4\n"
unfolding digits outcomes_from layout_of
a_distance_stays_when_another_lane_is_granted = refl

-- a refusal for a green lane counts as a distance
pub a_refusal_for_a_green_lane_is_a_distance : replay_text None (small ++ codes "operator 5 switch lights\n1 100 request 1 1 straight 1530 500 500 0 1000 700 car\n2 100 request 1 1 straight 1540 500 500 0 1000 700 car\nend") ≡ codes "0 operator 5 switch 1 -> switched 1505\n1 1 100 request 1 1 straight 1530 500 500 0 1000 700 car -> reject green 1 2 1531 0 next 125 held none\n2 2 100 request 1 1 straight 1540 500 500 0 1000 700 car -> reject distance 715000 next 125 held none\nend 3\n"
unfolding digits outcomes_from layout_of
a_refusal_for_a_green_lane_is_a_distance = refl

-- an emergency with a wrong field makes no lane approached
pub an_emergency_that_is_refused_for_a_field : replay_text None (codes "aim 1\ngrid 4000 4 100 0 450 4096\ntimes 1500 25 20 0 0\nlanes 2\nmove 0 straight line 0 1500 4000 1500 40\nmove 1 straight line 2500 0 2500 4000 40\npolicy siren emerg\nvehicles 8\nbegin\n1 0 request 1 1 straight 10 600 500 0 1000 700 emergency\n0 0 request 1 0 straight 40 500 500 0 1000 700 car\nend") ≡ codes "0 1 0 request 1 1 straight 10 600 500 0 1000 700 emergency -> reject bad speed next 5 held none\n1 0 0 request 1 0 straight 40 500 500 0 1000 700 car -> confirm 1 40 0 0 steady 50\nend 2\n"
unfolding digits outcomes_from layout_of
an_emergency_that_is_refused_for_a_field = refl

-- whether vehicles give way is asked of the policy at the arrival
pub the_policy_at_the_arrival : replay_text None (small ++ codes "operator 0 switch siren\n1 100 request 1 1 straight 1450 500 500 0 1000 700 emergency\n0 100 request 1 0 straight 1520 500 500 0 1000 700 car\n2 100 request 1 0 straight 1470 500 500 0 1000 700 car\nend") ≡ codes "0 operator 0 switch 2 -> switched 1500\n1 1 100 request 1 1 straight 1450 500 500 0 1000 700 emergency -> confirm 1 1450 0 0 steady 1460\n2 0 100 request 1 0 straight 1520 500 500 0 1000 700 car -> reject emergency 1 next 125 held none\n3 2 100 request 1 0 straight 1470 500 500 0 1000 700 car -> confirm 3 1470 0 0 steady 1480\nend 4\n"
unfolding digits outcomes_from layout_of
the_policy_at_the_arrival = refl

-- the horizon is asked of the steady trial
pub far_by_the_steady_trial : replay_text None (small ++ codes "0 0 request 1 0 straight 1490 500 1000 250 1000 700 car\nend") ≡ codes "0 0 0 request 1 0 straight 1490 500 1000 250 1000 700 car -> reject far 1500 next 25 held none\nend 1\n"
unfolding digits outcomes_from layout_of
far_by_the_steady_trial = refl

-- too far comes before the distance
pub far_before_the_distance : replay_text None (small ++ codes "0 0 request 1 0 straight 10 500 500 0 1000 700 car\n1 0 request 1 1 straight 10 500 500 0 1000 700 car\n2 0 request 1 1 straight 1495 500 500 0 1000 700 car\nend") ≡ codes "0 0 0 request 1 0 straight 10 500 500 0 1000 700 car -> confirm 0 10 0 0 steady 20\n1 1 0 request 1 1 straight 10 500 500 0 1000 700 car -> reject taken 1 2 13 0 next 5 held none\n2 2 0 request 1 1 straight 1495 500 500 0 1000 700 car -> reject far 1500 next 25 held none\nend 3\n"
unfolding digits outcomes_from layout_of
far_before_the_distance = refl

-- another reservation's name comes before a crossing that has begun
pub no_reservation_before_begun : replay_text None (small ++ codes "0 0 request 1 0 straight 10 500 500 0 1000 700 car\n0 10 change 2 7 0 straight 40 500 500 0 1000 700 car\nend") ≡ codes "0 0 0 request 1 0 straight 10 500 500 0 1000 700 car -> confirm 0 10 0 0 steady 20\n1 0 10 change 2 7 0 straight 40 500 500 0 1000 700 car -> reject no-reservation next 0 held 0\nend 2\n"
unfolding digits outcomes_from layout_of
no_reservation_before_begun = refl

-- after a stop a change is answered as a request
pub a_change_after_a_stop : replay_text None (small ++ codes "0 0 request 1 0 straight 10 500 500 0 1000 700 car\noperator 3 stop\n0 4 change 2 0 0 straight 40 500 500 0 1000 700 car\nend") ≡ codes "0 0 0 request 1 0 straight 10 500 500 0 1000 700 car -> confirm 0 10 0 0 steady 20\n1 operator 3 stop -> stopped\n2 0 4 change 2 0 0 straight 40 500 500 0 1000 700 car -> emergency-stop\nend 3\n"
unfolding digits outcomes_from layout_of
a_change_after_a_stop = refl

-- the time of an answer is the greatest moment so far
pub a_moment_that_falls : replay_text None (small ++ codes "7 20 cancel 1 9\n0 0 request 1 0 straight 30 500 500 0 1000 700 car\n1 0 request 1 1 straight 30 500 500 0 1000 700 car\n2 22 request 1 1 straight 40 500 500 0 1000 700 car\nend") ≡ codes "0 7 20 cancel 1 9 -> ack 9\n1 0 0 request 1 0 straight 30 500 500 0 1000 700 car -> confirm 1 30 0 0 steady 40\n2 1 0 request 1 1 straight 30 500 500 0 1000 700 car -> reject taken 1 2 33 0 next 25 held none\n3 2 22 request 1 1 straight 40 500 500 0 1000 700 car -> reject distance 5000 next 31 held none\nend 4\n"
unfolding digits outcomes_from layout_of
a_moment_that_falls = refl

-- a chart marks the tiles of a green lane, the greatest lane too
pub chart_of_a_green_lane : replay_text (Some 1630) (small ++ codes "operator 0 switch lights\noperator 200 stop\nend") ≡ codes "0 operator 0 switch 1 -> switched 1500\n1 operator 200 stop -> stopped\n..g.\n..g.\n..g.\n..g.\nend 2\n"
unfolding digits outcomes_from layout_of
chart_of_a_green_lane = refl

-- a vehicle's mark comes before a lane's
pub chart_of_a_vehicle_in_a_green_lane : replay_text (Some 1530) (small ++ codes "operator 0 switch lights\n0 100 request 1 0 straight 1525 500 500 0 1000 700 car\nend") ≡ codes "0 operator 0 switch 1 -> switched 1500\n1 0 100 request 1 0 straight 1525 500 500 0 1000 700 car -> confirm 1 1525 0 0 steady 1535\n....\n....\ng###\n....\nend 2\n"
unfolding digits outcomes_from layout_of
chart_of_a_vehicle_in_a_green_lane = refl

-- a script at fault has no chart
pub no_chart_of_a_script_at_fault : replay_text (Some 12) (small ++ codes "0 0 request 1 0 straight 10 500 500 0 1000 700 car\n0 0 nothing\n") ≡ codes "0 0 0 request 1 0 straight 10 500 500 0 1000 700 car -> confirm 0 10 0 0 steady 20\nbad line 15 words\n"
unfolding digits outcomes_from layout_of
no_chart_of_a_script_at_fault = refl

-- at one cell a green lane is told before a vehicle
pub green_before_taken : replay_text None (small ++ codes "operator 0 switch lights\n0 100 request 1 0 straight 1525 500 500 0 1000 700 car\n1 100 request 1 1 straight 1532 500 500 0 1000 700 car\nend") ≡ codes "0 operator 0 switch 1 -> switched 1500\n1 0 100 request 1 0 straight 1525 500 500 0 1000 700 car -> confirm 1 1525 0 0 steady 1535\n2 1 100 request 1 1 straight 1532 500 500 0 1000 700 car -> reject green 1 2 1533 0 next 125 held none\nend 3\n"
unfolding digits outcomes_from layout_of
green_before_taken = refl

-- of the asking vehicle only the message at hand counts
pub an_emergency_no_more : replay_text None (codes "aim 1\ngrid 4000 4 100 0 450 4096\ntimes 1500 25 20 0 0\nlanes 2\nmove 0 straight line 0 1500 4000 1500 40\nmove 1 straight line 2500 0 2500 4000 40\npolicy siren emerg\nvehicles 8\nbegin\n1 0 request 1 1 straight 0 500 500 0 1000 700 emergency\n1 1 request 2 0 straight 40 500 500 0 1000 700 car\nend") ≡ codes "0 1 0 request 1 1 straight 0 500 500 0 1000 700 emergency -> reject late 0 next 1 held none\n1 1 1 request 2 0 straight 40 500 500 0 1000 700 car -> confirm 1 40 0 0 steady 50\nend 2\n"
unfolding digits outcomes_from layout_of
an_emergency_no_more = refl

-- a granted fast crossing holds its own cells, not those of the steady one
pub behind_a_fast_crossing : replay_text None (small ++ codes "0 0 request 1 0 straight 10 500 1000 250 1000 700 car\n1 0 request 1 1 straight 16 500 500 0 1000 700 car\nend") ≡ codes "0 0 0 request 1 0 straight 10 500 1000 250 1000 700 car -> confirm 0 10 0 0 fast 15\n1 1 0 request 1 1 straight 16 500 500 0 1000 700 car -> confirm 1 16 0 0 steady 26\nend 2\n"
unfolding digits outcomes_from layout_of
behind_a_fast_crossing = refl

-- lights that give way do so
pub lights_give_way_to_an_emergency : replay_text None (codes "aim 3\ngrid 4000 4 100 0 450 4096\ntimes 1500 25 20 0 0 0\nlanes 2\nmove 0 straight line 0 1500 4000 1500 40\nmove 1 straight line 2500 0 2500 4000 40\npolicy both light-emerg\nphase 20 80 0\nphase 20 80 1\nvehicles 8\nbegin\n1 0 request 1 1 straight 5 500 500 0 1000 700 emergency\n0 0 request 1 0 straight 30 500 500 0 1000 700 car\nend") ≡ codes "0 1 0 request 1 1 straight 5 500 500 0 1000 700 emergency -> confirm 0 5 0 0 steady 15\n1 0 0 request 1 0 straight 30 500 500 0 1000 700 car -> reject emergency 1 next 15 held none\nend 2\n"
unfolding digits outcomes_from layout_of
lights_give_way_to_an_emergency = refl

-- plain lights don't
pub lights_do_not_give_way_to_an_emergency : replay_text None (codes "aim 3\ngrid 4000 4 100 0 450 4096\ntimes 1500 25 20 0 0 0\nlanes 2\nmove 0 straight line 0 1500 4000 1500 40\nmove 1 straight line 2500 0 2500 4000 40\npolicy plain light\nphase 20 80 0\nphase 20 80 1\nvehicles 8\nbegin\n1 0 request 1 1 straight 5 500 500 0 1000 700 emergency\n0 0 request 1 0 straight 30 500 500 0 1000 700 car\nend") ≡ codes "0 1 0 request 1 1 straight 5 500 500 0 1000 700 emergency -> confirm 0 5 0 0 steady 15\n1 0 0 request 1 0 straight 30 500 500 0 1000 700 car -> confirm 1 30 0 0 steady 40\nend 2\n"
unfolding digits outcomes_from layout_of
lights_do_not_give_way_to_an_emergency = refl

pub a_horizon_too_far_in_version_two : replay_text None (codes "aim 2\ngrid 4000 4 100 0 450 4096\ntimes 8193 25 20 0 0 0\nlanes 2\nmove 0 straight line 0 1500 4000 1500 40\nmove 1 straight line 2500 0 2500 4000 40\n") ≡ codes "bad line 3 times\n"
unfolding digits outcomes_from layout_of
a_horizon_too_far_in_version_two = refl

-- in version 1 early and late are the inner buffer
pub one_buffer_for_early_and_late : replay_text None (codes "aim 1\ngrid 4000 4 100 0 450 4096\ntimes 1500 25 20 1 2\nlanes 2\nmove 0 straight line 0 1500 4000 1500 40\nmove 1 straight line 2500 0 2500 4000 40\npolicy plain fcfs\nvehicles 8\nbegin\n0 0 request 1 0 straight 10 500 500 0 1000 700 car\nend") ≡ codes "0 0 0 request 1 0 straight 10 500 500 0 1000 700 car -> confirm 0 10 1 1 steady 20\nend 1\n"
unfolding digits outcomes_from layout_of
one_buffer_for_early_and_late = refl

-- line 1 is read as one of version 1
pub line_1_is_of_version_1 : replay_text None (codes "times 1500 25 20 0 0\n") ≡ codes "bad line 1 order\n"
unfolding digits outcomes_from layout_of
line_1_is_of_version_1 = refl

-- a line at fault is none that goes past a limit
pub a_fault_before_a_limit : replay_text None (codes "aim 1\ngrid 4000 4 100 0 450 4096\ntimes 1500 25 20 0 0\nlanes 2\nmove 0 straight line 0 1500 4000 1500 40\nmove 1 straight line 2500 0 2500 4000 40\npolicy a light\nvehicles 65537\n") ≡ codes "bad line 8 phase\n"
unfolding digits outcomes_from layout_of
a_fault_before_a_limit = refl

pub a_move_behind_a_policy : replay_text None (codes "aim 1\ngrid 4000 4 100 0 450 4096\ntimes 1500 25 20 0 0\nlanes 2\nmove 0 straight line 0 1500 4000 1500 40\nmove 1 straight line 2500 0 2500 4000 40\npolicy a fcfs\nmove 0 left line 0 1500 4000 1500 40\n") ≡ codes "bad line 8 order\n"
unfolding digits outcomes_from layout_of
a_move_behind_a_policy = refl

pub a_body_without_its_begin : replay_text None (codes "aim 1\ngrid 4000 4 100 0 450 4096\ntimes 1500 25 20 0 0\nlanes 2\nmove 0 straight line 0 1500 4000 1500 40\nmove 1 straight line 2500 0 2500 4000 40\npolicy a fcfs\nvehicles 8\noperator 0 stop\n") ≡ codes "bad line 9 order\n"
unfolding digits outcomes_from layout_of
a_body_without_its_begin = refl

pub a_policy_behind_the_vehicles : replay_text None (codes "aim 1\ngrid 4000 4 100 0 450 4096\ntimes 1500 25 20 0 0\nlanes 2\nmove 0 straight line 0 1500 4000 1500 40\nmove 1 straight line 2500 0 2500 4000 40\npolicy a fcfs\nvehicles 8\npolicy b fcfs\n") ≡ codes "bad line 9 order\n"
unfolding digits outcomes_from layout_of
a_policy_behind_the_vehicles = refl

pub an_end_at_the_begin : replay_text None (codes "aim 1\ngrid 4000 4 100 0 450 4096\ntimes 1500 25 20 0 0\nlanes 2\nmove 0 straight line 0 1500 4000 1500 40\nmove 1 straight line 2500 0 2500 4000 40\npolicy a fcfs\nvehicles 8\nbegin\n") ≡ codes "bad line 10 end\n"
unfolding digits outcomes_from layout_of
an_end_at_the_begin = refl

-- refusals that set no time of their own tell the standing one
pub the_standing_time_of_other_refusals : replay_text None (small ++ codes "0 0 request 1 0 straight 10 500 500 0 1000 700 car\n1 3 request 1 1 straight 10 500 500 0 1000 700 car\n1 11 request 2 1 straight 18 500 500 0 1000 700 car\n1 11 request 3 1 straight 60 500 500 0 1000 700 car\n1 18 change 4 2 1 straight 60 500 500 0 1000 700 car\n1 18 change 4 2 1 straight 70 500 500 0 1000 700 car\nend") ≡ codes "0 0 0 request 1 0 straight 10 500 500 0 1000 700 car -> confirm 0 10 0 0 steady 20\n1 1 3 request 1 1 straight 10 500 500 0 1000 700 car -> reject taken 1 2 13 0 next 6 held none\n2 1 11 request 2 1 straight 18 500 500 0 1000 700 car -> confirm 2 18 0 0 steady 28\n3 1 11 request 3 1 straight 60 500 500 0 1000 700 car -> reject holds 2 next 6 held 2\n4 1 18 change 4 2 1 straight 60 500 500 0 1000 700 car -> reject begun 18 next 6 held 2\n5 1 18 change 4 2 1 straight 70 500 500 0 1000 700 car -> reject reused 4 next 6 held 2\nend 6\n"
unfolding digits outcomes_from layout_of
the_standing_time_of_other_refusals = refl

-- of several approached lanes the least is told
pub the_least_lane_of_two_emergencies : replay_text None (codes "aim 1\ngrid 4000 4 100 0 450 4096\ntimes 1500 25 20 0 0\nlanes 3\nmove 0 straight line 0 1500 4000 1500 40\nmove 1 straight line 2500 0 2500 4000 40\nmove 2 straight line 500 0 500 4000 40\npolicy siren emerg\nvehicles 8\nbegin\n1 0 request 1 2 straight 10 500 500 0 1000 700 emergency\n2 0 request 1 1 straight 10 500 500 0 1000 700 emergency\n0 0 request 1 0 straight 40 500 500 0 1000 700 car\nend") ≡ codes "0 1 0 request 1 2 straight 10 500 500 0 1000 700 emergency -> confirm 0 10 0 0 steady 20\n1 2 0 request 1 1 straight 10 500 500 0 1000 700 emergency -> confirm 1 10 0 0 steady 20\n2 0 0 request 1 0 straight 40 500 500 0 1000 700 car -> reject emergency 1 next 20 held none\nend 3\n"
unfolding digits outcomes_from layout_of
the_least_lane_of_two_emergencies = refl

-- a vehicle that doesn't accelerate has no fast trial
pub no_fast_trial_without_acceleration : replay_text None (small ++ codes "0 0 request 1 0 straight 10 500 600 0 1000 700 car\nend") ≡ codes "0 0 0 request 1 0 straight 10 500 600 0 1000 700 car -> confirm 0 10 0 0 steady 20\nend 1\n"
unfolding digits outcomes_from layout_of
no_fast_trial_without_acceleration = refl

-- a crossing begins with the first step of its cells, not with its arrival
pub a_crossing_begins_with_its_first_cell : replay_text None (codes "aim 1\ngrid 4000 4 100 0 450 4096\ntimes 1500 25 20 1 2\nlanes 2\nmove 0 straight line 0 1500 4000 1500 40\nmove 1 straight line 2500 0 2500 4000 40\npolicy plain fcfs\nvehicles 8\nbegin\n0 0 request 1 0 straight 10 500 500 0 1000 700 car\n0 7 change 2 0 0 straight 11 500 500 0 1000 700 car\n0 9 change 3 1 0 straight 60 500 500 0 1000 700 car\nend") ≡ codes "0 0 0 request 1 0 straight 10 500 500 0 1000 700 car -> confirm 0 10 1 1 steady 20\n1 0 7 change 2 0 0 straight 11 500 500 0 1000 700 car -> confirm 1 11 1 1 steady 21\n2 0 9 change 3 1 0 straight 60 500 500 0 1000 700 car -> reject begun 9 next 0 held 1\nend 3\n"
unfolding digits outcomes_from layout_of
a_crossing_begins_with_its_first_cell = refl

-- the edge buffer has to lie ahead
pub late_by_the_edge : replay_text None (codes "aim 1\ngrid 4000 4 100 0 450 4096\ntimes 1500 25 20 1 2\nlanes 2\nmove 0 straight line 0 1500 4000 1500 40\nmove 1 straight line 2500 0 2500 4000 40\npolicy plain fcfs\nvehicles 8\nbegin\n0 10 request 1 0 straight 12 500 500 0 1000 700 car\n0 11 request 2 0 straight 14 500 500 0 1000 700 car\nend") ≡ codes "0 0 10 request 1 0 straight 12 500 500 0 1000 700 car -> reject late 10 next 11 held none\n1 0 11 request 2 0 straight 14 500 500 0 1000 700 car -> confirm 1 14 1 1 steady 24\nend 2\n"
unfolding digits outcomes_from layout_of
late_by_the_edge = refl

-- what is given up has no mark
pub chart_of_a_cancelled_crossing : replay_text (Some 13) (small ++ codes "0 0 request 1 0 straight 10 500 500 0 1000 700 car\n0 1 cancel 2 0\nend") ≡ codes "0 0 0 request 1 0 straight 10 500 500 0 1000 700 car -> confirm 0 10 0 0 steady 20\n1 0 1 cancel 2 0 -> ack 0\n....\n....\n....\n....\nend 2\n"
unfolding digits outcomes_from layout_of
chart_of_a_cancelled_crossing = refl

-- each of the six times of version 2 counts
pub six_times : replay_text None (codes "aim 2\ngrid 4000 4 100 0 450 4096\ntimes 1500 25 20 1 3 4\nlanes 2\nmove 0 straight line 0 1500 4000 1500 40\nmove 1 straight line 2500 0 2500 4000 40\npolicy plain fcfs\nvehicles 8\nbegin\n0 10 request 1 0 straight 14 500 500 0 1000 700 car\n1 10 request 1 0 straight 1600 500 500 0 1000 700 car\nend") ≡ codes "0 0 10 request 1 0 straight 14 500 500 0 1000 700 car -> reject late 10 next 12 held none\n1 1 10 request 1 0 straight 1600 500 500 0 1000 700 car -> reject far 1510 next 35 held none\nend 2\n"
unfolding digits outcomes_from layout_of
six_times = refl

-- a message with a number used before is a repeat only if each field is the same
pub another_field_with_that_number : replay_text None (small ++ codes "0 0 request 1 0 straight 10 500 500 0 1000 700 car\n0 0 request 1 1 straight 10 500 500 0 1000 700 car\n0 0 request 1 0 left 10 500 500 0 1000 700 car\n0 0 request 1 0 straight 11 500 500 0 1000 700 car\n0 0 request 1 0 straight 10 499 500 0 1000 700 car\n0 0 request 1 0 straight 10 500 501 0 1000 700 car\n0 0 request 1 0 straight 10 500 500 1 1000 700 car\n0 0 request 1 0 straight 10 500 500 0 1001 700 car\n0 0 request 1 0 straight 10 500 500 0 1000 701 car\n0 0 request 1 0 straight 10 500 500 0 1000 700 emergency\n0 0 request 1 0 straight 10 500 500 0 1000 700 car\nend") ≡ codes "0 0 0 request 1 0 straight 10 500 500 0 1000 700 car -> confirm 0 10 0 0 steady 20\n1 0 0 request 1 1 straight 10 500 500 0 1000 700 car -> reject reused 1 next 0 held 0\n2 0 0 request 1 0 left 10 500 500 0 1000 700 car -> reject reused 1 next 0 held 0\n3 0 0 request 1 0 straight 11 500 500 0 1000 700 car -> reject reused 1 next 0 held 0\n4 0 0 request 1 0 straight 10 499 500 0 1000 700 car -> reject reused 1 next 0 held 0\n5 0 0 request 1 0 straight 10 500 501 0 1000 700 car -> reject reused 1 next 0 held 0\n6 0 0 request 1 0 straight 10 500 500 1 1000 700 car -> reject reused 1 next 0 held 0\n7 0 0 request 1 0 straight 10 500 500 0 1001 700 car -> reject reused 1 next 0 held 0\n8 0 0 request 1 0 straight 10 500 500 0 1000 701 car -> reject reused 1 next 0 held 0\n9 0 0 request 1 0 straight 10 500 500 0 1000 700 emergency -> reject reused 1 next 0 held 0\n10 0 0 request 1 0 straight 10 500 500 0 1000 700 car -> confirm 0 10 0 0 steady 20\nend 11\n"
unfolding digits outcomes_from layout_of
another_field_with_that_number = refl

-- and only if the kind of message and the id are the same
pub another_message_with_that_number : replay_text None (small ++ codes "0 0 change 1 5 0 straight 10 500 500 0 1000 700 car\n0 0 change 1 6 0 straight 10 500 500 0 1000 700 car\n0 0 request 1 0 straight 10 500 500 0 1000 700 car\n0 0 change 1 5 0 straight 11 500 500 0 1000 700 car\n0 0 change 1 5 0 straight 10 500 500 0 1000 700 car\n1 0 cancel 1 5\n1 0 cancel 1 6\n1 0 done 1 5\n1 0 cancel 1 5\n2 0 done 1 5\n2 0 done 1 6\n2 0 cancel 1 5\n2 0 done 1 5\nend") ≡ codes "0 0 0 change 1 5 0 straight 10 500 500 0 1000 700 car -> reject no-reservation next 0 held none\n1 0 0 change 1 6 0 straight 10 500 500 0 1000 700 car -> reject reused 1 next 0 held none\n2 0 0 request 1 0 straight 10 500 500 0 1000 700 car -> reject reused 1 next 0 held none\n3 0 0 change 1 5 0 straight 11 500 500 0 1000 700 car -> reject reused 1 next 0 held none\n4 0 0 change 1 5 0 straight 10 500 500 0 1000 700 car -> reject no-reservation next 0 held none\n5 1 0 cancel 1 5 -> ack 5\n6 1 0 cancel 1 6 -> reject reused 1 next 0 held none\n7 1 0 done 1 5 -> reject reused 1 next 0 held none\n8 1 0 cancel 1 5 -> ack 5\n9 2 0 done 1 5 -> ack 5\n10 2 0 done 1 6 -> reject reused 1 next 0 held none\n11 2 0 cancel 1 5 -> reject reused 1 next 0 held none\n12 2 0 done 1 5 -> ack 5\nend 13\n"
unfolding digits outcomes_from layout_of
another_message_with_that_number = refl

-- after a change the cells of the earlier grant are free
pub a_change_frees_the_cells_before_it : replay_text None (small ++ codes "0 0 request 1 0 straight 10 500 500 0 1000 700 car\n0 0 change 2 0 0 straight 40 500 500 0 1000 700 car\n1 0 request 1 1 straight 10 500 500 0 1000 700 car\nend") ≡ codes "0 0 0 request 1 0 straight 10 500 500 0 1000 700 car -> confirm 0 10 0 0 steady 20\n1 0 0 change 2 0 0 straight 40 500 500 0 1000 700 car -> confirm 1 40 0 0 steady 50\n2 1 0 request 1 1 straight 10 500 500 0 1000 700 car -> confirm 2 10 0 0 steady 20\nend 3\n"
unfolding digits outcomes_from layout_of
a_change_frees_the_cells_before_it = refl

-- the distance comes before an emergency
pub the_distance_before_an_emergency : replay_text None (codes "aim 1\ngrid 4000 4 100 0 450 4096\ntimes 1500 25 20 0 0\nlanes 2\nmove 0 straight line 0 1500 4000 1500 40\nmove 1 straight line 2500 0 2500 4000 40\npolicy siren emerg\nvehicles 8\nbegin\n0 0 request 1 0 straight 10 500 500 0 1000 700 car\n1 0 request 1 1 straight 10 500 500 0 1000 700 car\n2 0 request 1 0 straight 25 500 500 0 1000 700 emergency\n3 0 request 1 1 straight 40 500 500 0 1000 700 car\n4 0 request 1 1 straight 9 500 500 0 1000 700 car\nend") ≡ codes "0 0 0 request 1 0 straight 10 500 500 0 1000 700 car -> confirm 0 10 0 0 steady 20\n1 1 0 request 1 1 straight 10 500 500 0 1000 700 car -> reject taken 1 2 13 0 next 5 held none\n2 2 0 request 1 0 straight 25 500 500 0 1000 700 emergency -> confirm 2 25 0 0 steady 35\n3 3 0 request 1 1 straight 40 500 500 0 1000 700 car -> reject distance 5000 next 20 held none\n4 4 0 request 1 1 straight 9 500 500 0 1000 700 car -> reject emergency 0 next 4 held none\nend 5\n"
unfolding digits outcomes_from layout_of
the_distance_before_an_emergency = refl

-- too soon comes before a wrong field
pub too_soon_before_a_wrong_field : replay_text None (small ++ codes "0 0 request 1 0 straight 10 500 500 0 1000 700 car\n1 3 request 1 1 straight 10 500 500 0 1000 700 car\n1 5 request 2 7 straight 18 500 500 0 1000 700 car\nend") ≡ codes "0 0 0 request 1 0 straight 10 500 500 0 1000 700 car -> confirm 0 10 0 0 steady 20\n1 1 3 request 1 1 straight 10 500 500 0 1000 700 car -> reject taken 1 2 13 0 next 6 held none\n2 1 5 request 2 7 straight 18 500 500 0 1000 700 car -> reject too-soon 6 next 6 held none\nend 3\n"
unfolding digits outcomes_from layout_of
too_soon_before_a_wrong_field = refl

-- a repeat is answered as before a stop, and so is a stale message
pub a_repeat_after_a_stop : replay_text None (small ++ codes "0 0 request 2 0 straight 10 500 500 0 1000 700 car\noperator 3 stop\n0 4 request 2 0 straight 10 500 500 0 1000 700 car\n0 4 request 1 0 straight 10 500 500 0 1000 700 car\n0 4 request 2 0 straight 11 500 500 0 1000 700 car\nend") ≡ codes "0 0 0 request 2 0 straight 10 500 500 0 1000 700 car -> confirm 0 10 0 0 steady 20\n1 operator 3 stop -> stopped\n2 0 4 request 2 0 straight 10 500 500 0 1000 700 car -> confirm 0 10 0 0 steady 20\n3 0 4 request 1 0 straight 10 500 500 0 1000 700 car -> stale 2\n4 0 4 request 2 0 straight 11 500 500 0 1000 700 car -> reject reused 2 next 0 held 0\nend 5\n"
unfolding digits outcomes_from layout_of
a_repeat_after_a_stop = refl

-- a fixed buffer takes in the tiles beside the path
pub a_fixed_buffer : replay_text (Some 15) (codes "aim 1\ngrid 4000 4 100 50 450 4096\ntimes 1500 25 20 0 0\nlanes 2\nmove 0 straight line 0 1500 4000 1500 40\nmove 1 straight line 2500 0 2500 4000 40\npolicy plain fcfs\nvehicles 8\nbegin\n0 0 request 1 0 straight 10 500 500 0 1000 700 car\nend") ≡ codes "0 0 0 request 1 0 straight 10 500 500 0 1000 700 car -> confirm 0 10 0 0 steady 20\n....\n####\n####\n####\nend 1\n"
unfolding digits outcomes_from layout_of
a_fixed_buffer = refl

pub without_a_fixed_buffer : replay_text (Some 15) (codes "aim 1\ngrid 4000 4 100 0 450 4096\ntimes 1500 25 20 0 0\nlanes 2\nmove 0 straight line 0 1500 4000 1500 40\nmove 1 straight line 2500 0 2500 4000 40\npolicy plain fcfs\nvehicles 8\nbegin\n0 0 request 1 0 straight 10 500 500 0 1000 700 car\nend") ≡ codes "0 0 0 request 1 0 straight 10 500 500 0 1000 700 car -> confirm 0 10 0 0 steady 20\n....\n....\n.###\n....\nend 1\n"
unfolding digits outcomes_from layout_of
without_a_fixed_buffer = refl

-- of several wrong fields the first is told
pub neighbouring_wrong_fields : replay_text None (small ++ codes "0 0 request 1 0 left 1073741825 500 500 0 1000 700 car\n1 0 request 1 0 straight 1073741825 500 4001 0 1000 700 car\n2 0 request 1 0 straight 10 0 0 0 1000 700 car\n3 0 request 1 0 straight 10 600 500 1001 1000 700 car\n4 0 request 1 0 straight 10 500 500 1001 0 700 car\n5 0 request 1 0 straight 10 500 500 0 0 0 car\n6 0 request 1 0 straight 10 1 1 0 1000 0 car\n7 0 request 1 1 straight 10 2 2 0 1000 700 car\nend") ≡ codes "0 0 0 request 1 0 left 1073741825 500 500 0 1000 700 car -> reject bad turn next 25 held none\n1 1 0 request 1 0 straight 1073741825 500 4001 0 1000 700 car -> reject bad arrive next 25 held none\n2 2 0 request 1 0 straight 10 0 0 0 1000 700 car -> reject bad max next 5 held none\n3 3 0 request 1 0 straight 10 600 500 1001 1000 700 car -> reject bad speed next 5 held none\n4 4 0 request 1 0 straight 10 500 500 1001 0 700 car -> reject bad accel next 5 held none\n5 5 0 request 1 0 straight 10 500 500 0 0 0 car -> reject bad length next 5 held none\n6 6 0 request 1 0 straight 10 1 1 0 1000 0 car -> reject bad width next 5 held none\n7 7 0 request 1 1 straight 10 2 2 0 1000 700 car -> reject bad steps next 5 held none\nend 8\n"
unfolding digits outcomes_from layout_of
neighbouring_wrong_fields = refl

-- half of an odd width is rounded up: this square just touches the neighbouring rows
pub half_of_a_width_is_rounded_up : replay_text (Some 15) (small ++ codes "0 0 request 1 0 straight 10 500 500 0 1000 799 car\nend") ≡ codes "0 0 0 request 1 0 straight 10 500 500 0 1000 799 car -> confirm 0 10 0 0 steady 20\n....\n####\n####\n####\nend 1\n"
unfolding digits outcomes_from layout_of
half_of_a_width_is_rounded_up = refl

-- the last station that the front reaches in a step is covered
pub the_last_station_of_a_step : replay_text (Some 10) (small ++ codes "0 0 request 1 0 straight 10 600 600 0 1000 700 car\nend") ≡ codes "0 0 0 request 1 0 straight 10 600 600 0 1000 700 car -> confirm 0 10 0 0 steady 18\n....\n....\n##..\n....\nend 1\n"
unfolding digits outcomes_from layout_of
the_last_station_of_a_step = refl

-- the fast trial may need more spans than the steady one, and both are counted
pub spans_of_the_fast_trial : replay_text None (codes "aim 1\ngrid 4000 4 100 0 450 27\ntimes 1500 25 20 0 0\nlanes 2\nmove 0 straight line 0 1500 4000 1500 40\nmove 1 straight line 2500 0 2500 4000 40\npolicy plain fcfs\npolicy lights light\nphase 20 80 0\nphase 20 80 1\npolicy siren emerg\nvehicles 8\nbegin\n0 0 request 1 1 straight 10 496 521 29 1351 700 car\nend") ≡ codes "0 0 0 request 1 1 straight 10 496 521 29 1351 700 car -> reject bad spans next 5 held none\nend 1\n"
unfolding digits outcomes_from layout_of
spans_of_the_fast_trial = refl

-- of two taken cells of one step that of the lesser row is told, though its column is greater
pub the_first_cell_by_row : replay_text None (codes "aim 1\ngrid 4000 4 100 0 450 4096\ntimes 1500 25 20 0 0\nlanes 3\nmove 0 straight line 4000 1500 0 1500 40\nmove 1 straight line 2500 0 2500 4000 40\nmove 2 straight line 0 2500 4000 2500 40\npolicy plain fcfs\nvehicles 8\nbegin\n0 0 request 1 0 straight 16 500 500 0 1000 700 car\n1 0 request 1 2 straight 12 500 500 0 1000 700 car\n2 0 request 1 1 straight 14 500 500 0 4000 799 car\nend") ≡ codes "0 0 0 request 1 0 straight 16 500 500 0 1000 700 car -> confirm 0 16 0 0 steady 26\n1 1 0 request 1 2 straight 12 500 500 0 1000 700 car -> confirm 1 12 0 0 steady 22\n2 2 0 request 1 1 straight 14 500 500 0 4000 799 car -> reject taken 1 3 16 0 next 7 held none\nend 3\n"
unfolding digits outcomes_from layout_of
the_first_cell_by_row = refl

-- of times that are wrong in two ways the buffers are told
pub buffers_before_times : replay_text None (codes "aim 1\ngrid 4000 4 100 0 450 4096\ntimes 8193 25 20 3 2\n") ≡ codes "bad line 3 buffers\n"
unfolding digits outcomes_from layout_of
buffers_before_times = refl

-- of a move that is wrong in two ways its lane is told
pub a_wrong_move_before_its_spacing : replay_text None (codes "aim 1\ngrid 4000 4 100 0 450 4096\ntimes 1500 25 20 0 0\nlanes 2\nmove 0 straight line 0 1500 4000 1500 40\nmove 1 straight line 2500 0 2500 4000 40\nmove 2 straight line 0 1500 4000 1500 39\n") ≡ codes "bad line 7 move\n"
unfolding digits outcomes_from layout_of
a_wrong_move_before_its_spacing = refl
