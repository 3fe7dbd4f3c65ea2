-- Further worked scripts: the kinds of bad lines in their order, buffers, lights, emergencies, and charts.
use Rattle.std.proofs.Common.{◌≡◌, ◌++◌, List, ℕ, refl, None, Some}
use Rattle.std.specs.Prelude.{codes}
use Rattle.std.specs.Fmt.{digits}
use Rattle.aim_io.specs.Lines.{outcomes_from}
use Rattle.aim_script.specs.Said.{layout_of}
use Rattle.aim_replay_command.specs.Texts.{replay_text}

abbrev lanes : List ℕ
lanes = codes "aim 1\ngrid 4000 4 100 0 450 4096\ntimes 1500 25 20 0 0\nlanes 2\nmove 0 straight line 0 1500 4000 1500 40\nmove 1 straight line 2500 0 2500 4000 40\n"

abbrev small : List ℕ
small = codes "aim 1\ngrid 4000 4 100 0 450 4096\ntimes 1500 25 20 0 0\nlanes 2\nmove 0 straight line 0 1500 4000 1500 40\nmove 1 straight line 2500 0 2500 4000 40\npolicy plain fcfs\npolicy lights light\nphase 20 80 0\nphase 20 80 1\npolicy siren emerg\nvehicles 8\nbegin\n"

abbrev siren : List ℕ
siren = codes "aim 1\ngrid 4000 4 100 0 450 4096\ntimes 1500 25 20 0 0\nlanes 2\nmove 0 straight line 0 1500 4000 1500 40\nmove 1 straight line 2500 0 2500 4000 40\npolicy siren emerg\npolicy plain fcfs\npolicy lights light\nphase 20 80 0\nphase 20 80 1\nvehicles 8\nbegin\n"

abbrev buffered : List ℕ
buffered = codes "aim 1\ngrid 4000 4 100 0 450 4096\ntimes 1500 25 20 1 2\nlanes 2\nmove 0 straight line 0 1500 4000 1500 40\nmove 1 straight line 2500 0 2500 4000 40\npolicy plain fcfs\npolicy lights light\nphase 20 80 0\nphase 20 80 1\npolicy siren emerg\nvehicles 8\nbegin\n"

abbrev windows : List ℕ
windows = codes "aim 2\ngrid 4000 4 100 0 450 4096\ntimes 1500 25 20 1 3 4\nlanes 2\nmove 0 straight line 0 1500 4000 1500 40\nmove 1 straight line 2500 0 2500 4000 40\npolicy plain fcfs\npolicy lights light\nphase 20 80 0\nphase 20 80 1\npolicy siren emerg\nvehicles 8\nbegin\n"

pub a_ninth_policy : replay_text None (lanes ++ codes "policy p1 fcfs\npolicy p2 fcfs\npolicy p3 fcfs\npolicy p4 fcfs\npolicy p5 fcfs\npolicy p6 fcfs\npolicy p7 fcfs\npolicy p8 fcfs\npolicy p9 fcfs\n") ≡ codes "bad line 15 phase\n"
unfolding digits outcomes_from layout_of
a_ninth_policy = refl

-- a light policy without a phase is told at the next line that may stand there, behind its name and its order
pub lights_without_a_phase_before_a_policy : replay_text None (lanes ++ codes "policy lights light\npolicy plain fcfs\n") ≡ codes "bad line 8 phase\n"
unfolding digits outcomes_from layout_of
lights_without_a_phase_before_a_policy = refl

pub a_name_twice_behind_lights_without_a_phase : replay_text None (lanes ++ codes "policy lights light\npolicy lights fcfs\n") ≡ codes "bad line 8 policy\n"
unfolding digits outcomes_from layout_of
a_name_twice_behind_lights_without_a_phase = refl

pub begin_behind_lights_without_a_phase : replay_text None (lanes ++ codes "policy lights light\nbegin\n") ≡ codes "bad line 8 order\n"
unfolding digits outcomes_from layout_of
begin_behind_lights_without_a_phase = refl

pub no_policy_before_no_vehicles : replay_text None (lanes ++ codes "vehicles 0\n") ≡ codes "bad line 7 phase\n"
unfolding digits outcomes_from layout_of
no_policy_before_no_vehicles = refl

pub a_name_twice_before_a_ninth_policy : replay_text None (lanes ++ codes "policy p1 fcfs\npolicy p2 fcfs\npolicy p3 fcfs\npolicy p4 fcfs\npolicy p5 fcfs\npolicy p6 fcfs\npolicy p7 fcfs\npolicy p8 fcfs\npolicy p3 fcfs\n") ≡ codes "bad line 15 policy\n"
unfolding digits outcomes_from layout_of
a_name_twice_before_a_ninth_policy = refl

-- the forms of a drive stand at no place of a replay, once they read
pub a_plan : replay_text None (small ++ codes "plan 0 0 10 3 0 straight 500 500 0 1000 700 car\n") ≡ codes "bad line 14 order\n"
unfolding digits outcomes_from layout_of
a_plan = refl

pub a_plan_of_version_three : replay_text None (small ++ codes "plan 0 0 10 3 0 straight 500 500 0 1000 700 car early\n") ≡ codes "bad line 14 words\n"
unfolding digits outcomes_from layout_of
a_plan_of_version_three = refl

pub fates_in_the_header : replay_text None (lanes ++ codes "up 0 l d 3\n") ≡ codes "bad line 7 order\n"
unfolding digits outcomes_from layout_of
fates_in_the_header = refl

-- the lights go out a horizon after the switch back, and a clearance after their last green
pub a_switch_back : replay_text None (small ++ codes "operator 0 switch lights\noperator 60 switch plain\n0 100 request 1 1 straight 1578 500 500 0 1000 700 car\n1 101 request 1 1 straight 1579 500 500 0 1000 700 car\nend\n") ≡ codes "0 operator 0 switch 1 -> switched 1500\n1 operator 60 switch 0 -> switched 1560\n2 0 100 request 1 1 straight 1578 500 500 0 1000 700 car -> reject green 1 2 1579 0 next 125 held none\n3 1 101 request 1 1 straight 1579 500 500 0 1000 700 car -> confirm 3 1579 0 0 steady 1589\nend 4\n"
unfolding digits outcomes_from layout_of
a_switch_back = refl

-- an emergency goes first, until it is done
pub an_emergency_goes_first : replay_text None (siren ++ codes "0 0 request 1 0 straight 10 500 500 0 1000 700 car\n1 0 request 1 1 straight 10 500 500 0 1000 700 emergency\n2 0 request 1 0 straight 40 500 500 0 1000 700 car\n1 8 request 2 1 straight 18 500 500 0 1000 700 emergency\n1 29 done 3 3\n2 30 request 2 0 straight 60 500 500 0 1000 700 car\nend\n") ≡ codes "0 0 0 request 1 0 straight 10 500 500 0 1000 700 car -> confirm 0 10 0 0 steady 20\n1 1 0 request 1 1 straight 10 500 500 0 1000 700 emergency -> reject taken 1 2 13 0 next 5 held none\n2 2 0 request 1 0 straight 40 500 500 0 1000 700 car -> reject emergency 1 next 20 held none\n3 1 8 request 2 1 straight 18 500 500 0 1000 700 emergency -> confirm 3 18 0 0 steady 28\n4 1 29 done 3 3 -> ack 3\n5 2 30 request 2 0 straight 60 500 500 0 1000 700 car -> confirm 5 60 0 0 steady 70\nend 6\n"
unfolding digits outcomes_from layout_of
an_emergency_goes_first = refl

-- an edge buffer is wider than an inner one
pub buffers_at_the_edge_and_inside : replay_text None (buffered ++ codes "0 0 request 1 0 straight 10 500 500 0 1000 700 car\n1 0 request 1 0 straight 19 500 500 0 1000 700 car\nend\n") ≡ codes "0 0 0 request 1 0 straight 10 500 500 0 1000 700 car -> confirm 0 10 1 1 steady 20\n1 1 0 request 1 0 straight 19 500 500 0 1000 700 car -> reject taken 1 3 22 0 next 9 held none\nend 2\n"
unfolding digits outcomes_from layout_of
buffers_at_the_edge_and_inside = refl

pub an_inner_buffer : replay_text None (buffered ++ codes "0 0 request 1 0 straight 10 500 500 0 1000 700 car\n1 0 request 1 1 straight 20 500 500 0 1000 700 car\nend\n") ≡ codes "0 0 0 request 1 0 straight 10 500 500 0 1000 700 car -> confirm 0 10 1 1 steady 20\n1 1 0 request 1 1 straight 20 500 500 0 1000 700 car -> confirm 1 20 1 1 steady 30\nend 2\n"
unfolding digits outcomes_from layout_of
an_inner_buffer = refl

-- the buffer behind a vehicle is not that before it
pub a_late_buffer : replay_text None (windows ++ codes "0 0 request 1 0 straight 10 500 500 0 1000 700 car\n1 0 request 1 1 straight 21 500 500 0 1000 700 car\nend\n") ≡ codes "0 0 0 request 1 0 straight 10 500 500 0 1000 700 car -> confirm 0 10 1 3 steady 20\n1 1 0 request 1 1 straight 21 500 500 0 1000 700 car -> reject taken 1 2 21 0 next 10 held none\nend 2\n"
unfolding digits outcomes_from layout_of
a_late_buffer = refl

pub behind_a_late_buffer : replay_text None (windows ++ codes "0 0 request 1 0 straight 10 500 500 0 1000 700 car\n1 0 request 1 1 straight 22 500 500 0 1000 700 car\nend\n") ≡ codes "0 0 0 request 1 0 straight 10 500 500 0 1000 700 car -> confirm 0 10 1 3 steady 20\n1 1 0 request 1 1 straight 22 500 500 0 1000 700 car -> confirm 1 22 1 3 steady 32\nend 2\n"
unfolding digits outcomes_from layout_of
behind_a_late_buffer = refl

-- a chart is of the whole script alone, behind its entries
pub a_chart_before_the_end : replay_text (Some 10) (small ++ codes "0 0 request 1 0 straight 10 500 500 0 1000 700 car\nend\n") ≡ codes "0 0 0 request 1 0 straight 10 500 500 0 1000 700 car -> confirm 0 10 0 0 steady 20\n....\n....\n#...\n....\nend 1\n"
unfolding digits outcomes_from layout_of
a_chart_before_the_end = refl

pub no_chart_at_a_limit : replay_text (Some 10) (lanes ++ codes "policy plain fcfs\nvehicles 65537\n") ≡ codes "limit vehicles\n"
unfolding digits outcomes_from layout_of
no_chart_at_a_limit = refl
