-- Worked scripts: the kinds of bad lines of a drive in their order, its limits, and what whole ones say.
use Rattle.std.proofs.Common.{◌≡◌, ◌++◌, List, [], ◌∷◌, ℕ, true, false, map, refl, None, Some}
use Rattle.std.specs.Prelude.{codes}
use Rattle.std.specs.Fmt.{digits}
use Rattle.aim_io.specs.Lines.{outcomes_from}
use Rattle.aim_messages.specs.declared.entries.Order.TheVariants as order
use Rattle.aim_messages.specs.declared.script.LineKind.TheVariants as read
use Rattle.aim_driver.specs.declared.links.Fate.TheVariants as fate
use Rattle.aim_script.specs.declared.decisions.Decision.{Decision}
use Rattle.aim_script.specs.declared.decisions.Decision.TheVariants as decision
use Rattle.aim_script.specs.declared.decisions.Kind.TheVariants as why
use Rattle.aim_script.specs.declared.decisions.Limit.TheVariants as limit
use Rattle.aim_script.specs.Said.{layout_of}
use Rattle.aim_drive_script.specs.Said.{Drive, drives_of, orders_of, until_of}
use Rattle.aim_drive_script.specs.Verdicts.{drive_verdict}

abbrev lanes : List ℕ
lanes = codes "aim 1\ngrid 4000 4 100 0 450 4096\ntimes 1500 25 20 0 0\nlanes 1\nmove 0 straight line 0 1500 4000 1500 40\npolicy plain fcfs\npolicy lights light\nphase 20 80 0\n"

abbrev small : List ℕ
small = codes "aim 1\ngrid 4000 4 100 0 450 4096\ntimes 1500 25 20 0 0\nlanes 1\nmove 0 straight line 0 1500 4000 1500 40\npolicy plain fcfs\npolicy lights light\nphase 20 80 0\nvehicles 3\nbegin\n"

abbrev three : List ℕ
three = codes "aim 3\ngrid 4000 4 100 0 450 4096\ntimes 1500 25 20 0 0 0\nlanes 1\nmove 0 straight line 0 1500 4000 1500 40\npolicy plain fcfs\npolicy lights light\nphase 20 80 0\nvehicles 3\nbegin\n"

abbrev decision_of : List ℕ → Decision
decision_of bytes = let v = drive_verdict bytes in v.decision

pub a_whole_drive : decision_of (small ++ codes "until 40\nplan 0 0 10 3 0 straight 500 500 0 1000 700 car\nup 0 l d 3\nplan 1 1 12 3 0 straight 500 500 0 1000 700 car\nchange 0 5 20\ndown 0 r\ncancel 1 7\noperator 2 switch lights\noperator 2 stop\nchange 0 6 20\nend\n") ≡ decision.Whole 2
unfolding digits outcomes_from layout_of
a_whole_drive = refl

pub the_end_right_behind_until : decision_of (small ++ codes "until 40\nend\n") ≡ decision.Whole 0
unfolding digits outcomes_from layout_of
the_end_right_behind_until = refl

pub no_until : decision_of (small ++ codes "plan 0 0 10 3 0 straight 500 500 0 1000 700 car\n") ≡ decision.Bad 11 why.Order
unfolding digits outcomes_from layout_of
no_until = refl

pub a_second_until : decision_of (small ++ codes "until 40\nuntil 40\n") ≡ decision.Bad 12 why.Order
unfolding digits outcomes_from layout_of
a_second_until = refl

pub until_no_step : decision_of (small ++ codes "until 0\n") ≡ decision.Bad 11 why.Moment
unfolding digits outcomes_from layout_of
until_no_step = refl

pub until_past_the_last_step : decision_of (small ++ codes "until 65537\n") ≡ decision.Bad 11 why.Moment
unfolding digits outcomes_from layout_of
until_past_the_last_step = refl

pub an_event : decision_of (small ++ codes "until 40\n0 0 cancel 1 0\n") ≡ decision.Bad 12 why.Order
unfolding digits outcomes_from layout_of
an_event = refl

pub begin_before_vehicles : decision_of (lanes ++ codes "begin\n") ≡ decision.Bad 9 why.Order
unfolding digits outcomes_from layout_of
begin_before_vehicles = refl

pub a_change_without_a_plan : decision_of (small ++ codes "until 40\nchange 7 0 0\n") ≡ decision.Bad 12 why.Order
unfolding digits outcomes_from layout_of
a_change_without_a_plan = refl

pub a_plan_of_no_vehicle : decision_of (small ++ codes "until 40\nplan 3 50 0 0 0 straight 500 500 0 1000 700 car\n") ≡ decision.Bad 12 why.Vehicle
unfolding digits outcomes_from layout_of
a_plan_of_no_vehicle = refl

pub a_second_plan : decision_of (small ++ codes "until 40\nplan 0 0 10 3 0 straight 500 500 0 1000 700 car\nplan 0 0 10 3 0 straight 500 500 0 1000 700 car\n") ≡ decision.Bad 13 why.Driver
unfolding digits outcomes_from layout_of
a_second_plan = refl

pub a_first_step_past_the_end : decision_of (small ++ codes "until 40\nplan 0 40 10 3 0 straight 500 500 0 1000 700 car\n") ≡ decision.Bad 12 why.Driver
unfolding digits outcomes_from layout_of
a_first_step_past_the_end = refl

pub no_lead : decision_of (small ++ codes "until 40\nplan 0 39 0 3 0 straight 500 500 0 1000 700 car\n") ≡ decision.Bad 12 why.Driver
unfolding digits outcomes_from layout_of
no_lead = refl

pub a_resend_too_great : decision_of (small ++ codes "until 40\nplan 0 39 65536 256 0 straight 500 500 0 1000 700 car\n") ≡ decision.Bad 12 why.Driver
unfolding digits outcomes_from layout_of
a_resend_too_great = refl

pub a_fifth_change : decision_of (small ++ codes "until 40\nplan 0 0 10 3 0 straight 500 500 0 1000 700 car\nchange 0 0 1\nchange 0 1 1\nchange 0 2 1\nchange 0 3 65536\nchange 0 4 1\n") ≡ decision.Bad 17 why.Driver
unfolding digits outcomes_from layout_of
a_fifth_change = refl

pub a_change_at_the_same_step : decision_of (small ++ codes "until 40\nplan 0 0 10 3 0 straight 500 500 0 1000 700 car\nplan 1 1 12 3 0 straight 500 500 0 1000 700 car\nchange 0 1 1\nchange 1 0 1\nchange 0 1 1\n") ≡ decision.Bad 16 why.Driver
unfolding digits outcomes_from layout_of
a_change_at_the_same_step = refl

pub a_change_at_the_end : decision_of (small ++ codes "until 40\nplan 0 0 10 3 0 straight 500 500 0 1000 700 car\nchange 0 40 1\n") ≡ decision.Bad 13 why.Driver
unfolding digits outcomes_from layout_of
a_change_at_the_end = refl

pub a_change_without_a_lead : decision_of (small ++ codes "until 40\nplan 0 0 10 3 0 straight 500 500 0 1000 700 car\nchange 0 39 0\n") ≡ decision.Bad 13 why.Driver
unfolding digits outcomes_from layout_of
a_change_without_a_lead = refl

pub a_second_cancel : decision_of (small ++ codes "until 40\nplan 0 0 10 3 0 straight 500 500 0 1000 700 car\nplan 1 1 12 3 0 straight 500 500 0 1000 700 car\ncancel 0 39\ncancel 1 39\ncancel 0 39\n") ≡ decision.Bad 16 why.Driver
unfolding digits outcomes_from layout_of
a_second_cancel = refl

pub a_cancel_at_the_end : decision_of (small ++ codes "until 40\nplan 0 0 10 3 0 straight 500 500 0 1000 700 car\ncancel 0 40\n") ≡ decision.Bad 13 why.Driver
unfolding digits outcomes_from layout_of
a_cancel_at_the_end = refl

pub fates_twice : decision_of (small ++ codes "until 40\nplan 0 0 10 3 0 straight 500 500 0 1000 700 car\nup 0 d\ndown 0 d\nup 0 d\n") ≡ decision.Bad 15 why.Driver
unfolding digits outcomes_from layout_of
fates_twice = refl

pub fates_down_twice : decision_of (small ++ codes "until 40\nplan 0 0 10 3 0 straight 500 500 0 1000 700 car\nup 0 d\ndown 0 d\ndown 0 l\n") ≡ decision.Bad 15 why.Driver
unfolding digits outcomes_from layout_of
fates_down_twice = refl

pub an_order_at_the_end : decision_of (small ++ codes "until 40\noperator 39 stop\noperator 40 stop\n") ≡ decision.Bad 13 why.Moment
unfolding digits outcomes_from layout_of
an_order_at_the_end = refl

pub an_order_before_the_last : decision_of (small ++ codes "until 40\noperator 7 switch plain\noperator 6 stop\n") ≡ decision.Bad 13 why.Moment
unfolding digits outcomes_from layout_of
an_order_before_the_last = refl

pub a_switch_to_no_name_past_the_end : decision_of (small ++ codes "until 40\noperator 50 switch dark\n") ≡ decision.Bad 12 why.Policy
unfolding digits outcomes_from layout_of
a_switch_to_no_name_past_the_end = refl

pub nothing_behind_the_end : decision_of (small ++ codes "until 40\nend\nend\n") ≡ decision.Bad 13 why.Order
unfolding digits outcomes_from layout_of
nothing_behind_the_end = refl

pub no_end : decision_of (small ++ codes "until 40\nplan 0 0 10 3 0 straight 500 500 0 1000 700 car\n") ≡ decision.Bad 13 why.End
unfolding digits outcomes_from layout_of
no_end = refl

pub too_many_vehicles : decision_of (lanes ++ codes "vehicles 257\n") ≡ decision.Limit limit.Vehicles
unfolding digits outcomes_from layout_of
too_many_vehicles = refl

pub too_many_sheets : decision_of (codes "aim 1\ngrid 4000 4 100 0 450 65537\ntimes 1500 25 20 0 0\nlanes 1\nmove 0 straight line 0 1500 4000 1500 40\npolicy plain fcfs\npolicy lights light\nphase 20 80 0\nvehicles 256\n") ≡ decision.Limit limit.Sheets
unfolding digits outcomes_from layout_of
too_many_sheets = refl

pub no_vehicles : decision_of (lanes ++ codes "vehicles 0\n") ≡ decision.Bad 9 why.Vehicle
unfolding digits outcomes_from layout_of
no_vehicles = refl

pub a_window_of_version_three : decision_of (three ++ codes "until 40\nplan 0 0 10 3 0 straight 500 500 0 1000 700 car early\nplan 1 1 12 3 0 straight 500 500 0 1000 700 car start\nend\n") ≡ decision.Whole 0
unfolding digits outcomes_from layout_of
a_window_of_version_three = refl

pub no_window_in_version_three : decision_of (three ++ codes "until 40\nplan 0 0 10 3 0 straight 500 500 0 1000 700 car\n") ≡ decision.Bad 12 (why.Spelling read.Words)
unfolding digits outcomes_from layout_of
no_window_in_version_three = refl

pub a_window_in_version_one : decision_of (small ++ codes "until 40\nplan 0 0 10 3 0 straight 500 500 0 1000 700 car early\n") ≡ decision.Bad 12 (why.Spelling read.Words)
unfolding digits outcomes_from layout_of
a_window_in_version_one = refl

-- what the first of them says
abbrev whole : List ℕ
whole = (small ++ codes "until 40\nplan 0 0 10 3 0 straight 500 500 0 1000 700 car\nup 0 l d 3\nplan 1 1 12 3 0 straight 500 500 0 1000 700 car\nchange 0 5 20\ndown 0 r\ncancel 1 7\noperator 2 switch lights\noperator 2 stop\nchange 0 6 20\nend\n")

pub vehicles_with_plans : (let v = drive_verdict whole in map (λ (d : Drive). d.vehicle) (drives_of v.before)) ≡ 0 ∷ 1 ∷ []
unfolding digits outcomes_from layout_of
vehicles_with_plans = refl

pub changes_that_are_planned : (let v = drive_verdict whole in map (λ (d : Drive). d.plan.changes) (drives_of v.before)) ≡ (record { step = 5; lead = 20 } ∷ record { step = 6; lead = 20 } ∷ []) ∷ [] ∷ []
unfolding digits outcomes_from layout_of
changes_that_are_planned = refl

pub cancels_that_are_planned : (let v = drive_verdict whole in map (λ (d : Drive). d.plan.cancel) (drives_of v.before)) ≡ None ∷ Some 7 ∷ []
unfolding digits outcomes_from layout_of
cancels_that_are_planned = refl

pub fates_of_messages : (let v = drive_verdict whole in map (λ (d : Drive). d.up) (drives_of v.before)) ≡ (fate.Lose ∷ fate.Deliver ∷ fate.Delay 3 ∷ []) ∷ [] ∷ []
unfolding digits outcomes_from layout_of
fates_of_messages = refl

pub fates_of_replies : (let v = drive_verdict whole in map (λ (d : Drive). d.down) (drives_of v.before)) ≡ (fate.Repeat ∷ []) ∷ [] ∷ []
unfolding digits outcomes_from layout_of
fates_of_replies = refl

pub orders_in_order : (let v = drive_verdict whole in orders_of v.before) ≡ record { moment = 2; order = order.Switch 1 } ∷ record { moment = 2; order = order.Stop } ∷ []
unfolding digits outcomes_from layout_of
orders_in_order = refl

pub step_at_the_end : (let v = drive_verdict whole in until_of v.before) ≡ 40
unfolding digits outcomes_from layout_of
step_at_the_end = refl

pub drivers_that_are_ahead : (let v = drive_verdict (three ++ codes "until 40\nplan 0 0 10 3 0 straight 500 500 0 1000 700 car early\nplan 1 1 12 3 0 straight 500 500 0 1000 700 car start\nend\n") in map (λ (d : Drive). d.plan.ahead) (drives_of v.before)) ≡ true ∷ false ∷ []
unfolding digits outcomes_from layout_of
drivers_that_are_ahead = refl
