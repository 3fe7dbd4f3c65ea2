-- How far a driver has come in the steps below one: it is exactly one of six.
use Rattle.std.specs.Prelude.{◌≡◌, ℕ, ◌<◌, ◌≤◌, ◌==◌, Bool, true, false, nat_le, List, filter, length, reverse, Option, Some, None, is_some, if◌then◌else◌}
use Rattle.aim_driver.specs.declared.plans.DrivePlan.{DrivePlan}
use Rattle.aim_driver.specs.declared.logs.Window.{Window}
use Rattle.aim_driver.specs.declared.logs.Entrance.{Entrance}
use Rattle.aim_driver.specs.declared.logs.LogItem.{LogItem}
use Rattle.aim_driver.specs.Logs.{has_stopped}
use Rattle.aim_driver.specs.Rules.{entrance, is_done_sent, opening, sendings, window}

pub data Progress : Type 0 where
  -- it entered, and has sent DONE
  through : Progress
  -- it entered, and hasn't
  inside : Progress
  -- it heard an EmergencyStop before it entered
  shut_out : Progress
  -- it was granted a window that is still to come
  waiting : Progress
  -- it has sent its 64 messages, and no window of it is to come
  spent : Progress
  -- it has no window, and messages left
  asking : Progress

-- it hasn't entered, and heard no EmergencyStop
pub record IsFree (past : List LogItem) : Type 0 where
  pub outside : entrance past ≡ None
  pub calm : has_stopped past ≡ false

-- the window of the reservation on which it is active opens at that step or behind it
pub record Waits (plan : DrivePlan) (past : List LogItem) (until : ℕ) : Type 0 where
  pub given : Window
  pub has : window past ≡ Some given
  pub to_come : until ≤ opening plan.ahead given

-- what the log says of a driver that has come so far: the log's items, the newest one first
abbrev pub HasCome : DrivePlan → List LogItem → ℕ → Progress → Type 0
HasCome plan past until through = (t : Entrance) × (entrance past ≡ Some t) × (is_done_sent past ≡ true)
HasCome plan past until inside = (t : Entrance) × (entrance past ≡ Some t) × (is_done_sent past ≡ false)
HasCome plan past until shut_out = (entrance past ≡ None) × (has_stopped past ≡ true)
HasCome plan past until waiting = IsFree past × Waits plan past until
HasCome plan past until spent = IsFree past × (64 ≤ sendings past) × (Waits plan past until → ⊥)
HasCome plan past until asking = IsFree past × (window past ≡ None) × (sendings past < 64)

-- the same as a question, which has one answer

abbrev pub is_to_come : DrivePlan → Option Window → ℕ → Bool
is_to_come plan None until = false
is_to_come plan (Some w) until = nat_le until (opening plan.ahead w)

abbrev pub progress_by : Bool → Bool → Bool → Bool → Bool → Progress
progress_by entered done stopped to_come all_sent =
    if entered then (if done then through else inside)
    else if stopped then shut_out
    else if to_come then waiting
    else if all_sent then spent
    else asking

abbrev pub progress_in : DrivePlan → List LogItem → ℕ → Progress
progress_in plan past until =
    progress_by (is_some (entrance past)) (is_done_sent past) (has_stopped past) (is_to_come plan (window past) until) (nat_le 64 (sendings past))

abbrev pub progress : DrivePlan → List LogItem → ℕ → Progress
progress plan log until = progress_in plan (reverse log) until

-- how many have come so far

abbrev pub rank : Progress → ℕ
rank through = 0
rank inside = 1
rank shut_out = 2
rank waiting = 3
rank spent = 4
rank asking = 5

abbrev pub how_many : Progress → List Progress → ℕ
how_many p ps = length (filter (λ q. rank p == rank q) ps)
