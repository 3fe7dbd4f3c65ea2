-- The steps up to which nothing turns that the rules test of a step. No public clause cites this file: by it a driver
-- says how long it does nothing.
use Rattle.std.specs.Prelude.{ℕ, ◌+◌, ◌-◌, min, Bool, nat_lt, Option, Some, None, if◌then◌else◌}
use Rattle.aim_driver.specs.declared.plans.PlannedChange.{PlannedChange}
use Rattle.aim_driver.specs.declared.plans.DrivePlan.{DrivePlan}
use Rattle.aim_driver.specs.declared.logs.Window.{Window}
use Rattle.aim_driver.specs.declared.logs.Entrance.{Entrance}
use Rattle.aim_driver.specs.declared.known.Known.{Known}
use Rattle.aim_driver.specs.Rules.{next_change, opening}

-- the lesser of `rest` and the step `at`, where that is still to come at `step`
abbrev pub by_turn : ℕ → ℕ → ℕ → ℕ
by_turn step at rest = if nat_lt step at then min at rest else rest

abbrev pub by_option : ℕ → Option ℕ → ℕ → ℕ
by_option step None rest = rest
by_option step (Some at) rest = by_turn step at rest

abbrev pub by_change : ℕ → Option PlannedChange → ℕ → ℕ
by_change step None rest = rest
by_change step (Some c) rest = by_turn step c.step rest

-- a window opens, and then it is over
abbrev pub by_window : Bool → ℕ → Option Window → ℕ → ℕ
by_window ahead step None rest = rest
by_window ahead step (Some w) rest = by_turn step (opening ahead w) (by_turn step (w.start + w.late + 1) rest)

-- the first step at which a crossing that began at the step `begun` is over
abbrev pub ending : ℕ → Window → ℕ
ending begun w = begun + w.last + 1 - w.start

abbrev pub by_crossing : ℕ → Option Entrance → Option Window → ℕ → ℕ
by_crossing step None w rest = rest
by_crossing step (Some e) None rest = rest
by_crossing step (Some e) (Some w) rest = by_turn step (ending e.step w) rest

-- the least step above `step` at which a test of the rules turns, or `rest` where that is less
abbrev pub same_until : DrivePlan → Known → ℕ → ℕ → ℕ
same_until plan k step rest =
    by_turn step plan.first
    (by_turn step k.next_allowed
    (by_turn step (k.last_sending + plan.resend)
    (by_option step plan.cancel
    (by_change step (next_change plan k)
    (by_window plan.ahead step k.window
    (by_crossing step k.entrance k.window rest))))))
