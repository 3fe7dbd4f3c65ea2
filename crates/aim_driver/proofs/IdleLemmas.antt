-- Up to the least step at which a test of the rules turns, a driver that does nothing goes on doing nothing.
use Rattle.std.proofs.Common.{◌≡◌, ℕ, ◌+◌, ◌<◌, ◌≤◌, min, Bool, true, false, ◌&&◌, not, nat_lt, nat_le, Option, Some, None, is_some, is_none, refl, sym, ◌∙◌, ap, if◌then◌else◌, arith}
use Rattle.std.proofs.lemmas.Bool.Decides.{nat_tests}
use Rattle.aim_driver.specs.declared.plans.PlannedChange.{PlannedChange}
use Rattle.aim_driver.specs.declared.plans.DrivePlan.{DrivePlan}
use Rattle.aim_driver.specs.declared.logs.Window.{Window}
use Rattle.aim_driver.specs.declared.logs.Entrance.{Entrance}
use Rattle.aim_driver.specs.declared.known.Known.{Known}
use Rattle.aim_driver.specs.Logs.{is_waiting_with}
use Rattle.aim_driver.specs.Keeps.{is_over}
use Rattle.aim_driver.specs.Replies.{held}
use Rattle.aim_driver.specs.Rules.{is_shut_out, is_crossing, finish, reserved, is_due, is_cancelling, is_due_change, next_change, is_changing, change, is_too_late, may_request, starts_in, opening, is_open, entered_on, act_by}
use Rattle.aim_driver.specs.Idle.{by_turn, by_option, by_change, by_window, ending, by_crossing, same_until}

-- of one step: what is below the lesser of two is below both, and what is above a step that is still to come is as before

turns_later : (step at rest : ℕ) → step < rest → step < by_turn step at rest
turns_later step at rest lt = go (nat_lt step at) refl
  where
    go : (b : Bool) → nat_lt step at ≡ b → step < (if b then min at rest else rest)
    go true h = grind (arith, nat_tests)
    go false h = lt

below_rest : (step at rest s : ℕ) → s < by_turn step at rest → s < rest
below_rest step at rest s = go (nat_lt step at)
  where
    go : (b : Bool) → s < (if b then min at rest else rest) → s < rest
    go true h = omega arith
    go false h = h

same_test : (step at rest s : ℕ) → step ≤ s → s < by_turn step at rest → nat_le at s ≡ nat_le at step
same_test step at rest s le = go (nat_lt step at) refl
  where
    go : (b : Bool) → nat_lt step at ≡ b → s < (if b then min at rest else rest) → nat_le at s ≡ nat_le at step
    go true h lt = let early : s < at = omega arith in grind (arith, nat_tests)
    go false h lt = grind (arith, nat_tests)

option_same : (step : ℕ) (o : Option ℕ) (rest s : ℕ) → step ≤ s → s < by_option step o rest → is_due o s ≡ is_due o step
option_same step None rest s le lt = refl
option_same step (Some at) rest s le lt = same_test step at rest s le lt

option_rest : (step : ℕ) (o : Option ℕ) (rest s : ℕ) → s < by_option step o rest → s < rest
option_rest step None rest s lt = lt
option_rest step (Some at) rest s lt = below_rest step at rest s lt

option_later : (step : ℕ) (o : Option ℕ) (rest : ℕ) → step < rest → step < by_option step o rest
option_later step None rest lt = lt
option_later step (Some at) rest lt = turns_later step at rest lt

change_same : (step : ℕ) (o : Option PlannedChange) (rest s : ℕ) → step ≤ s → s < by_change step o rest → is_due_change o s ≡ is_due_change o step
change_same step None rest s le lt = refl
change_same step (Some c) rest s le lt = same_test step c.step rest s le lt

change_rest : (step : ℕ) (o : Option PlannedChange) (rest s : ℕ) → s < by_change step o rest → s < rest
change_rest step None rest s lt = lt
change_rest step (Some c) rest s lt = below_rest step c.step rest s lt

change_later : (step : ℕ) (o : Option PlannedChange) (rest : ℕ) → step < rest → step < by_change step o rest
change_later step None rest lt = lt
change_later step (Some c) rest lt = turns_later step c.step rest lt

-- a window begins at its opening, and ends one step before it is over

pub starts_is : (ahead : Bool) (w : Window) (s : ℕ) → starts_in ahead w s ≡ nat_le (opening ahead w) s
starts_is true w s = grind (arith, nat_tests)
starts_is false w s = refl

ends_is : (end s : ℕ) → nat_le s end ≡ not (nat_le (end + 1) s)
ends_is end s = grind (arith, nat_tests)

late_is : (end s : ℕ) → nat_lt end s ≡ nat_le (end + 1) s
late_is end s = grind (arith, nat_tests)

over_is : (begun : ℕ) (w : Window) (s : ℕ) → is_over begun w s ≡ nat_le (ending begun w) s
over_is begun w s = grind (arith, nat_tests)

window_rest : (ahead : Bool) (step : ℕ) (o : Option Window) (rest s : ℕ) → s < by_window ahead step o rest → s < rest
window_rest ahead step None rest s lt = lt
window_rest ahead step (Some w) rest s lt = below_rest step (w.start + w.late + 1) rest s (below_rest step (opening ahead w) _ s lt)

window_later : (ahead : Bool) (step : ℕ) (o : Option Window) (rest : ℕ) → step < rest → step < by_window ahead step o rest
window_later ahead step None rest lt = lt
window_later ahead step (Some w) rest lt = turns_later step (opening ahead w) _ (turns_later step (w.start + w.late + 1) rest lt)

open_same : (plan : DrivePlan) (step : ℕ) (o : Option Window) (rest s : ℕ) → step ≤ s → s < by_window plan.ahead step o rest → is_open plan o s ≡ is_open plan o step
open_same plan step None rest s le lt = refl
open_same plan step (Some w) rest s le lt =
    let end : ℕ = w.start + w.late in
    let begins : starts_in plan.ahead w s ≡ starts_in plan.ahead w step =
    starts_is plan.ahead w s ∙ same_test step (opening plan.ahead w) _ s le lt ∙ sym (starts_is plan.ahead w step) in
    let over : nat_le (end + 1) s ≡ nat_le (end + 1) step = same_test step (end + 1) rest s le (below_rest step (opening plan.ahead w) _ s lt) in
    let ends : nat_le s end ≡ nat_le step end = ends_is end s ∙ ap (λ b. not b) over ∙ sym (ends_is end step) in
    λ i. begins i && ends i

late_same : (ahead : Bool) (step : ℕ) (o : Option Window) (rest s : ℕ) → step ≤ s → s < by_window ahead step o rest → is_too_late o s ≡ is_too_late o step
late_same ahead step None rest s le lt = refl
late_same ahead step (Some w) rest s le lt =
    let end : ℕ = w.start + w.late in
    late_is end s ∙ same_test step (end + 1) rest s le (below_rest step (opening ahead w) _ s lt) ∙ sym (late_is end step)

crossing_later : (step : ℕ) (o : Option Entrance) (w : Option Window) (rest : ℕ) → step < rest → step < by_crossing step o w rest
crossing_later step None w rest lt = lt
crossing_later step (Some e) None rest lt = lt
crossing_later step (Some e) (Some w) rest lt = turns_later step (ending e.step w) rest lt

-- all tests of the rules are the same at two steps
record Alike (plan : DrivePlan) (k : Known) (step s : ℕ) : Type 0 where
  first : nat_le plan.first s ≡ nat_le plan.first step
  next : nat_le k.next_allowed s ≡ nat_le k.next_allowed step
  resend : nat_le (k.last_sending + plan.resend) s ≡ nat_le (k.last_sending + plan.resend) step
  cancel : is_due plan.cancel s ≡ is_due plan.cancel step
  change : is_due_change (next_change plan k) s ≡ is_due_change (next_change plan k) step
  opens : is_open plan k.window s ≡ is_open plan k.window step
  late : is_too_late k.window s ≡ is_too_late k.window step
  over : finish k step k.entrance k.window ≡ None → finish k s k.entrance k.window ≡ None

-- where one test is the same at both steps, and both ways give nothing again
branch : {A : Type 0} (b c : Bool) (x x' y y' : Option A) → c ≡ b → (x ≡ None → x' ≡ None) → (y ≡ None → y' ≡ None) → (if b then x else y) ≡ None → (if c then x' else y') ≡ None
branch true true x x' y y' same f g e = f e
branch false false x x' y y' same f g e = g e
branch true false x x' y y' same f g e = absurd (cc same)
branch false true x x' y y' same f g e = absurd (cc same)

finish_none : (k : Known) (step : ℕ) (o : Option Entrance) (w : Option Window) (rest s : ℕ) → step ≤ s → s < by_crossing step o w rest → finish k step o w ≡ None → finish k s o w ≡ None
finish_none k step None w rest s le lt e = refl
finish_none k step (Some x) None rest s le lt e = refl
finish_none k step (Some x) (Some w) rest s le lt e =
    let same : is_over x.step w s ≡ is_over x.step w step = over_is x.step w s ∙ same_test step (ending x.step w) rest s le lt ∙ sym (over_is x.step w step) in
    branch (is_over x.step w step) (is_over x.step w s) _ _ _ _ same (λ n. n) (λ n. n) e

same_tests : (plan : DrivePlan) (k : Known) (step rest s : ℕ) → step ≤ s → s < same_until plan k step rest → Alike plan k step s
same_tests plan k step rest s le lt =
    let lt1 = below_rest step plan.first _ s lt in
    let lt2 = below_rest step k.next_allowed _ s lt1 in
    let lt3 = below_rest step (k.last_sending + plan.resend) _ s lt2 in
    let lt4 = option_rest step plan.cancel _ s lt3 in
    let lt5 = change_rest step (next_change plan k) _ s lt4 in
    record {
      first = same_test step plan.first _ s le lt;
      next = same_test step k.next_allowed _ s le lt1;
      resend = same_test step (k.last_sending + plan.resend) _ s le lt2;
      cancel = option_same step plan.cancel _ s le lt3;
      change = change_same step (next_change plan k) _ s le lt4;
      opens = open_same plan step k.window _ s le lt5;
      late = late_same plan.ahead step k.window _ s le lt5;
      over = finish_none k step k.entrance k.window rest s le (window_rest plan.ahead step k.window _ s lt5);
    }

enters_none : (plan : DrivePlan) (k : Known) (step s : ℕ) → Alike plan k step s → entered_on plan k step ≡ None → entered_on plan k s ≡ None
enters_none plan k step s t e =
    branch (is_none k.entrance && not k.has_stopped && is_open plan k.window step) (is_none k.entrance && not k.has_stopped && is_open plan k.window s) _ _ _ _
    (ap (λ b. is_none k.entrance && not k.has_stopped && b) t.opens) (λ n. n) (λ n. n) e

change_none : (plan : DrivePlan) (k : Known) (step s : ℕ) (o : Option ℕ) (c : Option PlannedChange) → change plan k step o c ≡ None → change plan k s o c ≡ None
change_none plan k step s None c e = refl
change_none plan k step s (Some id) None e = refl
change_none plan k step s (Some id) (Some c) e = absurd (cc e)

acts_none : (plan : DrivePlan) (k : Known) (step s : ℕ) → Alike plan k step s → act_by plan k step ≡ None → act_by plan k s ≡ None
acts_none plan k step s t e =
    branch (nat_le 64 k.sendings) (nat_le 64 k.sendings) _ _ _ _ refl (λ n. n)
    (branch (is_shut_out k) (is_shut_out k) _ _ _ _ refl (λ n. n)
    (branch (is_crossing k) (is_crossing k) _ _ _ _ refl t.over
    (branch (is_cancelling plan k step) (is_cancelling plan k s) _ _ _ _ (ap (λ b. is_none k.entrance && is_some (reserved k) && b && not k.is_cancel_used) t.cancel) (λ n. n)
    (branch (is_changing plan k step) (is_changing plan k s) _ _ _ _ (ap (λ b. is_none k.entrance && is_some (reserved k) && b) t.change) (change_none plan k step s (reserved k) (next_change plan k))
    (branch (is_waiting_with k.latest k.answer) (is_waiting_with k.latest k.answer) _ _ _ _ refl
    (branch (nat_le (k.last_sending + plan.resend) step) (nat_le (k.last_sending + plan.resend) s) _ _ _ _ t.resend (λ n. n) (λ n. n))
    (branch k.is_done_sent k.is_done_sent _ _ _ _ refl (λ n. n)
    (branch (is_some k.active) (is_some k.active) _ _ _ _ refl
    (branch (is_too_late k.window step) (is_too_late k.window s) _ _ _ _ t.late (λ n. n) (λ n. n))
    (branch (is_some (held k.answer)) (is_some (held k.answer)) _ _ _ _ refl (λ n. n)
    (branch (may_request plan k step) (may_request plan k s) _ _ _ _ (λ i. t.first i && t.next i) (λ n. absurd (cc n)) (λ n. n)))))))))) e

pub idle_so : (plan : DrivePlan) (k : Known) (step rest s : ℕ) → entered_on plan k step ≡ None → act_by plan k step ≡ None → step ≤ s → s < same_until plan k step rest
    → (entered_on plan k s ≡ None) × (act_by plan k s ≡ None)
idle_so plan k step rest s free calm le lt =
    let t = same_tests plan k step rest s le lt in (enters_none plan k step s t free, acts_none plan k step s t calm)

pub later_so : (plan : DrivePlan) (k : Known) (step rest : ℕ) → step < rest → step < same_until plan k step rest
later_so plan k step rest lt =
    turns_later step plan.first _
    (turns_later step k.next_allowed _
    (turns_later step (k.last_sending + plan.resend) _
    (option_later step plan.cancel _
    (change_later step (next_change plan k) _
    (window_later plan.ahead step k.window _
    (crossing_later step k.entrance k.window rest lt))))))

pub none_of : {A : Type 0} (o : Option A) → is_some o ≡ false → o ≡ None
none_of None e = refl
none_of (Some x) e = absurd (cc e)
