-- What a turn comes to where a Confirm was heard in time, and where a crossing is over.
use Rattle.std.proofs.Common.{◌≡◌, ℕ, ◌+◌, ◌<◌, true, false, List, [], ◌∷◌, ◌++◌, reverse, Option, Some, None, refl, ap, ◌∙◌}
use Rattle.std.proofs.lemmas.Bool.{and_right, lt-leb}
use Rattle.std.proofs.lemmas.List.{reverse-append}
use Rattle.aim_messages.specs.declared.messages.Message.{Message}
use Rattle.aim_messages.specs.declared.messages.Body.TheVariants as body
use Rattle.aim_driver.specs.declared.plans.DrivePlan.{DrivePlan}
use Rattle.aim_driver.specs.declared.logs.Window.{Window}
use Rattle.aim_driver.specs.declared.logs.Entrance.{Entrance}
use Rattle.aim_driver.specs.declared.logs.LogItem.{LogItem}
use Rattle.aim_driver.specs.declared.logs.LogItem.TheVariants as item
use Rattle.aim_driver.specs.Crossings.{crossing_of}
use Rattle.aim_driver.specs.Keeps.{is_over}
use Rattle.aim_driver.specs.Logs.{active, crossing, granted, has_stopped, latest}
use Rattle.aim_driver.specs.Models.{acts, with_entered, with_sent}
use Rattle.aim_driver.specs.Rules.{act_by, entered_on, entrance, is_done_sent, is_open, known, number, sendings}
use Rattle.aim_driver.specs.Turns.{State, begun, entering, hears_all}

-- the reservation on which it enters
enters_on : (plan : DrivePlan) (past : List LogItem) (step id : ℕ) (w : Window) → entrance past ≡ None → active past ≡ Some id → granted past id ≡ Some w → has_stopped past ≡ false → is_open plan (Some w) step ≡ true → entered_on plan (known plan past) step ≡ Some id
enters_on plan past step id w outside on told free open_now =
    rw (outside, free, on, told, open_now) refl

crossing_behind : (past : List LogItem) (step : ℕ) (m : Option Message) (log : List LogItem) → reverse log ≡ past → crossing (reverse (with_sent log step m)) ≡ crossing past
crossing_behind past step None log is = ap crossing is
crossing_behind past step (Some m) log is = ap crossing (reverse-append log (item.Sent step m ∷ [])) ∙ ap crossing is

-- who is active in its window, and heard no stop, crosses
pub crosses_in_time : (plan : DrivePlan) (step id : ℕ) (w : Window) (s : State) → (let past = reverse (hears_all step s).log in
    entrance past ≡ None → active past ≡ Some id → granted past id ≡ Some w → has_stopped past ≡ false → is_open plan (Some w) step ≡ true
    → crossing_of (begun plan step s).log ≡ Some (record { step = step; id = id; window = Some w }))
crosses_in_time plan step id w s outside on told free open_now =
    let d = hears_all step s in
    let past = reverse d.log in
    let entered : (entering plan step d).log ≡ d.log ++ item.Entered step id ∷ [] = ap (with_entered d.log step) (enters_on plan past step id w outside on told free open_now) in
    let behind : reverse (entering plan step d).log ≡ item.Entered step id ∷ past = ap reverse entered ∙ reverse-append d.log (item.Entered step id ∷ []) in
    crossing_behind (item.Entered step id ∷ past) step (acts plan (entering plan step d).log step) (entering plan step d).log behind
    ∙ ap (λ (o : Option Window). Some (record { step = step; id = id; window = o })) told

-- who entered enters no more
enters_no_more : (plan : DrivePlan) (past : List LogItem) (step : ℕ) (e : Entrance) → entrance past ≡ Some e → entered_on plan (known plan past) step ≡ None
enters_no_more plan past step e inside = rw inside refl

-- what it sends where its crossing is over
sends_done : (plan : DrivePlan) (past : List LogItem) (step : ℕ) (e : Entrance) (w : Window) → entrance past ≡ Some e → granted past e.id ≡ Some w → is_done_sent past ≡ false → sendings past < 64 → is_over e.step w step ≡ true
    → act_by plan (known plan past) step ≡ Some (record { seq = number (latest past) + 1; body = body.Done e.id })
sends_done plan past step e w inside told unsent few over =
    rw (lt-leb 64 (sendings past) few, inside, and_right (has_stopped past) false refl, unsent, told, over) refl

-- who is past its crossing sends DONE, unless it has sent its 64 messages
pub is_done_in_time : (plan : DrivePlan) (step : ℕ) (e : Entrance) (w : Window) (s : State) → (let past = reverse (hears_all step s).log in
    entrance past ≡ Some e → granted past e.id ≡ Some w → is_done_sent past ≡ false → sendings past < 64 → is_over e.step w step ≡ true
    → (begun plan step s).log ≡ (hears_all step s).log ++ item.Sent step (record { seq = number (latest past) + 1; body = body.Done e.id }) ∷ [])
is_done_in_time plan step e w s inside told unsent few over =
    let d = hears_all step s in
    let past = reverse d.log in
    let outside : (entering plan step d).log ≡ d.log = ap (with_entered d.log step) (enters_no_more plan past step e inside) in
    ap (λ (l : List LogItem). with_sent l step (acts plan l step)) outside ∙ ap (with_sent d.log step) (sends_done plan past step e w inside told unsent few over)
