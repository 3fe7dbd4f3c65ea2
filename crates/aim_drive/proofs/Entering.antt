-- A driver enters at no step behind those of its turns.
use Rattle.std.proofs.Common.{◌≡◌, ℕ, zero, suc, ◌+◌, ◌-◌, ◌≤◌, Bool, true, false, List, [], ◌∷◌, ◌++◌, length, map, get_or, Option, Some, None, if◌then◌else◌, ap, ◌∙◌, sym, subst, arith}
use Rattle.std.specs.Prelude.{All}
use Rattle.std.proofs.lemmas.List.{get_or-map, length-map}
use Rattle.aim_messages.specs.declared.entries.Entry.{Entry}
use Rattle.aim_messages.specs.declared.messages.Message.{Message}
use Rattle.aim_messages.specs.declared.replies.Reply.{Reply}
use Rattle.aim_layout.specs.Intersection.{Intersection}
use Rattle.aim_driver.specs.declared.plans.DrivePlan.{DrivePlan}
use Rattle.aim_driver.specs.declared.logs.LogItem.{LogItem}
use Rattle.aim_driver.specs.declared.logs.LogItem.TheVariants as item
use Rattle.aim_driver.specs.declared.links.Fate.{Fate}
use Rattle.aim_driver.specs.Fits.{replies_of}
use Rattle.aim_driver.specs.Models.{acts, enters, with_entered}
use Rattle.aim_driver.specs.Links.{under_way, delivered}
use Rattle.aim_driver.specs.Turns.{State, heard, hears, hears_all, entering, sending, begun}
use Rattle.aim_driver.specs.Follows.{Call, Course, running, fresh, called, calls_with, one_call, some_calls, calling, turn, turns, follows_from}
use Rattle.aim_driver.specs.declared.orders.Ordered.{Ordered}
use Rattle.aim_drive_script.specs.Said.{Drive}
use Rattle.aim_safety.specs.Tiles.{EntersBy}
use Rattle.aim_drive.specs.declared.running.Logged.{Logged}
use Rattle.aim_drive.specs.Headline.{VehicleLog, IsFollowed, Headline}
use Rattle.aim_drive.specs.Making.{log_of}
use Rattle.aim_drive.proofs.Lists.{element, reads_at}

EntersBy-append : (most : ℕ) (xs ys : List LogItem) → EntersBy most xs → EntersBy most ys → EntersBy most (xs ++ ys)
EntersBy-append most [] ys a b = b
EntersBy-append most (item.Sent step m ∷ xs) ys a b = EntersBy-append most xs ys a b
EntersBy-append most (item.Got step seq r ∷ xs) ys a b = EntersBy-append most xs ys a b
EntersBy-append most (item.Entered step id ∷ xs) ys a b = (a.0, EntersBy-append most xs ys a.1 b)

heard_by : (most step : ℕ) (s : State) (o : Option (ℕ × Reply)) → EntersBy most s.log → EntersBy most (heard step s o).log
heard_by most step s None h = h
heard_by most step s (Some (seq, r)) h = EntersBy-append most s.log (item.Got step seq r ∷ []) h tt

hears_by : (most step n : ℕ) (s : State) → EntersBy most s.log → EntersBy most (hears step n s).log
hears_by most step zero s h = h
hears_by most step (suc n) s h = let d = hears step n s in heard_by most step d (delivered d.down step) (hears_by most step n s h)

entered_by : (most step : ℕ) (log : List LogItem) (o : Option ℕ) → step ≤ most → EntersBy most log → EntersBy most (with_entered log step o)
entered_by most step log None le h = h
entered_by most step log (Some id) le h = EntersBy-append most log (item.Entered step id ∷ []) h (le, tt)

sent_by : (most step : ℕ) (s : State) (o : Option Message) → EntersBy most s.log → EntersBy most (sending step s o).log
sent_by most step s None h = h
sent_by most step s (Some m) h = EntersBy-append most s.log (item.Sent step m ∷ []) h tt

begun_by : (most : ℕ) (plan : DrivePlan) (step : ℕ) (s : State) → step ≤ most → EntersBy most s.log → EntersBy most (begun plan step s).log
begun_by most plan step s le h =
    let all : State = hears_all step s in
    let in' : State = entering plan step all in
    sent_by most step in' (acts plan in'.log step) (entered_by most step all.log (enters plan all.log step) le (hears_by most step (under_way s.down) s h))

called_by : (most step : ℕ) (c : Course) (m : Message) (rs : List Reply) → EntersBy most c.state.log → EntersBy most (called step c m rs).state.log
called_by most step c m [] h = h
called_by most step c m (r ∷ rs) h = h

one_by : (most step : ℕ) (c : Course) → EntersBy most c.state.log → EntersBy most (one_call step c).state.log
one_by most step c h = go c.goes_on
  where
    comes : (o : Option Message) → EntersBy most (calls_with step c o).state.log
    comes None = h
    comes (Some m) = called_by most step c m c.left h

    go : (b : Bool) → EntersBy most (if b then calls_with step c (delivered c.state.up step) else c).state.log
    go true = comes (delivered c.state.up step)
    go false = h

some_by : (most step n : ℕ) (c : Course) → EntersBy most c.state.log → EntersBy most (some_calls step n c).state.log
some_by most step zero c h = h
some_by most step (suc n) c h = one_by most step (some_calls step n c) (some_by most step n c h)

turn_by : (most : ℕ) (plan : DrivePlan) (step : ℕ) (c : Course) → step ≤ most → EntersBy most c.state.log → EntersBy most (turn plan step c).state.log
turn_by most plan step c le h = go c.goes_on
  where
    after : Course
    after = record c { state = begun plan step c.state }

    go : (b : Bool) → EntersBy most (if b then calling step after else c).state.log
    go true = some_by most step (under_way after.state.up) after (begun_by most plan step c.state le h)
    go false = h

turns_by : (most : ℕ) (plan : DrivePlan) (first n : ℕ) (c : Course) → first + n ≤ most + 1 → EntersBy most c.state.log → EntersBy most (turns plan first n c).state.log
turns_by most plan first zero c le h = h
turns_by most plan first (suc n) c le h = turn_by most plan (first + n) (turns plan first n c) (omega arith) (turns_by most plan first n c (omega arith) h)

-- in the log that a driver follows it enters below the step at which its turns end
pub follows_by : (most : ℕ) (plan : DrivePlan) (up down : List Fate) (first until : ℕ) (replies : List Reply) → first ≤ until → until ≤ most + 1 → EntersBy most (follows_from plan up down first until replies).0
follows_by most plan up down first until replies le below = turns_by most plan first (until - first) (running (fresh up down) [] replies) (omega arith) tt

pub followed_by : (most until : ℕ) (h : List Entry) (d : Drive) (log : List LogItem) → IsFollowed until h d log → until ≤ most + 1 → EntersBy most log
followed_by most until h d log f below =
    subst (λ (r : List LogItem × List Call). EntersBy most r.0) f.course (follows_by most d.plan d.up d.down 0 until (replies_of h d.vehicle) (omega arith) below)

-- so tells of its tiles fit
pub enters_by : {until : ℕ} {h : List Entry} {d : Drive} {log : List LogItem} → IsFollowed until h d log → until ≤ 65536 → EntersBy 2147483648 log
enters_by {until} {h} {d} {log} f below = followed_by 2147483648 until h d log f (omega arith)

-- each log of a drive
pub logs_enter_by : (i : Intersection) (vehicles until size : ℕ) (drives : List Drive) (orders : List Ordered) (h : List Entry) (logs : List Logged)
    → until ≤ 65536 → Headline i vehicles until size drives orders h (map log_of logs) → All (λ (l : Logged). EntersBy 2147483648 l.driver.log) logs
logs_enter_by i vehicles until size drives orders h logs below x k l lt =
    let count : length logs ≡ length drives =
    sym (length-map logs log_of) ∙ sym (length-map (map log_of logs) (λ (x : VehicleLog). x.0)) ∙ ap (λ (ns : List ℕ). length ns) x.whose ∙ length-map drives (λ (d : Drive). d.vehicle) in
    let d = element drives k (omega arith) in
    let many : length (map log_of logs) ≡ length logs = length-map logs log_of in
    let f = x.followed k (get_or drives k d.0) (get_or (map log_of logs) k (log_of l)) (reads_at drives k d.0 (omega arith)) (reads_at (map log_of logs) k (log_of l) (omega arith)) in
    subst (λ (y : VehicleLog). EntersBy 2147483648 y.1) (get_or-map log_of logs k l (log_of l) lt) (enters_by f below)
