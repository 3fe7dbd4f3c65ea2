-- Turns one after the other: where they begin, the calls of one, and that their log keeps the rules.
use Rattle.std.proofs.Common.{◌≡◌, ℕ, zero, suc, ◌+◌, ◌-◌, ◌<◌, ◌≤◌, Bool, true, false, nat_le, List, [], ◌∷◌, ◌++◌, reverse, Option, Some, None, if◌then◌else◌, refl, sym, ◌∙◌, ap, subst, arith}
use Rattle.std.proofs.lemmas.Bool.Decides.{nat_tests}
use Rattle.std.proofs.lemmas.List.{append-nil, append_assoc}
use Rattle.aim_messages.specs.declared.messages.Message.{Message}
use Rattle.aim_messages.specs.declared.replies.Reply.{Reply}
use Rattle.aim_driver.specs.declared.plans.DrivePlan.{DrivePlan}
use Rattle.aim_driver.specs.declared.logs.LogItem.{LogItem}
use Rattle.aim_driver.specs.declared.logs.LogItem.TheVariants as item
use Rattle.aim_driver.specs.declared.links.Fate.{Fate}
use Rattle.aim_driver.specs.declared.known.Known.{Known}
use Rattle.aim_driver.specs.Keeps.{keeps}
use Rattle.aim_driver.specs.Rules.{act_by, entered_on}
use Rattle.aim_driver.specs.Own.{kept, Stands}
use Rattle.aim_driver.specs.Steps.{known_got, known_sent, known_entered}
use Rattle.aim_driver.specs.Models.{step_of, acts, enters, with_sent, with_entered}
use Rattle.aim_driver.specs.Links.{under_way, delivered}
use Rattle.aim_driver.specs.Turns.{State, heard, hears, hears_all, entering, begun}
use Rattle.aim_driver.specs.Follows.{Call, Course, running, halted, fresh, call, taken, answered, called, calls_with, one_call, some_calls, calling, turn, turns, course, follows_from, follows}
use Rattle.aim_driver.proofs.SmallFacts.{true_le}
use Rattle.aim_driver.proofs.LinkLemmas.{fewer}
use Rattle.aim_driver.proofs.StandLemmas.{exact, stands_first, stands_got, stands_entered, stands_sent, act_is, enter_is, ends_at}

-- some turns and then some more
pub turns_then : (plan : DrivePlan) (first n m : ℕ) (c : Course) → turns plan first (n + m) c ≡ turns plan (first + n) m (turns plan first n c)
turns_then plan first n zero c = let e : n + 0 ≡ n = omega arith in ap (λ k. turns plan first k c) e
turns_then plan first n (suc m) c =
    let e : n + suc m ≡ suc (n + m) = omega arith in
    let at : first + (n + m) ≡ first + n + m = omega arith in
    ap (λ k. turns plan first k c) e ∙ ap (λ t. turn plan t (turns plan first (n + m) c)) at ∙ ap (λ d. turn plan (first + n + m) d) (turns_then plan first n m c)

-- before its first step a driver does nothing

idle_turn : (plan : DrivePlan) (up down : List Fate) (replies : List Reply) (t : ℕ) → nat_le plan.first t ≡ false → turn plan t (running (fresh up down) [] replies) ≡ running (fresh up down) [] replies
idle_turn plan up down replies t early = rw early refl

idle : (plan : DrivePlan) (up down : List Fate) (replies : List Reply) (first n : ℕ) → first + n ≤ plan.first → turns plan first n (running (fresh up down) [] replies) ≡ running (fresh up down) [] replies
idle plan up down replies first zero le = refl
idle plan up down replies first (suc n) le =
    let before = idle plan up down replies first n (omega arith) in
    let early : nat_le plan.first (first + n) ≡ false = not_le plan.first (first + n) (omega arith) in
    ap (λ d. turn plan (first + n) d) before ∙ idle_turn plan up down replies (first + n) early
  where
    not_le : (a b : ℕ) → b < a → nat_le a b ≡ false
    not_le a b lt = grind (arith, nat_tests)

-- a course that begins at a later step, but not past the plan's first
pub course_later : (plan : DrivePlan) (up down : List Fate) (first until : ℕ) (replies : List Reply) → first ≤ plan.first → first ≤ until → course plan up down first until replies ≡ course plan up down 0 until replies
course_later plan up down first until replies le le' =
    let start : Course = running (fresh up down) [] replies in
    let parts : until - 0 ≡ first + (until - first) = omega arith in
    let at : 0 + first ≡ first = omega arith in
    let still : turns plan 0 first start ≡ start = idle plan up down replies 0 first (omega arith) in
    let whole : turns plan 0 (until - 0) start ≡ turns plan first (until - first) start =
    ap (λ k. turns plan 0 k start) parts ∙ turns_then plan 0 first (until - first) start ∙ ap (λ t. turns plan t (until - first) (turns plan 0 first start)) at
    ∙ ap (λ d. turns plan first (until - first) d) still in
    sym whole

pub follows_later : (plan : DrivePlan) (up down : List Fate) (first until : ℕ) (replies : List Reply) → first ≤ plan.first → first ≤ until → follows_from plan up down first until replies ≡ follows plan up down until replies
follows_later plan up down first until replies le le' = ap (λ c. (c.state.log, c.calls)) (course_later plan up down first until replies le le')

-- a course in two parts
pub course_then : (plan : DrivePlan) (up down : List Fate) (first mid until : ℕ) (replies : List Reply) → first ≤ mid → mid ≤ until
    → course plan up down first until replies ≡ turns plan mid (until - mid) (course plan up down first mid replies)
course_then plan up down first mid until replies le le' =
    let start : Course = running (fresh up down) [] replies in
    let parts : until - first ≡ (mid - first) + (until - mid) = omega arith in
    let at : first + (mid - first) ≡ mid = omega arith in
    ap (λ k. turns plan first k start) parts ∙ turns_then plan first (mid - first) (until - mid) start ∙ ap (λ t. turns plan t (until - mid) (turns plan first (mid - first) start)) at

-- the calls of a turn: more tries than there are calls change nothing

pub fewer_up : (step : ℕ) (c : Course) (m : Message) → c.goes_on ≡ true → delivered c.state.up step ≡ Some m → under_way (one_call step c).state.up + 1 ≤ under_way c.state.up
fewer_up step c m on at =
    let less = fewer c.state.up step m at in
    let is : one_call step c ≡ called step c m c.left = ap (λ b. if b then calls_with step c (delivered c.state.up step) else c) on ∙ ap (λ o. calls_with step c o) at in
    let P : Course → Type 0 = λ d. under_way d.state.up + 1 ≤ under_way c.state.up in
    subst P (sym is) (either c.left less)
  where
    either : (rs : List Reply) → under_way (called step c m []).state.up + 1 ≤ under_way c.state.up → under_way (called step c m rs).state.up + 1 ≤ under_way c.state.up
    either [] h = h
    either (r ∷ rs) h = h

-- a course that stays as it is at a try stays so
pub still : (step : ℕ) (c : Course) (k n : ℕ) → k ≤ n → one_call step (some_calls step k c) ≡ some_calls step k c → some_calls step n c ≡ some_calls step k c
still step c k zero le same = let e : k ≡ 0 = omega arith in ap (λ j. some_calls step j c) (sym e)
still step c k (suc n) le same = go (nat_le k n) refl (λ le'. still step c k n le' same)
  where
    go : (b : Bool) → nat_le k n ≡ b → (k ≤ n → some_calls step n c ≡ some_calls step k c) → some_calls step (suc n) c ≡ some_calls step k c
    go true e before = ap (λ d. one_call step d) (before (true_le k n e)) ∙ same
    go false e before = let is : k ≡ suc n = grind (arith, nat_tests) in ap (λ j. some_calls step j c) (sym is)

-- a course that has halted makes no call, and neither does one to which nothing comes
pub halted_call : (step : ℕ) (c : Course) → c.goes_on ≡ false → one_call step c ≡ c
halted_call step c off = ap (λ b. if b then calls_with step c (delivered c.state.up step) else c) off

pub no_call : (step : ℕ) (c : Course) → delivered c.state.up step ≡ None → one_call step c ≡ c
no_call step c none = ap (λ o. if c.goes_on then calls_with step c o else c) none ∙ either c.goes_on
  where
    either : (b : Bool) → (if b then c else c) ≡ c
    either true = refl
    either false = refl

-- So many tries, each of which made a call; `none_yet` and `one_more` are the invariant of a loop that makes them, and
-- at its end `all_called` says that the course is the one after all calls of the turn.
pub record Calling (step : ℕ) (c d : Course) : Type 0 where
  pub count : ℕ
  pub so : d ≡ some_calls step count c
  pub left : under_way d.state.up + count ≤ under_way c.state.up

pub none_yet : (step : ℕ) (c : Course) → Calling step c c
none_yet step c = record { count = 0; so = refl; left = omega arith }

pub one_more : (step : ℕ) (c d : Course) (m : Message) → Calling step c d → d.goes_on ≡ true → delivered d.state.up step ≡ Some m → Calling step c (one_call step d)
one_more step c d m h on at = record {
  count = suc h.count;
  so = ap (λ x. one_call step x) h.so;
  left = let f = fewer_up step d m on at in let l = h.left in omega arith;
}

pub all_called : (step : ℕ) (c d : Course) → Calling step c d → one_call step d ≡ d → d ≡ calling step c
all_called step c d h same =
    let P : Course → Type 0 = λ x. one_call step x ≡ x in
    let le : h.count ≤ under_way c.state.up = (let l = h.left in omega arith) in
    h.so ∙ sym (still step c h.count (under_way c.state.up) le (subst P h.so same))

-- A turn's calls for whatever calls were made before it and whatever replies are left behind it: `no_calls` and
-- `more_calls` are the invariant of a loop that takes each message that comes, and `calls_end` and `calls_halt` are its
-- ends.
pub record Calls (step : ℕ) (s s' : State) (made : List Reply) (asks : List Call) : Type 0 where
  pub tries : (before : List Call) (more : List Reply) → Calling step (running s before (made ++ more)) (running s' (before ++ asks) more)

pub no_calls : (step : ℕ) (s : State) → Calls step s s [] []
no_calls step s = record {
  tries = λ before more. (
      let P : List Call → Type 0 = λ xs. Calling step (running s before more) (running s xs more) in
      subst P (sym (append-nil before)) (none_yet step (running s before more)));
}

answered_call : (step : ℕ) (s : State) (calls : List Call) (m : Message) (r : Reply) (rs : List Reply) → delivered s.up step ≡ Some m
    → one_call step (running s calls (r ∷ rs)) ≡ running (answered step s m r) (calls ++ call step m ∷ []) rs
answered_call step s calls m r rs at = ap (λ o. calls_with step (running s calls (r ∷ rs)) o) at

pub more_calls : (step : ℕ) (s s' : State) (made : List Reply) (asks : List Call) (m : Message) (r : Reply)
    → Calls step s s' made asks → delivered s'.up step ≡ Some m → Calls step s (answered step s' m r) (made ++ r ∷ []) (asks ++ call step m ∷ [])
more_calls step s s' made asks m r h at = record {
  tries = λ before more. (
      let d : Course = running s' (before ++ asks) (r ∷ more) in
      let one : Calling step (running s before (made ++ r ∷ more)) (one_call step d) = one_more step (running s before (made ++ r ∷ more)) d m (h.tries before (r ∷ more)) refl at in
      let P : Course → Type 0 = λ x. Calling step (running s before (made ++ r ∷ more)) x in
      let told = subst P (answered_call step s' (before ++ asks) m r more at) one in
      let Q : List Call → Type 0 = λ xs. Calling step (running s before (made ++ r ∷ more)) (running (answered step s' m r) xs more) in
      let R : List Reply → Type 0 = λ xs. Calling step (running s before xs) (running (answered step s' m r) (before ++ (asks ++ call step m ∷ [])) more) in
      subst R (sym (append_assoc made (r ∷ []) more)) (subst Q (append_assoc before asks (call step m ∷ [])) told));
}

pub calls_end : (step : ℕ) (s s' : State) (made : List Reply) (asks : List Call) → Calls step s s' made asks → delivered s'.up step ≡ None → (before : List Call) (more : List Reply)
    → calling step (running s before (made ++ more)) ≡ running s' (before ++ asks) more
calls_end step s s' made asks h none before more =
    sym (all_called step (running s before (made ++ more)) (running s' (before ++ asks) more) (h.tries before more) (no_call step (running s' (before ++ asks) more) none))

-- a message comes, and no reply is left
pub calls_halt : (step : ℕ) (s s' : State) (made : List Reply) (asks : List Call) (m : Message) → Calls step s s' made asks → delivered s'.up step ≡ Some m → (before : List Call)
    → calling step (running s before made) ≡ halted (taken step s') (before ++ (asks ++ call step m ∷ []))
calls_halt step s s' made asks m h at before =
    let d : Course = running s' (before ++ asks) [] in
    let c : Course = running s before (made ++ []) in
    let one = one_more step c d m (h.tries before []) refl at in
    let end : one_call step d ≡ halted (taken step s') (before ++ asks ++ call step m ∷ []) = ap (λ o. calls_with step d o) at in
    let off : (one_call step d).goes_on ≡ false = ap (λ x. x.goes_on) end in
    let all : one_call step d ≡ calling step c = all_called step c (one_call step d) one (halted_call step (one_call step d) off) in
    ap (λ xs. calling step (running s before xs)) (sym (append-nil made)) ∙ sym all ∙ end ∙ ap (λ xs. halted (taken step s') xs) (append_assoc before asks (call step m ∷ []))

-- a turn: it begins, and then makes its calls
pub turn_is : (plan : DrivePlan) (step : ℕ) (s s' : State) (made : List Reply) (asks : List Call) → Calls step (begun plan step s) s' made asks → delivered s'.up step ≡ None → (before : List Call) (more : List Reply)
    → turn plan step (running s before (made ++ more)) ≡ running s' (before ++ asks) more
turn_is plan step s s' made asks h none before more = calls_end step (begun plan step s) s' made asks h none before more

-- a turn in which a message comes and no reply is left
pub turn_halts : (plan : DrivePlan) (step : ℕ) (s s' : State) (made : List Reply) (asks : List Call) (m : Message) → Calls step (begun plan step s) s' made asks → delivered s'.up step ≡ Some m → (before : List Call)
    → turn plan step (running s before made) ≡ halted (taken step s') (before ++ (asks ++ call step m ∷ []))
turn_halts plan step s s' made asks m h at before = calls_halt step (begun plan step s) s' made asks m h at before

-- the log of a course keeps the rules

pub record IsReady (plan : DrivePlan) (step : ℕ) (log : List LogItem) : Type 0 where
  pub stands : Stands plan log (kept plan (reverse log))
  pub early : step_of log ≤ step

heard_ready : (plan : DrivePlan) (step : ℕ) (s : State) (o : Option (ℕ × Reply)) → IsReady plan step s.log → IsReady plan step (heard step s o).log
heard_ready plan step s None r = r
heard_ready plan step s (Some (seq, reply)) r = record {
  stands = exact plan _ _ (stands_got plan s.log (kept plan (reverse s.log)) step seq reply (known_got plan (kept plan (reverse s.log)) seq reply) r.stands r.early refl);
  early = ends_at s.log (s.log ++ item.Got step seq reply ∷ []) (item.Got step seq reply) refl;
}

pub hears_ready : (plan : DrivePlan) (step n : ℕ) (s : State) → IsReady plan step s.log → IsReady plan step (hears step n s).log
hears_ready plan step zero s r = r
hears_ready plan step (suc n) s r = let d = hears step n s in heard_ready plan step d (delivered d.down step) (hears_ready plan step n s r)

pub entered_ready : (plan : DrivePlan) (step : ℕ) (log : List LogItem) (o : Option ℕ) → enters plan log step ≡ o → IsReady plan step log → IsReady plan step (with_entered log step o)
entered_ready plan step log None is r = r
entered_ready plan step log (Some id) is r =
    let k : Known = kept plan (reverse log) in
    let on : entered_on plan k step ≡ Some id = enter_is plan log k step r.stands ∙ is in
    record {
      stands = exact plan _ _ (stands_entered plan log k step id (known_entered k step id) r.stands r.early on refl);
      early = ends_at log (log ++ item.Entered step id ∷ []) (item.Entered step id) refl;
    }

acted_ready : (plan : DrivePlan) (step : ℕ) (log : List LogItem) (o : Option Message) → acts plan log step ≡ o → IsReady plan step log → IsReady plan step (with_sent log step o)
acted_ready plan step log None is r = r
acted_ready plan step log (Some m) is r =
    let k : Known = kept plan (reverse log) in
    let on : act_by plan k step ≡ Some m = act_is plan log k step r.stands ∙ is in
    record {
      stands = exact plan _ _ (stands_sent plan log k step m (known_sent plan k step m) r.stands r.early on refl);
      early = ends_at log (log ++ item.Sent step m ∷ []) (item.Sent step m) refl;
    }

pub begun_ready : (plan : DrivePlan) (step : ℕ) (s : State) → IsReady plan step s.log → IsReady plan step (begun plan step s).log
begun_ready plan step s r =
    let all : State = hears_all step s in
    let in' : State = entering plan step all in
    acted_ready plan step in'.log (acts plan in'.log step) refl (entered_ready plan step all.log (enters plan all.log step) refl (hears_ready plan step (under_way s.down) s r))

one_log : (step : ℕ) (c : Course) → (one_call step c).state.log ≡ c.state.log
one_log step c = go c.goes_on
  where
    told : (m : Message) (rs : List Reply) → (called step c m rs).state.log ≡ c.state.log
    told m [] = refl
    told m (r ∷ rs) = refl

    comes : (o : Option Message) → (calls_with step c o).state.log ≡ c.state.log
    comes None = refl
    comes (Some m) = told m c.left

    go : (b : Bool) → (if b then calls_with step c (delivered c.state.up step) else c).state.log ≡ c.state.log
    go true = comes (delivered c.state.up step)
    go false = refl

pub some_log : (step n : ℕ) (c : Course) → (some_calls step n c).state.log ≡ c.state.log
some_log step zero c = refl
some_log step (suc n) c = one_log step (some_calls step n c) ∙ some_log step n c

turn_ready : (plan : DrivePlan) (step : ℕ) (c : Course) → IsReady plan step c.state.log → IsReady plan step (turn plan step c).state.log
turn_ready plan step c r = go c.goes_on
  where
    P : List LogItem → Type 0
    P = λ l. IsReady plan step l

    after : Course
    after = record c { state = begun plan step c.state }

    go : (b : Bool) → IsReady plan step (if b then calling step after else c).state.log
    go true = subst P (sym (some_log step (under_way after.state.up) after)) (begun_ready plan step c.state r)
    go false = r

later : (plan : DrivePlan) (step step' : ℕ) (log : List LogItem) → step ≤ step' → IsReady plan step log → IsReady plan step' log
later plan step step' log le r = record { stands = r.stands; early = let e = r.early in omega arith }

pub turns_ready : (plan : DrivePlan) (first n : ℕ) (c : Course) → IsReady plan first c.state.log → IsReady plan (first + n) (turns plan first n c).state.log
turns_ready plan first zero c r = later plan first (first + 0) c.state.log (omega arith) r
turns_ready plan first (suc n) c r =
    later plan (first + n) (first + suc n) (turn plan (first + n) (turns plan first n c)).state.log (omega arith) (turn_ready plan (first + n) (turns plan first n c) (turns_ready plan first n c r))

-- what a driver follows keeps the rules
pub follows_keeps : (plan : DrivePlan) (up down : List Fate) (first until : ℕ) (replies : List Reply) → plan.lead ≤ 65536 → keeps (follows_from plan up down first until replies).0 ≡ true
follows_keeps plan up down first until replies short =
    let start : IsReady plan first [] = record { stands = stands_first plan short; early = omega arith } in
    let r = turns_ready plan first (until - first) (running (fresh up down) [] replies) start in
    r.stands.rules
