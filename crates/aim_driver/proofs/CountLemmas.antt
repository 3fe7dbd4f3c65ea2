-- A driver makes at most 128 calls: it sends at most 64 messages, and none of them comes more than twice.
use Rattle.std.proofs.Common.{◌≡◌, inl, inr, ℕ, zero, suc, ◌+◌, ◌-◌, ◌*◌, ◌≤◌, Bool, true, false, nat_le, List, [], ◌∷◌, ◌++◌, reverse, length, sum_by, slice_get, Option, Some, None, if◌then◌else◌, refl, ◌∙◌, ap, arith, length-append}
use Rattle.std.proofs.lemmas.Bool.Decides.{nat_tests}
use Rattle.std.proofs.lemmas.List.{reverse-append, length-set}
use Rattle.std.proofs.lemmas.List.Sums.{sum_by-append}
use Rattle.aim_messages.specs.declared.messages.Message.{Message}
use Rattle.aim_messages.specs.declared.replies.Reply.{Reply}
use Rattle.aim_driver.specs.declared.plans.DrivePlan.{DrivePlan}
use Rattle.aim_driver.specs.declared.logs.LogItem.{LogItem}
use Rattle.aim_driver.specs.declared.logs.LogItem.TheVariants as item
use Rattle.aim_driver.specs.declared.links.Fate.{Fate}
use Rattle.aim_driver.specs.declared.links.Sending.{Sending}
use Rattle.aim_driver.specs.declared.known.Known.{Known}
use Rattle.aim_driver.specs.Rules.{known, act_by, sendings}
use Rattle.aim_driver.specs.Models.{acts, enters, with_entered}
use Rattle.aim_driver.specs.Links.{LinkModel, fate_at, copies_left, under_way, sent_on, next_place, delivered, came_again, after_coming, after_delivery}
use Rattle.aim_driver.specs.Turns.{State, heard, hears, hears_all, entering, sending, begun}
use Rattle.aim_driver.specs.Follows.{Call, Course, running, fresh, call, called, calls_with, one_call, some_calls, calling, turn, turns, follows_from}
use Rattle.aim_driver.proofs.SmallFacts.{if_some, none_some}
use Rattle.aim_driver.proofs.LinkLemmas.{few_dues, fewer}

pub record IsFew (calls : List Call) (s : State) : Type 0 where
  pub counted : length calls + under_way s.up ≤ 2 * length s.up.sent
  pub sent : length s.up.sent ≤ sendings (reverse s.log)
  pub few : sendings (reverse s.log) ≤ 64

newest : (log : List LogItem) (x : LogItem) → sendings (reverse (log ++ x ∷ [])) ≡ sendings (x ∷ reverse log)
newest log x = ap (λ l. sendings l) (reverse-append log (x ∷ []))

heard_few : (calls : List Call) (step : ℕ) (s : State) (o : Option (ℕ × Reply)) → IsFew calls s → IsFew calls (heard step s o)
heard_few calls step s None h = h
heard_few calls step s (Some (seq, r)) h =
    let same : sendings (reverse (s.log ++ item.Got step seq r ∷ [])) ≡ sendings (reverse s.log) = newest s.log (item.Got step seq r) in
    record { counted = h.counted; sent = let f = h.sent in omega arith; few = let f = h.few in omega arith }

hears_few : (calls : List Call) (step n : ℕ) (s : State) → IsFew calls s → IsFew calls (hears step n s)
hears_few calls step zero s h = h
hears_few calls step (suc n) s h = let d = hears step n s in heard_few calls step d (delivered d.down step) (hears_few calls step n s h)

entered_few : (calls : List Call) (step : ℕ) (s : State) (o : Option ℕ) → IsFew calls s → IsFew calls (record s { log = with_entered s.log step o })
entered_few calls step s None h = h
entered_few calls step s (Some id) h =
    let same : sendings (reverse (s.log ++ item.Entered step id ∷ [])) ≡ sendings (reverse s.log) = newest s.log (item.Entered step id) in
    record { counted = h.counted; sent = let f = h.sent in omega arith; few = let f = h.few in omega arith }

-- what is sent is not the 65th message
not_all_sent : (plan : DrivePlan) (k : Known) (step : ℕ) (m : Message) → act_by plan k step ≡ Some m → nat_le 64 k.sendings ≡ false
not_all_sent plan k step m e = elim (if_some (nat_le 64 k.sendings) None _ m e) [ inl p ↦ none_some m p.1 | inr p ↦ p.0 ]

sent_few : (calls : List Call) (plan : DrivePlan) (step : ℕ) (s : State) (o : Option Message) → acts plan s.log step ≡ o → IsFew calls s → IsFew calls (sending step s o)
sent_few calls plan step s None is h = h
sent_few calls plan step s (Some m) is h =
    let new : Sending Message = record { step = step; item = m; fate = fate_at s.up.fates (length s.up.sent); came = 0 } in
    let more : sendings (reverse (s.log ++ item.Sent step m ∷ [])) ≡ sendings (reverse s.log) + 1 = newest s.log (item.Sent step m) in
    let below : nat_le 64 (sendings (reverse s.log)) ≡ false = not_all_sent plan (known plan (reverse s.log)) step m is in
    let one : sum_by copies_left (new ∷ []) ≡ copies_left new = omega arith in
    let sums : under_way (sent_on s.up step m) ≡ under_way s.up + copies_left new = sum_by-append copies_left s.up.sent (new ∷ []) ∙ ap (λ n. under_way s.up + n) one in
    let two : copies_left new ≤ 2 = (let f = few_dues step new.fate in omega arith) in
    let longer : length (s.up.sent ++ new ∷ []) ≡ length s.up.sent + 1 = length-append s.up.sent (new ∷ []) in
    record {
      counted = let c = h.counted in omega arith;
      sent = let f = h.sent in omega arith;
      few = let f = h.few in grind (arith, nat_tests);
    }

begun_few : (calls : List Call) (plan : DrivePlan) (step : ℕ) (s : State) → IsFew calls s → IsFew calls (begun plan step s)
begun_few calls plan step s h =
    let all : State = hears_all step s in
    let in' : State = entering plan step all in
    sent_few calls plan step in' (acts plan in'.log step) refl (entered_few calls step all (enters plan all.log step) (hears_few calls step (under_way s.down) s h))

length_after : {X : Type 0} (l : LinkModel X) (step : ℕ) → length (after_delivery l step).sent ≡ length l.sent
length_after {X} l step = go (next_place l step)
  where
    again : (k : ℕ) (o : Option (Sending X)) → length (came_again l.sent k o) ≡ length l.sent
    again k None = refl
    again k (Some s) = length-set l.sent k (record s { came = s.came + 1 })

    go : (o : Option ℕ) → length (after_coming l.sent o) ≡ length l.sent
    go None = refl
    go (Some k) = again k (slice_get l.sent k)

abbrev IsFewCourse : Course → Type 0
IsFewCourse c = IsFew c.calls c.state

called_few : (step : ℕ) (c : Course) (m : Message) (rs : List Reply) → delivered c.state.up step ≡ Some m → IsFewCourse c → IsFewCourse (called step c m rs)
called_few step c m rs at h = either rs
  where
    counted : length (c.calls ++ call step m ∷ []) + under_way (after_delivery c.state.up step) ≤ 2 * length (after_delivery c.state.up step).sent
    counted =
        let less = fewer c.state.up step m at in
        let same = length_after c.state.up step in
        let longer = length-append c.calls (call step m ∷ []) in
        let c' = h.counted in omega arith

    sent : length (after_delivery c.state.up step).sent ≤ sendings (reverse c.state.log)
    sent = let same = length_after c.state.up step in let f = h.sent in omega arith

    either : (rs : List Reply) → IsFewCourse (called step c m rs)
    either [] = record { counted = counted; sent = sent; few = h.few }
    either (r ∷ rs) = record { counted = counted; sent = sent; few = h.few }

one_few : (step : ℕ) (c : Course) → IsFewCourse c → IsFewCourse (one_call step c)
one_few step c h = go c.goes_on
  where
    comes : (o : Option Message) → delivered c.state.up step ≡ o → IsFewCourse (calls_with step c o)
    comes None at = h
    comes (Some m) at = called_few step c m c.left at h

    go : (b : Bool) → IsFewCourse (if b then calls_with step c (delivered c.state.up step) else c)
    go true = comes (delivered c.state.up step) refl
    go false = h

some_few : (step n : ℕ) (c : Course) → IsFewCourse c → IsFewCourse (some_calls step n c)
some_few step zero c h = h
some_few step (suc n) c h = one_few step (some_calls step n c) (some_few step n c h)

turn_few : (plan : DrivePlan) (step : ℕ) (c : Course) → IsFewCourse c → IsFewCourse (turn plan step c)
turn_few plan step c h = go c.goes_on
  where
    after : Course
    after = record c { state = begun plan step c.state }

    go : (b : Bool) → IsFewCourse (if b then calling step after else c)
    go true = some_few step (under_way after.state.up) after (begun_few c.calls plan step c.state h)
    go false = h

pub turns_few : (plan : DrivePlan) (first n : ℕ) (c : Course) → IsFewCourse c → IsFewCourse (turns plan first n c)
turns_few plan first zero c h = h
turns_few plan first (suc n) c h = turn_few plan (first + n) (turns plan first n c) (turns_few plan first n c h)

-- no more than 128 calls
pub follows_few : (plan : DrivePlan) (up down : List Fate) (first until : ℕ) (replies : List Reply) → length (follows_from plan up down first until replies).1 ≤ 128
follows_few plan up down first until replies =
    let start : IsFewCourse (running (fresh up down) [] replies) = record { counted = omega arith; sent = omega arith; few = omega arith } in
    let h = turns_few plan first (until - first) (running (fresh up down) [] replies) start in
    let a = h.counted in let b = h.sent in let d = h.few in omega arith
