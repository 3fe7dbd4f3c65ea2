-- How a log grows in a turn, and what stays so.
use Rattle.std.proofs.Common.{◌≡◌, ℕ, zero, suc, ◌+◌, ◌-◌, ◌≤◌, inl, inr, Bool, true, false, ◌&&◌, List, [], ◌∷◌, ◌++◌, reverse, Option, Some, None, if◌then◌else◌, refl, sym, ap, ◌∙◌, subst, arith}
use Rattle.std.proofs.lemmas.Bool.{cases_lt}
use Rattle.std.proofs.lemmas.List.{reverse-append}
use Rattle.aim_messages.specs.declared.messages.Message.{Message}
use Rattle.aim_messages.specs.declared.replies.Reply.{Reply}
use Rattle.aim_driver.specs.declared.plans.DrivePlan.{DrivePlan}
use Rattle.aim_driver.specs.declared.logs.LogItem.{LogItem}
use Rattle.aim_driver.specs.declared.logs.LogItem.TheVariants as item
use Rattle.aim_driver.specs.declared.links.Fate.{Fate}
use Rattle.aim_driver.specs.Logs.{item_step, is_above, latest, answer, counts}
use Rattle.aim_driver.specs.Models.{enters, acts, with_entered}
use Rattle.aim_driver.specs.Links.{under_way, delivered}
use Rattle.aim_driver.specs.Turns.{State, heard, hears, hears_all, entering, sending, begun}
use Rattle.aim_driver.specs.Follows.{Course, running, fresh, called, calls_with, one_call, some_calls, calling, turn, turns, follows}
use Rattle.aim_driver.proofs.TurnLemmas.{course_later}
use Rattle.aim_grid.specs.Acked.{acks, is_leaving, answered_at, acked_with, acked_in, acked}
use Rattle.aim_grid.specs.Route.{EachStep}

-- the newest item comes first
pub newest : (log : List LogItem) (x : LogItem) → reverse (log ++ x ∷ []) ≡ x ∷ reverse log
newest log x = reverse-append log (x ∷ [])

-- calls change no log

called_log : (step : ℕ) (c : Course) (m : Message) (rs : List Reply) → (called step c m rs).state.log ≡ c.state.log
called_log step c m [] = refl
called_log step c m (r ∷ rs) = refl

one_log : (step : ℕ) (c : Course) → (one_call step c).state.log ≡ c.state.log
one_log step c = go c.goes_on
  where
    comes : (o : Option Message) → (calls_with step c o).state.log ≡ c.state.log
    comes None = refl
    comes (Some m) = called_log step c m c.left

    go : (b : Bool) → (if b then calls_with step c (delivered c.state.up step) else c).state.log ≡ c.state.log
    go true = comes (delivered c.state.up step)
    go false = refl

pub some_log : (step n : ℕ) (c : Course) → (some_calls step n c).state.log ≡ c.state.log
some_log step zero c = refl
some_log step (suc n) c = one_log step (some_calls step n c) ∙ some_log step n c

-- a fact of logs that stays where an item of a step comes to one
module _ (P : List LogItem → Type 0) (step : ℕ) (more : (log : List LogItem) (x : LogItem) → item_step x ≡ step → P log → P (log ++ x ∷ [])) where
  heard_keeps : (s : State) (o : Option (ℕ × Reply)) → P s.log → P (heard step s o).log
  heard_keeps s None h = h
  heard_keeps s (Some (seq, r)) h = more s.log (item.Got step seq r) refl h

  hears_keeps : (n : ℕ) (s : State) → P s.log → P (hears step n s).log
  hears_keeps zero s h = h
  hears_keeps (suc n) s h = let d = hears step n s in heard_keeps d (delivered d.down step) (hears_keeps n s h)

  entered_keeps : (log : List LogItem) (o : Option ℕ) → P log → P (with_entered log step o)
  entered_keeps log None h = h
  entered_keeps log (Some id) h = more log (item.Entered step id) refl h

  sent_keeps : (s : State) (o : Option Message) → P s.log → P (sending step s o).log
  sent_keeps s None h = h
  sent_keeps s (Some m) h = more s.log (item.Sent step m) refl h

  begun_keeps : (plan : DrivePlan) (s : State) → P s.log → P (begun plan step s).log
  begun_keeps plan s h =
      let all : State = hears_all step s in
      let in' : State = entering plan step all in
      sent_keeps in' (acts plan in'.log step) (entered_keeps all.log (enters plan all.log step) (hears_keeps (under_way s.down) s h))

  pub turn_keeps : (plan : DrivePlan) (c : Course) → P c.state.log → P (turn plan step c).state.log
  turn_keeps plan c h = go c.goes_on
    where
      after : Course
      after = record c { state = begun plan step c.state }

      go : (b : Bool) → P (if b then calling step after else c).state.log
      go true = subst P (sym (some_log step (under_way after.state.up) after)) (begun_keeps plan c.state h)
      go false = h

-- The step of the Ack.

-- of the newest item's step, or as before
acked_more : (step : ℕ) (past : List LogItem) (x : LogItem) → item_step x ≡ step → ((s : ℕ) → acked_in past ≡ Some s → s ≡ step) → (s : ℕ) → acked_in (x ∷ past) ≡ Some s → s ≡ step
acked_more step past (item.Sent t m) at before s is = go (is_above m.seq (latest past)) is
  where
    go : (b : Bool) → acked_with (if b then Some m else latest past) (if b then None else answer past) (if b then None else answered_at past) ≡ Some s → s ≡ step
    go true e = absurd (cc e)
    go false e = before s e
acked_more step past (item.Got t seq r) at before s is = go (counts past seq) is
  where
    told : (b : Bool) → (if b then Some t else None) ≡ Some s → s ≡ step
    told true e = let same : t ≡ s = cc e in sym same ∙ at
    told false e = absurd (cc e)

    go : (b : Bool) → acked_with (latest past) (if b then Some r else answer past) (if b then Some t else answered_at past) ≡ Some s → s ≡ step
    go true e = told (acks r && is_leaving (latest past)) e
    go false e = before s e
acked_more step past (item.Entered t id) at before s is = before s is

-- it got the Ack in its turn
pub acked_turn : (plan : DrivePlan) (step s : ℕ) (c : Course) → acked c.state.log ≡ None → acked (turn plan step c).state.log ≡ Some s → s ≡ step
acked_turn plan step s c none is =
    turn_keeps (λ log. (s : ℕ) → acked log ≡ Some s → s ≡ step) step
    (λ log x at before t e. acked_more step (reverse log) x at before t (ap acked_in (sym (newest log x)) ∙ e))
    plan c (λ t e. absurd (cc (none, e))) s is

-- The first step of a log.

EachStep-more : (P : ℕ → Type 0) (log : List LogItem) (x : LogItem) → P (item_step x) → EachStep P log → EachStep P (log ++ x ∷ [])
EachStep-more P [] x new h = (new, tt)
EachStep-more P (y ∷ ys) x new h = (h.0, EachStep-more P ys x new h.1)

pub EachStep-weaker : (P Q : ℕ → Type 0) (log : List LogItem) → ((t : ℕ) → P t → Q t) → EachStep P log → EachStep Q log
EachStep-weaker P Q [] f h = tt
EachStep-weaker P Q (x ∷ xs) f h = (f (item_step x) h.0, EachStep-weaker P Q xs f h.1)

turns_from : (least : ℕ) (plan : DrivePlan) (first n : ℕ) (c : Course) → least ≤ first → EachStep (λ t. least ≤ t) c.state.log → EachStep (λ t. least ≤ t) (turns plan first n c).state.log
turns_from least plan first zero c le h = h
turns_from least plan first (suc n) c le h =
    turn_keeps (λ log. EachStep (λ t. least ≤ t) log) (first + n)
    (λ log x at before. EachStep-more (λ t. least ≤ t) log x (omega arith) before)
    plan (turns plan first n c) (turns_from least plan first n c le h)

-- nothing stands there before the plan's first step
pub follows_begins : (plan : DrivePlan) (up down : List Fate) (until : ℕ) (replies : List Reply) → EachStep (λ t. plan.first ≤ t) (follows plan up down until replies).0
follows_begins plan up down until replies =
    elim (cases_lt until plan.first) [
      | inl lt ↦
          subst (λ (c : Course). EachStep (λ t. plan.first ≤ t) c.state.log) (course_later plan up down until until replies (omega arith) (omega arith))
          (subst (λ n. EachStep (λ t. plan.first ≤ t) (turns plan until n (running (fresh up down) [] replies)).state.log) (none until) tt)
      | inr ge ↦
          subst (λ (c : Course). EachStep (λ t. plan.first ≤ t) c.state.log) (course_later plan up down plan.first until replies (omega arith) (omega arith))
          (turns_from plan.first plan plan.first (until - plan.first) (running (fresh up down) [] replies) (omega arith) tt)
    ]
  where
    none : (n : ℕ) → 0 ≡ n - n
    none n = omega arith
