-- What an agent does, turn by turn.
use Rattle.std.proofs.Common.{◌≡◌, ℕ, zero, suc, ◌+◌, ◌<◌, ◌≤◌, ◌⊎◌, inl, inr, false, List, [], ◌∷◌, ◌++◌, length, Option, Some, None, if◌then◌else◌, refl, sym, ap, ◌∙◌, arith, add-zero, append_assoc}
use Rattle.std.proofs.lemmas.List.{append-nil, map-append}
use Rattle.aim_messages.specs.declared.entries.Entry.{Entry}
use Rattle.aim_messages.specs.declared.replies.Reply.{Reply}
use Rattle.aim_driver.specs.declared.plans.DrivePlan.{DrivePlan}
use Rattle.aim_driver.specs.Models.{step_of}
use Rattle.aim_driver.specs.Turns.{begun}
use Rattle.aim_driver.specs.Follows.{Call, Course, running, halted, calling, turn, turns}
use Rattle.aim_driver.specs.Fits.{call_of, reply_of}
use Rattle.aim_driver.proofs.TurnLemmas.{turns_then}
use Rattle.aim_turnstile.specs.History.{Begins}
use Rattle.aim_manager.specs.declared.keeper.BookSetting.{BookSetting}
use Rattle.aim_agents.specs.declared.agents.Trouble.{Trouble}
use Rattle.aim_agents.specs.declared.agents.Trouble.TheVariants as trouble
use Rattle.aim_agents.specs.Agents.{AgentFront, AgentModel, state_of}
use Rattle.aim_agents.specs.Places.{IsCallSince}
use Rattle.aim_agents.specs.Went.{Extended, Carry, replies, Goes, Went, Met}
use Rattle.aim_agents.proofs.Passes.{same_self, same_trans, sees_self, sees_met, extended_begins, extended_append}
use Rattle.aim_agents.proofs.Places.{at_lt, sees_none, split_call}

-- a course that has halted makes no turn

turn_keeps : (plan : DrivePlan) (step : ℕ) (x : Course) → x.goes_on ≡ false → turn plan step x ≡ x
turn_keeps plan step x halt = ap (λ b. if b then calling step (record x { state = begun plan step x.state }) else x) halt

pub turns_keep : (plan : DrivePlan) (first n : ℕ) (x : Course) → x.goes_on ≡ false → turns plan first n x ≡ x
turns_keep plan first zero x halt = refl
turns_keep plan first (suc n) x halt = ap (turn plan (first + n)) (turns_keep plan first n x halt) ∙ turn_keeps plan (first + n) x halt

-- a call since a was made before b or after it
pub split_since : (s : BookSetting) (made : List Entry) (a b c : AgentModel) → Extended s b.pass made c.pass → c.pass.number ≡ b.pass.number
    → (k : ℕ) (e : Entry) → IsCallSince a c k e → IsCallSince a b k e ⊎ IsCallSince b c k e
split_since s made a b c calls number k e call =
    split_call b.pass c.pass (length a.pass.seen) (extended_begins s made b.pass c.pass calls) number k e call

pub carry_more : (xs ys : List Entry) (cs ds : List Call) → Carry xs cs → Carry ys ds → Carry (xs ++ ys) (cs ++ ds)
carry_more xs ys cs ds p q = map-append call_of xs ys ∙ (λ i. p i ++ q i) ∙ sym (map-append (λ (x : Call). Some x) cs ds)

-- one after the other
pub goes_then : (s : BookSetting) (f g : Course → Course) (first mid last : ℕ) (a b c : AgentModel) → ((x : Course) → x.goes_on ≡ false → g x ≡ x)
    → Goes s f first mid a b → Goes s g mid last b c → first ≤ mid → mid ≤ last → Goes s (λ x. g (f x)) first last a c
goes_then s f g first mid last a b c keeps p q lo hi =
    record {
      same = same_trans a.pass b.pass c.pass p.same q.same;
      plan = q.plan ∙ p.plan;
      room = q.room ∙ p.room;
      whole = λ w. q.whole (p.whole w);
      made = p.made ++ q.made;
      asked = p.asked ++ q.asked;
      carried = carry_more p.made q.made p.asked q.asked p.carried q.carried;
      calls = extended_append s p.made q.made a.pass b.pass c.pass p.calls q.calls;
      times = λ k e call.
          elim (split_since s q.made a b c q.calls q.same.number k e call) [
            | inl x ↦ (let t = p.times k e x in let t0 : first ≤ e.moment = t.0 in let t1 : e.moment < mid = t.1 in (omega arith, omega arith))
            | inr x ↦ (let t = q.times k e x in let t0 : mid ≤ e.moment = t.0 in let t1 : e.moment < last = t.1 in (omega arith, omega arith))
          ];
      calm = λ n. p.calm (q.calm n);
      course = λ n before more.
          ap (λ l. g (f (running (state_of a) before l))) (ap (λ l. l ++ more) (map-append reply_of p.made q.made) ∙ append_assoc (replies p.made) (replies q.made) more)
          ∙ ap g (p.course (q.calm n) before (replies q.made ++ more))
          ∙ q.course n (before ++ p.asked) more
          ∙ ap (λ l. running (state_of c) l more) (append_assoc before p.asked q.asked);
      halts = λ calm full before. halted_by b.trouble refl calm full before;
      idle = λ t.
          let u = p.idle t in
          let v = q.idle (λ n. t (sym (ap (λ x. x.trouble) u.0) ∙ n)) in
          (v.0 ∙ ap (λ (x : AgentModel). record x { pass = c.pass }) u.0, (λ i. u.1 i ++ v.1 i), (λ i. u.2 i ++ v.2 i));
    }
  where
    halted_by : (o : Option Trouble) → b.trouble ≡ o → a.trouble ≡ None → c.trouble ≡ Some trouble.Full → (before : List Call)
        → (extra : Call) × (g (f (running (state_of a) before (replies (p.made ++ q.made)))) ≡ halted (state_of c) (before ++ ((p.asked ++ q.asked) ++ extra ∷ [])))
    halted_by None is calm full before =
        let h = q.halts is full (before ++ p.asked) in (
          h.0,
          ap (λ l. g (f (running (state_of a) before l))) (map-append reply_of p.made q.made)
              ∙ ap g (p.course is before (replies q.made))
              ∙ h.1
              ∙ ap (λ l. halted (state_of c) l) (append_assoc before p.asked (q.asked ++ h.0 ∷ []) ∙ ap (λ l. before ++ l) (sym (append_assoc p.asked q.asked (h.0 ∷ [])))),
        )
    halted_by (Some t) is calm full before =
        let v = q.idle (λ n. absurd (cc (is, n))) in
        let stays : c.trouble ≡ b.trouble = ap (λ x. x.trouble) v.0 in
        let h = p.halts calm (sym stays ∙ full) before in
        let there : state_of c ≡ state_of b = ap state_of v.0 in
        let no_made : p.made ++ q.made ≡ p.made = ap (λ l. p.made ++ l) v.1 ∙ append-nil p.made in
        let no_asked : p.asked ++ q.asked ≡ p.asked = ap (λ l. p.asked ++ l) v.2 ∙ append-nil p.asked in (
          h.0,
          ap (λ m. g (f (running (state_of a) before (replies m)))) no_made
              ∙ ap g h.1
              ∙ keeps (halted (state_of b) (before ++ (p.asked ++ h.0 ∷ []))) refl
              ∙ (λ i. halted (sym there i) (before ++ (sym no_asked i ++ h.0 ∷ []))),
        )

-- by other words for the same course
pub goes_same : (s : BookSetting) (f g : Course → Course) (first last : ℕ) (a b : AgentModel)
    → ((before : List Call) (left : List Reply) → g (running (state_of a) before left) ≡ f (running (state_of a) before left)) → Goes s f first last a b → Goes s g first last a b
goes_same s f g first last a b same p =
    record {
      same = p.same;
      plan = p.plan;
      room = p.room;
      whole = p.whole;
      made = p.made;
      asked = p.asked;
      carried = p.carried;
      calls = p.calls;
      times = p.times;
      calm = p.calm;
      course = λ n before more. same before (replies p.made ++ more) ∙ p.course n before more;
      halts = λ calm full before. let h = p.halts calm full before in (h.0, same before (replies p.made) ∙ h.1);
      idle = p.idle;
    }

-- an agent that does nothing, where it is in trouble or its course does nothing
pub rests : (s : BookSetting) (f : Course → Course) (first last : ℕ) (a : AgentModel)
    → (a.trouble ≡ None → (before : List Call) (left : List Reply) → f (running (state_of a) before left) ≡ running (state_of a) before left) → Goes s f first last a a
rests s f first last a nothing =
    record {
      same = same_self a.pass;
      plan = refl;
      room = refl;
      whole = λ w. w;
      made = [];
      asked = [];
      carried = refl;
      calls = sees_self a.pass;
      times = λ k e c. let l : k < length a.pass.seen = at_lt a.pass.seen k e c.stands in let m : length a.pass.seen ≤ k = c.later in absurd (omega arith);
      calm = λ n. n;
      course = λ n before more. nothing n before more ∙ ap (λ l. running (state_of a) l more) (sym (append-nil before));
      halts = λ calm full before. absurd (cc (calm, full));
      idle = λ _. (refl, refl, refl);
    }

-- an agent in trouble takes no turn
pub stuck_went : (s : BookSetting) (step : ℕ) (a : AgentModel) → (a.trouble ≡ None → ⊥) → Went s step (step + 1) a a
stuck_went s step a stuck = record {
  count = 1;
  steps = refl;
  goes = rests s (turns a.driver.plan step 1) step (step + 1) a (λ n. absurd (stuck n));
  late = λ le. omega arith;
}

pub stays_went : (s : BookSetting) (step : ℕ) (a : AgentModel) → Went s step step a a
stays_went s step a = record { count = 0; steps = add-zero step; goes = rests s (turns a.driver.plan step 0) step step a (λ _ before left. refl); late = λ le. le }

-- a meeting takes no step
pub met_went : (s : BookSetting) (step : ℕ) (a : AgentModel) (front : AgentFront) (b : AgentModel) → Met s a front b → Went s step step a b
met_went s step a front b m =
    let sees = sees_met s a.pass front b.pass m.same m.meets in
    let why : b.trouble ≡ a.trouble = ap (λ x. x.trouble) m.rest in
    let there : state_of b ≡ state_of a = ap state_of m.rest in
    record {
      count = 0;
      steps = add-zero step;
      goes = record {
        same = m.same;
        plan = ap (λ x. x.driver.plan) m.rest;
        room = ap (λ x. x.pool.room) m.rest;
        whole = λ _. m.meets.whole;
        made = [];
        asked = [];
        carried = refl;
        calls = sees;
        times = λ k e call. absurd (sees_none a.pass b.pass m.was m.meets.whole sees k e call);
        calm = λ n. sym why ∙ n;
        course = λ n before more. (λ i. running (sym there i) (sym (append-nil before) i) more);
        halts = λ calm full before. absurd (cc (why, calm, full));
        idle = λ _. (m.rest, refl, refl);
      };
      late = λ le. (let is : step_of b.driver.log ≡ step_of a.driver.log = ap (λ x. step_of x.driver.log) m.rest in omega arith);
    }

pub went_then : (s : BookSetting) (first mid last : ℕ) (a b c : AgentModel) → Went s first mid a b → Went s mid last b c → Went s first last a c
went_then s first mid last a b c p q =
    let t : first + p.count ≡ mid = p.steps in
    let u : mid + q.count ≡ last = q.steps in
    record {
      count = p.count + q.count;
      steps = omega arith;
      goes = goes_same s (λ x. turns b.driver.plan mid q.count (turns a.driver.plan first p.count x)) (turns a.driver.plan first (p.count + q.count)) first last a c
          (λ before left.
          turns_then a.driver.plan first p.count q.count (running (state_of a) before left)
          ∙ (λ i. turns (sym p.goes.plan i) (p.steps i) q.count (turns a.driver.plan first p.count (running (state_of a) before left))))
          (goes_then s (turns a.driver.plan first p.count) (turns b.driver.plan mid q.count) first mid last a b c (turns_keep b.driver.plan mid q.count) p.goes q.goes (omega arith) (omega arith));
      late = λ le. q.late (p.late le);
    }

pub went_begins : (s : BookSetting) (first last : ℕ) (a b : AgentModel) → Went s first last a b → Begins a.pass.seen b.pass.seen
went_begins s first last a b w = extended_begins s w.goes.made a.pass b.pass w.goes.calls

-- no step, no call
pub no_calls : (s : BookSetting) (step : ℕ) (a b : AgentModel) → Went s step step a b → (k : ℕ) (e : Entry) → IsCallSince a b k e → ⊥
no_calls s step a b w k e call =
    let t = w.goes.times k e call in
    let lo : step ≤ e.moment = t.0 in
    let hi : e.moment < step = t.1 in
    omega arith
