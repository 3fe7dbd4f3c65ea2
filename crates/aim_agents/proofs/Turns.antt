-- The calls of a turn, one after the other, and what the turn is then.
use Rattle.std.proofs.Common.{◌≡◌, ℕ, ◌+◌, ◌≤◌, inl, inr, List, [], ◌∷◌, ◌++◌, length, Some, None, Result, Ok, Err, IsErrAnd, MatchResult, refl, sym, ap, ◌∙◌, subst, arith, add-zero}
use Rattle.std.specs.Prelude.{OnOk}
use Rattle.std.proofs.lemmas.List.{map-append}
use Rattle.aim_messages.specs.declared.entries.Act.TheVariants as act
use Rattle.aim_messages.specs.declared.entries.Entry.{Entry}
use Rattle.aim_messages.specs.declared.messages.Message.{Message}
use Rattle.aim_messages.specs.declared.replies.Reply.{Reply}
use Rattle.aim_driver.specs.Models.{step_of}
use Rattle.aim_driver.specs.Links.{delivered, after_delivery}
use Rattle.aim_driver.specs.Turns.{state, begun}
use Rattle.aim_driver.specs.Follows.{Call, Course, running, halted, call, taken, answered, calling, turn, turns}
use Rattle.aim_driver.specs.Fits.{reply_of}
use Rattle.aim_driver.proofs.TurnLemmas.{Calls, no_calls, more_calls, calls_end, calls_halt}
use Rattle.aim_turnstile.specs.Models.{IsSamePass}
use Rattle.aim_manager.specs.Seen.{Extends}
use Rattle.aim_manager.specs.declared.keeper.BookSetting.{BookSetting}
use Rattle.aim_agents.specs.declared.agents.Trouble.{Trouble}
use Rattle.aim_agents.specs.declared.agents.Trouble.TheVariants as trouble
use Rattle.aim_agents.specs.Agents.{AgentModel, IsWhole, state_of}
use Rattle.aim_agents.specs.Places.{IsCall, IsCallSince}
use Rattle.aim_agents.specs.Went.{Sees, ExtendsBy, Extended, Carry, replies, Went}
use Rattle.aim_agents.specs.Turns.{Called, Tried}
use Rattle.aim_agents.proofs.Passes.{same_self, same_trans, sees_self, sees_full, extends_by, extended_one, extended_append, extended_sees}
use Rattle.aim_agents.proofs.Places.{sees_none, only_call}
use Rattle.aim_agents.proofs.Courses.{split_since, carry_more}
use Rattle.aim_agents.proofs.Sheets.{full_is}

-- what holds of a failed result, by what it failed with
pub failed_with : {A E : Type 0} (P : A → Type 0) (Q : E → Type 0) (r : Result A E) (e : E) → IsErrAnd r (λ t. t ≡ e) → Q e → MatchResult r P Q
failed_with P Q (Ok a) e with holds = absurd with
failed_with P Q (Err t) e with holds = subst Q (sym with) holds

-- a call, told of the agent as it is seen
pub called_as : (s : BookSetting) (step : ℕ) (m : Message) (r : Result (Unit {0}) Trouble) (a old new : AgentModel) → old ≡ a → Called s step m r old new → Called s step m r a new
called_as s step m r a old new same called = subst (λ x. Called s step m r x new) same called

-- some calls of a turn were made
pub record Making (s : BookSetting) (step : ℕ) (a b : AgentModel) : Type 0 where
  pub same : IsSamePass a.pass b.pass
  pub plan : b.driver.plan ≡ a.driver.plan
  pub room : b.pool.room ≡ a.pool.room
  pub why : b.trouble ≡ a.trouble
  pub was : IsWhole a.pass
  pub whole : IsWhole b.pass
  pub made : List Entry
  pub asked : List Call
  pub carried : Carry made asked
  pub calls : Extended s a.pass made b.pass
  pub times : (k : ℕ) (e : Entry) → IsCallSince a b k e → e.moment ≡ step
  pub late : step_of b.driver.log ≤ step
  pub tries : Calls step (state_of a) (state_of b) (replies made) asked

pub none_made : (s : BookSetting) (step : ℕ) (a : AgentModel) → IsWhole a.pass → step_of a.driver.log ≤ step → Making s step a a
none_made s step a whole late = record {
  same = same_self a.pass;
  plan = refl;
  room = refl;
  why = refl;
  was = whole;
  whole = whole;
  made = [];
  asked = [];
  carried = refl;
  calls = sees_self a.pass;
  times = λ k e c. absurd (sees_none a.pass a.pass whole whole (sees_self a.pass) k e c);
  late = late;
  tries = no_calls step (state_of a);
}

abbrev pub entry : ℕ → ℕ → Message → Reply → Entry
entry v step m r = record { caller = v; moment = step; act = act.Message m; reply = r }

-- all entries and calls, of which the last is this one
pub record More (s : BookSetting) (all : List Entry) (asked : List Call) (step : ℕ) (a c : AgentModel) : Type 0 where
  pub carried : Carry all asked
  pub calls : Extended s a.pass all c.pass
  pub times : (k : ℕ) (e : Entry) → IsCallSince a c k e → e.moment ≡ step

pub more_made : (s : BookSetting) (step : ℕ) (m : Message) (r : Reply) (a b c : AgentModel) (h : Making s step a b) → IsSamePass b.pass c.pass
    → Extends s step (act.Message m) r b.pass c.pass → More s (h.made ++ entry b.pass.number step m r ∷ []) (h.asked ++ call step m ∷ []) step a c
more_made s step m r a b c h same x =
    let e : Entry = entry b.pass.number step m r in
    let by : ExtendsBy s e b.pass c.pass = extends_by s step (act.Message m) r b.pass c.pass same x in
    record {
      carried = carry_more h.made (e ∷ []) h.asked (call step m ∷ []) h.carried refl;
      calls = extended_append s h.made (e ∷ []) a.pass b.pass c.pass h.calls (extended_one s e b.pass c.pass by);
      times = λ k f call.
          elim (split_since s (e ∷ []) a b c (extended_one s e b.pass c.pass by) same.number k f call) [
            | inl old ↦ h.times k f old
            | inr new ↦ sym (ap (λ x. x.moment) (only_call s b.pass c.pass e h.whole by k f new))
          ];
    }

-- a call of the message that came got its reply
pub one_more : (s : BookSetting) (step : ℕ) (m : Message) (a b b' c : AgentModel) → Making s step a b → delivered b.up step ≡ Some m
    → b' ≡ record b { up = after_delivery b.up step } → Called s step m (Ok tt) b' c → Making s step a c
one_more s step m a b b' c h at is called =
    let k : Called s step m (Ok tt) (record b { up = after_delivery b.up step }) c = subst (λ x. Called s step m (Ok tt) x c) is called in
    let reply : Reply = k.did.reply in
    let e : Entry = entry b.pass.number step m reply in
    let x = more_made s step m reply a b c h k.same k.did.extends in
    let there : state_of c ≡ answered step (state_of b) m reply = (λ i. state (k.driver i).log (k.up i) (k.did.down i)) in
    let asked : List Call = h.asked ++ call step m ∷ [] in
    let tries : Calls step (state_of a) (answered step (state_of b) m reply) (replies h.made ++ reply ∷ []) asked =
    more_calls step (state_of a) (state_of b) (replies h.made) h.asked m reply h.tries at in
    let told : replies (h.made ++ e ∷ []) ≡ replies h.made ++ reply ∷ [] = map-append reply_of h.made (e ∷ []) in
    record {
      same = same_trans a.pass b.pass c.pass h.same k.same;
      plan = ap (λ d. d.plan) k.driver ∙ h.plan;
      room = k.room ∙ h.room;
      why = k.why ∙ h.why;
      was = h.was;
      whole = k.whole;
      made = h.made ++ e ∷ [];
      asked = asked;
      carried = x.carried;
      calls = x.calls;
      times = x.times;
      late = (let same : step_of c.driver.log ≡ step_of b.driver.log = ap (λ d. step_of d.log) k.driver in let l = h.late in omega arith);
      tries = subst (λ d. Calls step (state_of a) d (replies (h.made ++ e ∷ [])) asked) (sym there)
          (subst (λ rs. Calls step (state_of a) (answered step (state_of b) m reply) rs asked) (sym told) tries);
    }

-- nothing more comes
pub all_made : (s : BookSetting) (step : ℕ) (a b b' : AgentModel) → Making s step a b → delivered b.up step ≡ None → b' ≡ b → Tried s (calling step) step (Ok tt) a b'
all_made s step a b b' h none is = subst (λ x. Tried s (calling step) step (Ok tt) a x) (sym is) (record {
  same = h.same;
  plan = h.plan;
  room = h.room;
  why = h.why;
  was = h.was;
  whole = h.whole;
  made = h.made;
  asked = h.asked;
  carried = h.carried;
  calls = h.calls;
  times = h.times;
  late = h.late;
  course = λ before more. calls_end step (state_of a) (state_of b) (replies h.made) h.asked h.tries none before more;
  halts = λ no. absurd (cc no);
})

-- a call of the message that came failed
pub not_made : (s : BookSetting) (step : ℕ) (m : Message) (t : Trouble) (a b b' c : AgentModel) → Making s step a b → delivered b.up step ≡ Some m
    → b' ≡ record b { up = after_delivery b.up step } → b'.pass.setting ≡ Some s → Called s step m (Err t) b' c → Tried s (calling step) step (Err t) a c
not_made s step m t a b b' c h at is set called = by t (subst (λ x. Called s step m (Err t) x c) is called)
  where
    after : AgentModel
    after = record b { up = after_delivery b.up step }

    by : (t : Trouble) → Called s step m (Err t) after c → Tried s (calling step) step (Err t) a c
    by trouble.NoMemory k =
        let x = more_made s step m k.did.0 a b c h k.same k.did.1 in
        record {
          same = same_trans a.pass b.pass c.pass h.same k.same;
          plan = ap (λ d. d.plan) k.driver ∙ h.plan;
          room = k.room ∙ h.room;
          why = k.why ∙ h.why;
          was = h.was;
          whole = k.whole;
          made = h.made ++ entry b.pass.number step m k.did.0 ∷ [];
          asked = h.asked ++ call step m ∷ [];
          carried = x.carried;
          calls = x.calls;
          times = x.times;
          late = (let same : step_of c.driver.log ≡ step_of b.driver.log = ap (λ d. step_of d.log) k.driver in let l = h.late in omega arith);
          course = tt;
          halts = λ no. absurd (cc no);
        }
    by trouble.Full k =
        let sees : Sees b.pass c.pass = sees_full s b.pass c.pass k.same k.did.0 in
        let calls : Extended s a.pass h.made c.pass = extended_sees s h.made a.pass b.pass c.pass h.calls sees in
        let there : state_of c ≡ taken step (state_of b) = (λ i. state (k.driver i).log (k.up i) (k.did.1 i)) in
        record {
          same = same_trans a.pass b.pass c.pass h.same k.same;
          plan = ap (λ d. d.plan) k.driver ∙ h.plan;
          room = k.room ∙ h.room;
          why = k.why ∙ h.why;
          was = h.was;
          whole = k.whole;
          made = h.made;
          asked = h.asked;
          carried = h.carried;
          calls = calls;
          times = λ j f call.
              elim (split_since s [] a b c sees k.same.number j f call) [
                | inl old ↦ h.times j f old
                | inr new ↦ absurd (sees_none b.pass c.pass h.whole k.whole sees j f new)
              ];
          late = (let same : step_of c.driver.log ≡ step_of b.driver.log = ap (λ d. step_of d.log) k.driver in let l = h.late in omega arith);
          course = tt;
          halts = λ _. (
            full_is s c.pass (k.same.setting ∙ ap (λ x. x.pass.setting) (sym is) ∙ set) k.did.0.full,
            λ before. (
              call step m,
              calls_halt step (state_of a) (state_of b) (replies h.made) h.asked m h.tries at before
                  ∙ ap (λ d. halted d (before ++ (h.asked ++ call step m ∷ []))) (sym there),
            ),
          );
        }

-- what hearing, entering and acting left of an agent: all but its driver and its links stayed
pub record Began (step : ℕ) (a b : AgentModel) : Type 0 where
  pub rest : b ≡ record a { driver = b.driver; up = b.up; down = b.down }
  pub plan : b.driver.plan ≡ a.driver.plan
  pub last : step_of b.driver.log ≤ step
  pub whole : IsWhole a.pass

-- it had no memory for it
pub not_begun : (s : BookSetting) (step : ℕ) (a b : AgentModel) → Began step a b → Tried s (turn a.driver.plan step) step (Err trouble.NoMemory) a b
not_begun s step a b g =
    let stays : b.pass ≡ a.pass = ap (λ x. x.pass) g.rest in
    let same : IsSamePass a.pass b.pass = subst (λ p. IsSamePass a.pass p) (sym stays) (same_self a.pass) in
    let sees : Sees a.pass b.pass = subst (λ p. Sees a.pass p) (sym stays) (sees_self a.pass) in
    let whole : IsWhole b.pass = subst (λ p. IsWhole p) (sym stays) g.whole in
    record {
      same = same;
      plan = g.plan;
      room = ap (λ x. x.pool.room) g.rest;
      why = ap (λ x. x.trouble) g.rest;
      was = g.whole;
      whole = whole;
      made = [];
      asked = [];
      carried = refl;
      calls = sees;
      times = λ k e call. absurd (sees_none a.pass b.pass g.whole whole sees k e call);
      late = g.last;
      course = tt;
      halts = λ no. absurd (cc no);
    }

-- it began, and then it made its calls
pub begun_made : (s : BookSetting) (step : ℕ) (result : Result (Unit {0}) Trouble) (a b c : AgentModel) → Began step a b → state_of b ≡ begun a.driver.plan step (state_of a)
    → Tried s (calling step) step result b c → Tried s (turn a.driver.plan step) step result a c
begun_made s step result a b c g is h =
    let stays : b.pass ≡ a.pass = ap (λ x. x.pass) g.rest in
    record {
      same = subst (λ p. IsSamePass p c.pass) stays h.same;
      plan = h.plan ∙ g.plan;
      room = h.room ∙ ap (λ x. x.pool.room) g.rest;
      why = h.why ∙ ap (λ x. x.trouble) g.rest;
      was = g.whole;
      whole = h.whole;
      made = h.made;
      asked = h.asked;
      carried = h.carried;
      calls = subst (λ p. Extended s p h.made c.pass) stays h.calls;
      times = λ k e call. h.times k e (subst (λ p. IsCall c.pass (length p.seen) k e) (sym stays) call);
      late = h.late;
      course = on_ok result h.course;
      halts = λ full. (
        (h.halts full).0,
        λ before. let x = (h.halts full).1 before in (x.0, first before (replies h.made) ∙ x.1),
      );
    }
  where
    first : (before : List Call) (left : List Reply) → turn a.driver.plan step (running (state_of a) before left) ≡ calling step (running (state_of b) before left)
    first before left = ap (λ d. calling step (running d before left)) (sym is)

    on_ok : (r : Result (Unit {0}) Trouble)
        → OnOk r ((before : List Call) (more : List Reply) → calling step (running (state_of b) before (replies h.made ++ more)) ≡ running (state_of c) (before ++ h.asked) more)
        → OnOk r ((before : List Call) (more : List Reply) → turn a.driver.plan step (running (state_of a) before (replies h.made ++ more)) ≡ running (state_of c) (before ++ h.asked) more)
    on_ok (Ok u) p = λ before more. first before (replies h.made ++ more) ∙ p before more
    on_ok (Err t) p = tt

one_turn : (a : AgentModel) (step : ℕ) (x : Course) → turns a.driver.plan step 1 x ≡ turn a.driver.plan step x
one_turn a step x = ap (λ t. turn a.driver.plan t x) (add-zero step)

-- the turn of an agent without trouble
pub turn_went : (s : BookSetting) (step : ℕ) (a b : AgentModel) → a.trouble ≡ None → Tried s (turn a.driver.plan step) step (Ok tt) a b → Went s step (step + 1) a b
turn_went s step a b calm h = record {
  count = 1;
  steps = refl;
  goes = record {
    same = h.same;
    plan = h.plan;
    room = h.room;
    whole = λ _. h.whole;
    made = h.made;
    asked = h.asked;
    carried = h.carried;
    calls = h.calls;
    times = λ k e call. let t : e.moment ≡ step = h.times k e call in (omega arith, omega arith);
    calm = λ _. calm;
    course = λ _ before more. one_turn a step (running (state_of a) before (replies h.made ++ more)) ∙ h.course before more;
    halts = λ _ full. absurd (cc (full, h.why, calm));
    idle = λ stuck. absurd (stuck calm);
  };
  late = λ _. let l = h.late in omega arith;
}

-- the turn in which it came into trouble
pub trouble_went : (s : BookSetting) (step : ℕ) (t : Trouble) (a b : AgentModel) → a.trouble ≡ None → Tried s (turn a.driver.plan step) step (Err t) a b
    → Went s step (step + 1) a (record b { trouble = Some t })
trouble_went s step t a b calm h = record {
  count = 1;
  steps = refl;
  goes = record {
    same = h.same;
    plan = h.plan;
    room = h.room;
    whole = λ _. h.whole;
    made = h.made;
    asked = h.asked;
    carried = h.carried;
    calls = h.calls;
    times = λ k e call. let e_is : e.moment ≡ step = h.times k e call in (omega arith, omega arith);
    calm = λ _. calm;
    course = λ no. absurd (cc no);
    halts = λ _ full before. let x = (h.halts (ap (λ y. Err y) (some_is full))).1 before in (x.0, one_turn a step (running (state_of a) before (replies h.made)) ∙ x.1);
    idle = λ stuck. absurd (stuck calm);
  };
  late = λ _. let l = h.late in omega arith;
}
  where
    some_is : {x y : Trouble} → Some x ≡ Some y → x ≡ y
    some_is e = cc e
