-- Turns at which an agent does nothing.
use Rattle.std.proofs.Common.{◌≡◌, ℕ, zero, suc, ◌+◌, ◌-◌, ◌<◌, ◌≤◌, List, [], None, refl, ap, ◌∙◌, arith}
use Rattle.std.proofs.lemmas.List.{append-nil}
use Rattle.aim_messages.specs.declared.replies.Reply.{Reply}
use Rattle.aim_driver.specs.declared.plans.DrivePlan.{DrivePlan}
use Rattle.aim_driver.specs.Models.{enters, acts, with_entered}
use Rattle.aim_driver.specs.Links.{under_way, delivered}
use Rattle.aim_driver.specs.Turns.{State, heard, hears, entering, sending, acting, begun}
use Rattle.aim_driver.specs.Follows.{Call, Course, running, calling, turn, turns}
use Rattle.aim_driver.proofs.TurnLemmas.{no_calls, calls_end}
use Rattle.aim_manager.specs.declared.keeper.BookSetting.{BookSetting}
use Rattle.aim_agents.specs.Agents.{AgentModel, Idles, state_of}
use Rattle.aim_agents.specs.Went.{Went}
use Rattle.aim_agents.proofs.Courses.{rests}

hears_none : (step n : ℕ) (s : State) → delivered s.down step ≡ None → hears step n s ≡ s
hears_none step zero s none = refl
hears_none step (suc n) s none = ap (λ d. heard step d (delivered d.down step)) (hears_none step n s none) ∙ ap (λ o. heard step s o) none

-- nothing is heard, it doesn't enter, and it sends nothing
begun_none : (plan : DrivePlan) (step : ℕ) (s : State) → delivered s.down step ≡ None → enters plan s.log step ≡ None → acts plan s.log step ≡ None → begun plan step s ≡ s
begun_none plan step s below free calm =
    ap (λ d. acting plan step (entering plan step d)) (hears_none step (under_way s.down) s below)
    ∙ ap (λ o. acting plan step (record s { log = with_entered s.log step o })) free
    ∙ ap (λ o. sending step s o) calm

-- and there is nothing to call
turn_none : (plan : DrivePlan) (step : ℕ) (s : State) (before : List Call) (left : List Reply)
    → delivered s.up step ≡ None → delivered s.down step ≡ None → enters plan s.log step ≡ None → acts plan s.log step ≡ None
    → turn plan step (running s before left) ≡ running s before left
turn_none plan step s before left above below free calm =
    ap (λ d. calling step (running d before left)) (begun_none plan step s below free calm)
    ∙ calls_end step s s [] [] (no_calls step s) above before left
    ∙ ap (λ l. running s l left) (append-nil before)

turns_none : (plan : DrivePlan) (first n : ℕ) (x : Course) → ((t : ℕ) → first ≤ t → t < first + n → turn plan t x ≡ x) → turns plan first n x ≡ x
turns_none plan first zero x none = refl
turns_none plan first (suc n) x none =
    ap (turn plan (first + n)) (turns_none plan first n x (λ t lo hi. none t lo (omega arith))) ∙ none (first + n) (omega arith) (omega arith)

-- it goes through the steps at which it idles as if it had taken its turns
pub idles_went : (s : BookSetting) (first last : ℕ) (a : AgentModel) → first ≤ last → ((t : ℕ) → first ≤ t → t < last → Idles a t) → Went s first last a a
idles_went s first last a le idles =
    let steps : first + (last - first) ≡ last = omega arith in
    record {
      count = last - first;
      steps = steps;
      goes = rests s (turns a.driver.plan first (last - first)) first last a
          (λ n before left.
          turns_none a.driver.plan first (last - first) (running (state_of a) before left)
          (λ t lo hi. let q = idles t lo (omega arith) n in turn_none a.driver.plan t (state_of a) before left q.above q.below q.free q.calm));
      late = λ was. omega arith;
    }
