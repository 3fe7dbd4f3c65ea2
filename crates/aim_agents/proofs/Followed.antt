-- What an agent did since it was new.
use Rattle.std.proofs.Common.{◌≡◌, ℕ, ◌+◌, ◌-◌, List, [], ◌++◌, map, Some, None, refl, sym, ap, ◌∙◌, subst, arith}
use Rattle.std.proofs.lemmas.List.{append-nil}
use Rattle.aim_messages.specs.declared.entries.Entry.{Entry}
use Rattle.aim_messages.specs.declared.replies.Reply.{Reply}
use Rattle.aim_driver.specs.Follows.{running, turns, fresh, course, follows_from}
use Rattle.aim_driver.specs.Fits.{Fits, AreCallsOf, call_of, replies_of}
use Rattle.aim_turnstile.specs.Models.{HasPass}
use Rattle.aim_manager.specs.Seen.{caller_of}
use Rattle.aim_manager.specs.declared.keeper.BookSetting.{BookSetting}
use Rattle.aim_agents.specs.declared.agents.Trouble.TheVariants as trouble
use Rattle.aim_agents.specs.Agents.{AgentModel, state_of}
use Rattle.aim_agents.specs.Went.{Carry, replies, Went}
use Rattle.aim_agents.specs.Followed.{IsNew, Followed, Halted}
use Rattle.aim_agents.proofs.Passes.{extended_mine}

pub fresh_is : (a : AgentModel) → IsNew a → state_of a ≡ fresh a.up.fates a.down.fates
fresh_is a n = λ i. record {
  log = n.log i;
  up = record { lag = n.up.0 i; fates = a.up.fates; sent = n.up.1 i };
  down = record { lag = n.down.0 i; fates = a.down.fates; sent = n.down.1 i };
}

-- all of its own entries were made since
pub mine_made : (s : BookSetting) (first last : ℕ) (a b : AgentModel) → IsNew a → (w : Went s first last a b) → b.pass.mine ≡ w.goes.made
mine_made s first last a b n w = extended_mine s w.goes.made a.pass b.pass w.goes.calls ∙ ap (λ l. l ++ w.goes.made) n.mine

-- where its turns lead from the state in which it was new
course_is : (s : BookSetting) (first last : ℕ) (a b : AgentModel) (n : IsNew a) (w : Went s first last a b) (left : List Reply) → b.pass.mine ≡ w.goes.made → left ≡ replies w.goes.made
    → course a.driver.plan a.up.fates a.down.fates first last (replies b.pass.mine) ≡ turns a.driver.plan first w.count (running (state_of a) [] left)
course_is s first last a b n w left mine is =
    let t : first + w.count ≡ last = w.steps in
    let count : last - first ≡ w.count = omega arith in
    λ i. turns a.driver.plan first (count i) (running (sym (fresh_is a n) i) [] ((ap replies mine ∙ sym is) i))

pub followed : (s : BookSetting) (first last : ℕ) (a b : AgentModel) → IsNew a → Went s first last a b → b.trouble ≡ None → Followed first last a b
followed s first last a b n w calm =
    let mine = mine_made s first last a b n w in
    record {
      calls = w.goes.asked;
      carried = subst (λ es. Carry es w.goes.asked) (sym mine) w.goes.carried;
      follows = ap (λ c. (c.state.log, c.calls)) (course_is s first last a b n w (replies w.goes.made ++ []) mine (append-nil (replies w.goes.made)) ∙ w.goes.course calm [] []);
    }

pub stopped : (s : BookSetting) (first last : ℕ) (a b : AgentModel) → IsNew a → Went s first last a b → b.trouble ≡ Some trouble.Full → Halted first last a b
stopped s first last a b n w full =
    let mine = mine_made s first last a b n w in
    let h = w.goes.halts n.calm full [] in
    record {
      calls = w.goes.asked;
      extra = h.0;
      carried = subst (λ es. Carry es w.goes.asked) (sym mine) w.goes.carried;
      follows = ap (λ c. (c.state.log, c.calls)) (course_is s first last a b n w (replies w.goes.made) mine refl ∙ h.1);
    }

pub fits_if : (first last : ℕ) (a b : AgentModel) (h : List Entry)
    → (AreCallsOf (follows_from a.driver.plan a.up.fates a.down.fates first last (replies_of h b.pass.number)).1 h b.pass.number
    → Fits h b.pass.number (follows_from a.driver.plan a.up.fates a.down.fates first last (replies_of h b.pass.number)).0)
    → Followed first last a b → HasPass caller_of h b.pass → Fits h b.pass.number b.driver.log
fits_if first last a b h law f has =
    let told : replies_of h b.pass.number ≡ replies b.pass.mine = ap replies has.1 in
    let is : follows_from a.driver.plan a.up.fates a.down.fates first last (replies_of h b.pass.number) ≡ (b.driver.log, f.calls) =
    ap (λ rs. follows_from a.driver.plan a.up.fates a.down.fates first last rs) told ∙ f.follows in
    let carried : AreCallsOf f.calls h b.pass.number = ap (λ es. map call_of es) has.1 ∙ f.carried in
    subst (λ log. Fits h b.pass.number log) (ap (λ p. p.0) is) (law (subst (λ cs. AreCallsOf cs h b.pass.number) (sym (ap (λ p. p.1) is)) carried))
