-- The legs of a traveller when its steps are over.
use Rattle.std.proofs.Common.{◌≡◌, ℕ, ◌+◌, ◌-◌, ◌≤◌, ◌⊎◌, inl, inr, List, [], ◌∷◌, ◌++◌, map, Some, None, refl, sym, ap, ◌∙◌, subst, arith}
use Rattle.std.specs.Prelude.{slice_get}
use Rattle.std.proofs.lemmas.List.{append-nil}
use Rattle.aim_driver.specs.declared.logs.LogItem.{LogItem}
use Rattle.aim_driver.specs.Models.{DriverModel}
use Rattle.aim_driver.specs.Follows.{Call, Course, running, fresh, turns, course, follows}
use Rattle.aim_driver.proofs.TurnLemmas.{follows_later}
use Rattle.aim_agents.specs.BookSetting.{BookSetting}
use Rattle.aim_agents.specs.Agents.{AgentModel, AgentPass, state_of}
use Rattle.aim_agents.specs.Went.{Carry, replies, Went}
use Rattle.aim_agents.proofs.Courses.{stays_went}
use Rattle.aim_agents.proofs.Followed.{fresh_is, mine_made}
use Rattle.aim_grid.specs.Acked.{acked, begun_at}
use Rattle.aim_grid.proofs.Rests.{rests}
use Rattle.aim_grid.specs.Models.{LegModel, OverModel, TravellerModel}
use Rattle.aim_grid.specs.Rode.{Managers, IsBegun, IsRidden, IsOver, IsAlong, Rode}
use Rattle.aim_grid.specs.Travels.{SetsOut, IsTravellerOf}
use Rattle.aim_grid.specs.Legs.{IsFollowedLeg, AreFollowed, AreFresh, legs_told, told, told_unbegun}
use Rattle.aim_grid.proofs.Along.{new_acked}

-- where the turns of a leg's agent lead
record Leads (at from last : ℕ) (l : LegModel) (b : AgentModel) : Type 0 where
  pub calls : List Call
  pub carried : Carry b.pass.mine calls
  pub course_is : course (begun_at at l.plan) [] [] from last (replies b.pass.mine) ≡ running (state_of b) calls []

leads : (s : BookSetting) (at from last : ℕ) (l : LegModel) (a b : AgentModel) → IsBegun at l a → Went s from last a b → b.trouble ≡ None → Leads at from last l b
leads s at from last l a b n w calm =
    let steps : from + w.count ≡ last = w.steps in
    let count : last - from ≡ w.count = omega arith in
    let mine = mine_made s from last a b n.new w in
    let left : replies b.pass.mine ≡ replies w.goes.made ++ [] = ap replies mine ∙ sym (append-nil (replies w.goes.made)) in
    let start : fresh [] [] ≡ state_of a = (λ i. fresh (sym n.up i) (sym n.down i)) ∙ sym (fresh_is a n.new) in
    record {
      calls = w.goes.asked;
      carried = subst (λ es. Carry es w.goes.asked) (sym mine) w.goes.carried;
      course_is = (λ i. turns (sym n.plan_is i) from (count i) (running (start i) [] (left i))) ∙ w.goes.course calm [] [];
    }

-- told from its plan's first step
from_the_first : (at from until : ℕ) (l : LegModel) (b : AgentModel) (calls : List Call) → 1 ≤ l.plan.first → from ≤ at + 1 → from ≤ until
    → course (begun_at at l.plan) [] [] from until (replies b.pass.mine) ≡ running (state_of b) calls []
    → follows (begun_at at l.plan) [] [] until (replies b.pass.mine) ≡ (b.driver.log, calls)
from_the_first at from until l b calls late soon le is =
    sym (follows_later (begun_at at l.plan) [] [] from until (replies b.pass.mine) (omega arith) le) ∙ ap (λ (c : Course). (c.state.log, c.calls)) is

module _ (ms : Managers) (until : ℕ) where
  -- of the leg that it is on
  ridden_leg : (at from : ℕ) (l : LegModel) (crossing : ℕ) (b : AgentModel) → 1 ≤ l.plan.first → from ≤ at + 1 → IsRidden ms at from until l crossing b → b.trouble ≡ None
      → IsFollowedLeg until at l b.driver.log b.pass
  ridden_leg at from l crossing b late soon r calm =
      let d = leads r.manager.setting at from until l r.begun b r.is_begun r.went calm in
      let steps : from + r.went.count ≡ until = r.went.steps in
      record { calls = d.calls; carried = d.carried; follows = from_the_first at from until l b d.calls late soon (omega arith) d.course_is }

  -- of one that is over: it does nothing more
  over_leg : (at from s : ℕ) (l : LegModel) (o : OverModel) → 1 ≤ l.plan.first → from ≤ at + 1 → s + 1 ≤ until → IsOver ms at from s l o → IsFollowedLeg until at l o.1.log o.2
  over_leg at from s l o late soon below over =
      let r = over.ridden in
      let b = over.agent in
      let d = leads r.manager.setting at from (s + 1) l r.begun b r.is_begun r.went over.calm in
      let steps : from + r.went.count ≡ s + 1 = r.went.steps in
      let rest = rests (begun_at at l.plan) from (s + 1) until (replies b.pass.mine) s (omega arith) below
      (ap (λ (c : Course). c.goes_on) d.course_is) (ap (λ (c : Course). acked c.state.log) d.course_is ∙ over.acked) in
      let is = from_the_first at from until l b d.calls late soon (omega arith) (rest ∙ d.course_is) in
      subst (λ (x : DriverModel). IsFollowedLeg until at l x.log o.2) over.driver
      (subst (λ (p : AgentPass). IsFollowedLeg until at l b.driver.log p) over.pass (record { calls = d.calls; carried = d.carried; follows = is }))

  -- the steps of a leg come behind those of the one before
  along_later : (at from : ℕ) (legs : List LegModel) (os : List OverModel) (crossing : ℕ) (a : AgentModel) (waiting : List LegModel) → IsAlong ms at from until legs os crossing a waiting → from ≤ until
  along_later at from [] os crossing a waiting h = absurd h
  along_later at from (l ∷ ls) [] crossing a waiting h = let steps : from + h.0.went.count ≡ until = h.0.went.steps in omega arith
  along_later at from (l ∷ ls) (o ∷ os) crossing a waiting h =
      let steps : from + h.1.ridden.went.count ≡ h.0 + 1 = h.1.ridden.went.steps in
      let le : h.0 + 1 ≤ until = along_later h.0 (h.0 + 1) ls os crossing a waiting h.2 in
      omega arith

  -- the legs that aren't begun
  unbegun_legs : (ls : List LegModel) → AreFresh ls → AreFollowed until None ls (map told_unbegun ls)
  unbegun_legs [] fresh = tt
  unbegun_legs (l ∷ ls) fresh = (refl, (refl, fresh.1), unbegun_legs ls fresh.2)

  -- the legs behind one, which are no more or wait for its Ack
  behind : (log : List LogItem) (ls : List LegModel) → AreFresh ls → (ls ≡ []) ⊎ (acked log ≡ None) → AreFollowed until (acked log) ls (map told_unbegun ls)
  behind log [] fresh h = tt
  behind log (l ∷ ls) fresh (inl none) = absurd (cc none)
  behind log (l ∷ ls) fresh (inr none) = subst (λ b. AreFollowed until b (l ∷ ls) (map told_unbegun (l ∷ ls))) (sym none) (unbegun_legs (l ∷ ls) fresh)

  all_legs : (at from : ℕ) (legs : List LegModel) (os : List OverModel) (crossing : ℕ) (a : AgentModel) (waiting : List LegModel) → from ≤ at + 1 → AreFresh legs
      → a.trouble ≡ None → IsAlong ms at from until legs os crossing a waiting → AreFollowed until (Some at) legs (map told os ++ (crossing, a.driver.log, a.pass) ∷ map told_unbegun waiting)
  all_legs at from [] os crossing a waiting soon fresh calm h = absurd h
  all_legs at from (l ∷ ls) [] crossing a waiting soon fresh calm h = (
    h.0.crossing_is,
    ridden_leg at from l crossing a fresh.0 soon h.0 calm,
    subst (λ (w : List LegModel). AreFollowed until (acked a.driver.log) ls (map told_unbegun w)) (sym h.1)
        (behind a.driver.log ls fresh.2 (subst (λ (w : List LegModel). (w ≡ []) ⊎ (acked a.driver.log ≡ None)) h.1 (h.2 calm))),
  )
  all_legs at from (l ∷ ls) (o ∷ os) crossing a waiting soon fresh calm h =
      let le : h.0 + 1 ≤ until = along_later h.0 (h.0 + 1) ls os crossing a waiting h.2 in (
        h.1.ridden.crossing_is,
        over_leg at from h.0 l o fresh.0 soon le h.1,
        subst (λ b. AreFollowed until b ls (map told os ++ (crossing, a.driver.log, a.pass) ∷ map told_unbegun waiting)) (sym (ap (λ (d : DriverModel). acked d.log) (sym h.1.driver) ∙ h.1.acked))
            (all_legs h.0 (h.0 + 1) ls os crossing a waiting (omega arith) fresh.2 calm h.2),
      )

  pub legs_followed : (legs : List LegModel) (t : TravellerModel) → AreFresh legs → Rode ms 0 until legs t → t.agent.trouble ≡ None → AreFollowed until (Some 0) legs (legs_told t)
  legs_followed legs t fresh h calm = all_legs 0 0 legs t.over t.crossing t.agent t.waiting (omega arith) fresh calm h

-- it has set out
pub set_out : (ms : Managers) (first vehicle : ℕ) (legs : List LegModel) (t : TravellerModel) → SetsOut vehicle legs t → IsTravellerOf ms t → Rode ms first first legs t
set_out ms first vehicle legs t s own =
    subst (λ (l : List LegModel). IsAlong ms 0 first first l t.over t.crossing t.agent t.waiting) (sym s.legs_are)
    (subst (λ (os : List OverModel). IsAlong ms 0 first first (s.first ∷ s.rest) os t.crossing t.agent t.waiting) (sym s.over) (
      record {
        manager = own.manager;
        stands = ap (slice_get ms) (sym s.crossing) ∙ own.stands;
        crossing_is = s.crossing;
        begun = t.agent;
        is_begun = s.agent;
        went = stays_went own.manager.setting first t.agent;
      },
      s.waiting,
      λ _. inr (new_acked 0 s.first t.agent s.agent),
    ))

-- what is left of all legs, where the one that it is on comes behind those that are over

map_self : (ls : List LegModel) → map (λ l. l) ls ≡ ls
map_self [] = refl
map_self (l ∷ ls) = ap (λ ks. l ∷ ks) (map_self ls)

pub all_yielded : (ls ks : List LegModel) → map (λ l. l) ls ≡ ks → ls ≡ ks
all_yielded ls ks e = sym (map_self ls) ∙ e

told_pushed : (os : List OverModel) (o : OverModel) (ls : List LegModel) → map told (os ++ o ∷ []) ++ map told_unbegun ls ≡ map told os ++ told o ∷ map told_unbegun ls
told_pushed [] o ls = refl
told_pushed (p ∷ os) o ls = ap (λ xs. told p ∷ xs) (told_pushed os o ls)

pub told_left : (os qs : List OverModel) (crossing : ℕ) (d d' : DriverModel) (p p' : AgentPass) (ls : List LegModel) → qs ≡ os ++ (crossing, d, p) ∷ [] → d ≡ d' → p ≡ p'
    → map told qs ++ map told_unbegun ls ≡ map told os ++ (crossing, d'.log, p') ∷ map told_unbegun ls
told_left os qs crossing d d' p p' ls is driver pass =
    ap (λ (l : List OverModel). map told l ++ map told_unbegun ls) is
    ∙ told_pushed os (crossing, d, p) ls
    ∙ (λ i. map told os ++ (crossing, (driver i).log, pass i) ∷ map told_unbegun ls)
