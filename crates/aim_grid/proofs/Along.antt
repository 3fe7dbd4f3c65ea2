-- What a turn makes of a route so far.
use Rattle.std.proofs.Common.{Bool, true, false, ◌==◌, is_some, ◌≡◌, ℕ, suc, ◌+◌, ◌<◌, ◌≤◌, ◌⊎◌, inl, inr, List, [], ◌∷◌, ◌++◌, length, get_or, Option, Some, None, refl, sym, ap, ◌∙◌, subst, arith}
use Rattle.std.specs.Prelude.{All, slice_get, remove}
use Rattle.std.proofs.lemmas.Bool.{eqb-false}
use Rattle.aim_driver.specs.Models.{step_of}
use Rattle.aim_driver.specs.Follows.{Course, running, turns}
use Rattle.aim_turnstile.specs.Models.{TurnstileModel, IsPassOf}
use Rattle.aim_agents.specs.BookSetting.{BookSetting}
use Rattle.aim_agents.specs.declared.agents.Trouble.{Trouble}
use Rattle.aim_agents.specs.Agents.{AgentModel, AgentPass, IsAgentOf, Idles, state_of}
use Rattle.aim_agents.specs.Went.{Went, replies}
use Rattle.aim_agents.proofs.Courses.{went_then, stays_went}
use Rattle.aim_agents.proofs.Rests.{idles_went}
use Rattle.aim_agents.proofs.Sheets.{agent_went}
use Rattle.aim_grid.specs.Acked.{acked}
use Rattle.aim_grid.proofs.Logs.{acked_turn}
use Rattle.aim_grid.specs.Models.{LegModel, OverModel, TravellerModel}
use Rattle.aim_grid.specs.Rode.{Managers, IsBegun, IsRidden, IsAlong}
use Rattle.aim_grid.specs.Travels.{Begins, GoesOn, IsLegAt, IsReady, TakesTurn, Moves}

-- an agent that got its Ack in a turn got it at the step of that turn
went_acked : (s : BookSetting) (step t : ℕ) (a b : AgentModel) → Went s step (step + 1) a b → b.trouble ≡ None → acked a.driver.log ≡ None → acked b.driver.log ≡ Some t → t ≡ step
went_acked s step t a b w calm none is =
    let steps : step + w.count ≡ step + 1 = w.steps in
    let count : w.count ≡ 1 = omega arith in
    let start : Course = running (state_of a) [] (replies w.goes.made ++ []) in
    let there : turns a.driver.plan step 1 start ≡ running (state_of b) ([] ++ w.goes.asked) [] = ap (λ n. turns a.driver.plan step n start) (sym count) ∙ w.goes.course calm [] [] in
    let at : t ≡ step + 0 = acked_turn a.driver.plan (step + 0) t start none (ap (λ (c : Course). acked c.state.log) there ∙ is) in
    omega arith

-- an agent that is new isn't through
pub new_acked : (step : ℕ) (l : LegModel) (a : AgentModel) → IsBegun step l a → acked a.driver.log ≡ None
new_acked step l a b = ap acked b.new.log

module _ (ms : Managers) where
  -- what the agent of a crossing did, whatever manager stands there
  abbrev GoesOnAt : ℕ → ℕ → ℕ → AgentModel → AgentModel → Type 0
  GoesOnAt crossing first last a b = (m : TurnstileModel BookSetting) → slice_get ms crossing ≡ Some m → Went m.setting first last a b

  ridden_more : (at from mid last : ℕ) (l : LegModel) (crossing : ℕ) (a b : AgentModel) → GoesOnAt crossing mid last a b → IsRidden ms at from mid l crossing a → IsRidden ms at from last l crossing b
  ridden_more at from mid last l crossing a b went r = record {
    manager = r.manager;
    stands = r.stands;
    crossing_is = r.crossing_is;
    begun = r.begun;
    is_begun = r.is_begun;
    went = went_then r.manager.setting from mid last r.begun a b r.went (went r.manager (ap (slice_get ms) r.crossing_is ∙ r.stands));
  }

  -- it went on with the leg that it is on
  along_more : (at from mid last : ℕ) (legs : List LegModel) (os : List OverModel) (crossing : ℕ) (a b : AgentModel) (waiting : List LegModel) → GoesOnAt crossing mid last a b
      → (b.trouble ≡ None → (waiting ≡ []) ⊎ (acked b.driver.log ≡ None)) → IsAlong ms at from mid legs os crossing a waiting → IsAlong ms at from last legs os crossing b waiting
  along_more at from mid last [] os crossing a b waiting went not_over h = h
  along_more at from mid last (l ∷ ls) [] crossing a b waiting went not_over h = (ridden_more at from mid last l crossing a b went h.0, h.1, not_over)
  along_more at from mid last (l ∷ ls) (o ∷ os) crossing a b waiting went not_over h =
      (h.0, h.1, along_more h.0 (h.0 + 1) mid last ls os crossing a b waiting went not_over h.2)

  -- the leg that it was on is over, and the next one begins
  record Next (step : ℕ) (crossing : ℕ) (b : AgentModel) (waiting : List LegModel) (crossing' : ℕ) (c : AgentModel) (rest : List LegModel) : Type 0 where
    pub calm : b.trouble ≡ None
    pub through : (t : ℕ) × (acked b.driver.log ≡ Some t)
    pub next : LegModel
    pub waited : waiting ≡ next ∷ rest
    pub place : crossing' ≡ next.crossing
    pub begun : IsBegun step next c
    pub manager : TurnstileModel BookSetting
    pub stands : slice_get ms next.crossing ≡ Some manager

  along_next : (at from step : ℕ) (legs : List LegModel) (os : List OverModel) (crossing : ℕ) (a b : AgentModel) (waiting : List LegModel) (crossing' : ℕ) (c : AgentModel) (rest : List LegModel)
      → GoesOnAt crossing step (step + 1) a b → Next step crossing b waiting crossing' c rest
      → IsAlong ms at from step legs os crossing a waiting → IsAlong ms at from (step + 1) legs (os ++ (crossing, b.driver, b.pass) ∷ []) crossing' c rest
  along_next at from step [] os crossing a b waiting crossing' c rest went n h = absurd h
  along_next at from step (l ∷ ls) (o ∷ os) crossing a b waiting crossing' c rest went n h =
      (h.0, h.1, along_next h.0 (h.0 + 1) step ls os crossing a b waiting crossing' c rest went n h.2)
  along_next at from step (l ∷ ls) [] crossing a b waiting crossing' c rest went n h =
      let r = ridden_more at from step (step + 1) l crossing a b went h.0 in
      let w : Went h.0.manager.setting step (step + 1) a b = went h.0.manager (ap (slice_get ms) h.0.crossing_is ∙ h.0.stands) in
      let is : n.through.0 ≡ step = elim (h.2 (w.goes.calm n.calm)) [
        | inl none ↦ absurd (cc (n.waited, none))
        | inr none ↦ went_acked h.0.manager.setting step n.through.0 a b w n.calm none n.through.1
      ] in (
        step,
        record { agent = b; ridden = r; driver = refl; pass = refl; calm = n.calm; acked = n.through.1 ∙ ap (λ t. Some t) is },
        subst (λ (k : List LegModel). IsAlong ms step (step + 1) (step + 1) k [] crossing' c rest) (sym n.waited ∙ h.1) (
          record { manager = n.manager; stands = n.stands; crossing_is = n.place; begun = c; is_begun = n.begun; went = stays_went n.manager.setting (step + 1) c },
          refl,
          λ _. inr (new_acked step n.next c n.begun),
        ),
      )

  -- The same of travellers.

  some_is : (m m' : TurnstileModel BookSetting) → Some m ≡ Some m' → m ≡ m'
  some_is m m' e = cc e

  at_its : (step last : ℕ) (crossing : ℕ) (m : TurnstileModel BookSetting) (a b : AgentModel) → slice_get ms crossing ≡ Some m → Went m.setting step last a b → GoesOnAt crossing step last a b
  at_its step last crossing m a b stands w n at = subst (λ (k : TurnstileModel BookSetting). Went k.setting step last a b) (some_is m n (sym stands ∙ at)) w

  -- it idles in a step
  pub idled : (step : ℕ) (t : TravellerModel) → IsReady ms step t → Idles t.agent step → Moves ms step (step + 1) t t
  idled step t r idle =
      let w : Went r.own.manager.setting step (step + 1) t.agent t.agent = idles_went r.own.manager.setting step (step + 1) t.agent (omega arith) still in
      record {
        vehicle = refl;
        ready = record { own = r.own; late = w.late r.late };
        rode = λ first legs h. along_more 0 first step (step + 1) legs t.over t.crossing t.agent t.agent t.waiting
            (at_its step (step + 1) t.crossing r.own.manager t.agent t.agent r.own.stands w) (waits 0 first legs t.over h) h;
      }
    where
      still : (s : ℕ) → step ≤ s → s < step + 1 → Idles t.agent s
      still s lo hi = let is : step ≡ s = omega arith in subst (λ n. Idles t.agent n) is idle

      waits : (at from : ℕ) (legs : List LegModel) (os : List OverModel) → IsAlong ms at from step legs os t.crossing t.agent t.waiting
          → t.agent.trouble ≡ None → (t.waiting ≡ []) ⊎ (acked t.agent.driver.log ≡ None)
      waits at from [] os h = absurd h
      waits at from (l ∷ ls) [] h = h.2
      waits at from (l ∷ ls) (o ∷ os) h = waits h.0 (h.0 + 1) ls os h.2

  -- a traveller after a turn of its agent is one of the managers'
  own_turn : (step : ℕ) (t u : TravellerModel) → IsReady ms step t → TakesTurn ms step t u → IsReady ms (step + 1) u
  own_turn step t u r k =
      let crossing : u.crossing ≡ t.crossing = ap (λ (x : TravellerModel). x.crossing) k.rest in
      let waiting : u.waiting ≡ t.waiting = ap (λ (x : TravellerModel). x.waiting) k.rest in
      let same : r.own.manager ≡ k.manager = some_is r.own.manager k.manager (sym r.own.stands ∙ k.stands) in
      record {
        own = record {
          manager = k.manager;
          stands = ap (slice_get ms) crossing ∙ k.stands;
          agent = agent_went k.manager k.manager.setting step (step + 1) t.agent u.agent k.went (subst (λ (m : TurnstileModel BookSetting). IsAgentOf m t.agent) same r.own.agent);
          waiting = subst (λ (w : List LegModel). All (IsLegAt ms) w) (sym waiting) r.own.waiting;
        };
        late = k.went.late r.late;
      }

  -- it took its turn, and stays on its leg
  pub stayed : (step : ℕ) (t u : TravellerModel) → IsReady ms step t → TakesTurn ms step t u → (u.agent.trouble ≡ None → (u.waiting ≡ []) ⊎ (acked u.agent.driver.log ≡ None))
      → Moves ms step (step + 1) t u
  stayed step t u r k not_over = record {
    vehicle = ap (λ (x : TravellerModel). x.vehicle) k.rest;
    ready = own_turn step t u r k;
    rode = λ first legs h.
        subst (λ (x : TravellerModel). IsAlong ms 0 first (step + 1) legs x.over x.crossing u.agent x.waiting) (sym (rest_is))
        (along_more 0 first step (step + 1) legs t.over t.crossing t.agent u.agent t.waiting
        (at_its step (step + 1) t.crossing k.manager t.agent u.agent k.stands k.went)
        (subst (λ (w : List LegModel). u.agent.trouble ≡ None → (w ≡ []) ⊎ (acked u.agent.driver.log ≡ None)) (ap (λ (x : TravellerModel). x.waiting) k.rest) not_over) h);
  }
    where
      rest_is : u ≡ record t { agent = u.agent }
      rest_is = k.rest

  -- it took its turn, got its Ack, and began the next leg
  pub began : (step : ℕ) (t u v : TravellerModel) → IsReady ms step t → TakesTurn ms step t u → (u.agent.trouble ≡ None) × (s : ℕ) × (acked u.agent.driver.log ≡ Some s) → Begins step u v
      → Moves ms step (step + 1) t v
  began step t u v r k through b =
      let over : u.over ≡ t.over = ap (λ (x : TravellerModel). x.over) k.rest in
      let crossing : u.crossing ≡ t.crossing = ap (λ (x : TravellerModel). x.crossing) k.rest in
      let waiting : u.waiting ≡ t.waiting = ap (λ (x : TravellerModel). x.waiting) k.rest in
      let all : All (IsLegAt ms) (b.next ∷ b.rest) = subst (λ (w : List LegModel). All (IsLegAt ms) w) (sym waiting ∙ b.waited) r.own.waiting in
      let next : IsLegAt ms b.next = all 0 b.next (omega arith) in
      record {
        vehicle = b.vehicle ∙ ap (λ (x : TravellerModel). x.vehicle) k.rest;
        ready = record {
          own = record {
            manager = next.manager;
            stands = ap (slice_get ms) b.crossing ∙ next.stands;
            agent = record {
              pass = subst (λ (p : AgentPass). IsPassOf next.manager p) (sym b.agent.pass_is) next.pass;
              vehicle = subst (λ (p : AgentPass). p.number < next.manager.setting.vehicles) (sym b.agent.pass_is) next.vehicle;
              room = b.agent.room_is ∙ next.room;
            };
            waiting = subst (λ (w : List LegModel). All (IsLegAt ms) w) (sym b.waiting) (λ j d lt. all (suc j) d (omega arith));
          };
          late = (let none : step_of v.agent.driver.log ≡ 0 = ap step_of b.agent.new.log in omega arith);
        };
        rode = λ first legs h.
            (λ (z : IsAlong ms 0 first (step + 1) legs (t.over ++ (t.crossing, u.agent.driver, u.agent.pass) ∷ []) v.crossing v.agent b.rest).
            subst (λ (w : List LegModel). IsAlong ms 0 first (step + 1) legs v.over v.crossing v.agent w) (sym b.waiting)
            (subst (λ (os : List OverModel). IsAlong ms 0 first (step + 1) legs os v.crossing v.agent b.rest)
            (sym (b.over ∙ (λ i. over i ++ (crossing i, u.agent.driver, u.agent.pass) ∷ []))) z))
            (along_next 0 first step legs t.over t.crossing t.agent u.agent t.waiting v.crossing v.agent b.rest
            (at_its step (step + 1) t.crossing k.manager t.agent u.agent k.stands k.went)
            (record {
              calm = through.0;
              through = (through.1, through.2);
              next = b.next;
              waited = sym waiting ∙ b.waited;
              place = b.crossing;
              begun = b.agent;
              manager = next.manager;
              stands = next.stands;
            }) h);
      }

-- whether it goes on

pub goes : (t : TravellerModel) (b : Bool) → GoesOn t b → b ≡ true → (t.agent.trouble ≡ None) × (s : ℕ) × (acked t.agent.driver.log ≡ Some s)
goes t true h is = (h.0, h.2, h.3)
goes t false h is = absurd (cc is)

pub stays : (t : TravellerModel) (b : Bool) → GoesOn t b → b ≡ false → t.agent.trouble ≡ None → (t.waiting ≡ []) ⊎ (acked t.agent.driver.log ≡ None)
stays t true h is = absurd (cc is)
stays t false h is = h

pub no_legs : (t : TravellerModel) (ls : List LegModel) → ls ≡ t.waiting → length ls ≡ 0 → GoesOn t false
no_legs t [] is len = λ calm. inl (sym is)
no_legs t (l ∷ ls) is len = absurd (omega arith)

pub in_trouble : (t : TravellerModel) (o : Option Trouble) → o ≡ t.agent.trouble → is_some o ≡ true → GoesOn t false
in_trouble t None is some = absurd (cc some)
in_trouble t (Some why) is some = λ calm. absurd (cc (is, calm))

pub goes_by : (t : TravellerModel) (ls : List LegModel) (n : ℕ) (why : Option Trouble) (o : Option ℕ) → ls ≡ t.waiting → n ≡ length ls → (n == 0) ≡ false → why ≡ t.agent.trouble → is_some why ≡ false
    → o ≡ acked t.agent.driver.log → GoesOn t (is_some o)
goes_by t [] n why o is len some calm none at = absurd (eqb-false n 0 some len)
goes_by t (l ∷ ls) n (Some x) o is len some calm none at = absurd (cc none)
goes_by t (l ∷ ls) n None None is len some calm none at = λ _. inr (sym at)
goes_by t (l ∷ ls) n None (Some s) is len some calm none at =
    (sym calm, subst (λ (w : List LegModel). 0 < length w) is (omega arith), s, sym at)

-- the first leg is taken out
pub first_out : (xs ys : List LegModel) (x : LegModel) → 0 < length xs → x ≡ get_or xs 0 x → ys ≡ remove xs 0 → xs ≡ x ∷ ys
first_out [] ys x some at rest = absurd (omega arith)
first_out (y ∷ xs) ys x some at rest = λ i. sym at i ∷ sym rest i
