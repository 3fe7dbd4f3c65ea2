-- What is left of each leg of a traveller, whether or not a journal was full.
use Rattle.std.proofs.Common.{◌≡◌, ◌≢◌, ℕ, ◌+◌, ◌<◌, ◌≤◌, List, [], ◌∷◌, ◌++◌, length, map, Some, refl, sym, ap, ◌∙◌, subst, arith}
use Rattle.std.specs.Prelude.{slice_get}
use Rattle.std.specs.List.{AllByRecursion, AllZip}
use Rattle.aim_driver.specs.declared.plans.DrivePlan.{DrivePlan}
use Rattle.aim_turnstile.specs.Models.{TurnstileModel, IsSamePass, new_pass}
use Rattle.aim_grid.specs.BookSetting.{BookSetting}
use Rattle.aim_grid.specs.Trouble.TheVariants as trouble
use Rattle.aim_grid.specs.Agents.{AgentModel, AgentPass}
use Rattle.aim_grid.specs.Models.{LegModel, OverModel, TravellerModel}
use Rattle.aim_grid.specs.Rode.{Managers, IsOver, IsRidden, IsAlong, Rode}
use Rattle.aim_grid.specs.Legs.{AreFresh, LegTold, legs_told, told, told_unbegun}
use Rattle.aim_drive.proofs.Closings.{few_calls}
use Rattle.aim_grid_script.specs.declared.routes.PlannedLeg.{PlannedLeg}
use Rattle.aim_grid_script.specs.Fits.{FitsLeg}
use Rattle.aim_grid.specs.Making.{IsMadeLeg}
use Rattle.aim_grid.specs.Closing.{Gone, gone}

-- a leg and what is left of it
record IsLegGone (l : LegModel) (x : LegTold) : Type 0 where
  pub crossing : x.0 ≡ l.crossing
  pub same : IsSamePass l.pass x.2
  pub few : length x.2.mine ≤ 128

module _ (ms : Managers) where
  ridden_gone : (at from last : ℕ) (l : LegModel) (crossing : ℕ) (a : AgentModel) → a.trouble ≢ Some trouble.NoMemory → IsRidden ms at from last l crossing a → IsLegGone l (crossing, a.driver.log, a.pass)
  ridden_gone at from last l crossing a memory r = record {
    crossing = r.crossing_is;
    same = subst (λ (p : AgentPass). IsSamePass p a.pass) r.is_begun.pass_is r.went.goes.same;
    few = few_calls r.manager.setting from last r.begun a r.is_begun.new r.went memory;
  }

  over_gone : (at from s : ℕ) (l : LegModel) (o : OverModel) → IsOver ms at from s l o → IsLegGone l (told o)
  over_gone at from s l o over =
      let g = ridden_gone at from (s + 1) l o.0 over.agent (λ e. absurd (cc (e, over.calm))) over.ridden in
      record {
        crossing = g.crossing;
        same = subst (λ (p : AgentPass). IsSamePass l.pass p) over.pass g.same;
        few = subst (λ (p : AgentPass). length p.mine ≤ 128) over.pass g.few;
      }

  unbegun_gone : (ls : List LegModel) → AreFresh ls → AllZip IsLegGone ls (map told_unbegun ls)
  unbegun_gone [] fresh = tt
  unbegun_gone (l ∷ ls) fresh = (
    record { crossing = refl; same = record { table = refl; setting = refl; number = refl }; few = few l fresh.1 },
    unbegun_gone ls fresh.2,
  )
    where
      few : (l : LegModel) → l.pass.mine ≡ [] → length l.pass.mine ≤ 128
      few l none = let n : length l.pass.mine ≡ 0 = ap (λ es. length es) none in omega arith

  along_gone : (at from last : ℕ) (legs : List LegModel) (os : List OverModel) (crossing : ℕ) (a : AgentModel) (waiting : List LegModel) → AreFresh legs → a.trouble ≢ Some trouble.NoMemory
      → IsAlong ms at from last legs os crossing a waiting → AllZip IsLegGone legs (map told os ++ (crossing, a.driver.log, a.pass) ∷ map told_unbegun waiting)
  along_gone at from last [] os crossing a waiting fresh memory h = absurd h
  along_gone at from last (l ∷ ls) [] crossing a waiting fresh memory h = (
    ridden_gone at from last l crossing a memory h.0,
    subst (λ (w : List LegModel). AllZip IsLegGone ls (map told_unbegun w)) (sym h.1) (unbegun_gone ls fresh.2),
  )
  along_gone at from last (l ∷ ls) (o ∷ os) crossing a waiting fresh memory h = (
    over_gone at from h.0 l o h.1,
    along_gone h.0 (h.0 + 1) last ls os crossing a waiting fresh.2 memory h.2,
  )

  -- a planned leg and what is left of it
  pub record IsPlannedGone (p : PlannedLeg) (x : LegTold) : Type 0 where
    pub manager : TurnstileModel BookSetting
    pub stands : slice_get ms p.crossing ≡ Some manager
    pub crossing : x.0 ≡ p.crossing
    pub same : IsSamePass (new_pass manager p.vehicle) x.2
    pub few : length x.2.mine ≤ 128

  planned_gone : (ps : List PlannedLeg) (ls : List LegModel) (xs : List LegTold) → AllZip (IsMadeLeg ms) ps ls → AllZip IsLegGone ls xs → AllZip IsPlannedGone ps xs
  planned_gone [] [] [] m g = tt
  planned_gone [] [] (x ∷ xs) m g = absurd g
  planned_gone [] (l ∷ ls) xs m g = absurd m
  planned_gone (p ∷ ps) [] xs m g = absurd m
  planned_gone (p ∷ ps) (l ∷ ls) [] m g = absurd g
  planned_gone (p ∷ ps) (l ∷ ls) (x ∷ xs) m g = (
    record {
      manager = m.0.manager;
      stands = m.0.stands;
      crossing = g.0.crossing ∙ m.0.crossing;
      same = subst (λ (q : AgentPass). IsSamePass q x.2) m.0.pass g.0.same;
      few = g.0.few;
    },
    planned_gone ps ls xs m.1 g.1,
  )

  pub legs_fresh : (vehicles crossings : ℕ) (ps : List PlannedLeg) (ls : List LegModel) → AllByRecursion (FitsLeg vehicles crossings) ps → AllZip (IsMadeLeg ms) ps ls → AreFresh ls
  legs_fresh vehicles crossings [] [] fit m = tt
  legs_fresh vehicles crossings [] (l ∷ ls) fit m = absurd m
  legs_fresh vehicles crossings (p ∷ ps) [] fit m = absurd m
  legs_fresh vehicles crossings (p ∷ ps) (l ∷ ls) fit m = (
    late fit.0.some_first m.0.plan_is,
    ap (λ (q : AgentPass). q.mine) m.0.pass,
    legs_fresh vehicles crossings ps ls fit.1 m.1,
  )
    where
      late : 1 ≤ p.plan.first → l.plan ≡ p.plan → 1 ≤ l.plan.first
      late some is = subst (λ (d : DrivePlan). 1 ≤ d.first) (sym is) some

  -- what is left of the legs of a traveller that rode up to some step
  pub legs_gone : (vehicles crossings last : ℕ) (ps : List PlannedLeg) (ls : List LegModel) (t : TravellerModel) → AllByRecursion (FitsLeg vehicles crossings) ps → AllZip (IsMadeLeg ms) ps ls
      → t.agent.trouble ≢ Some trouble.NoMemory → Rode ms 0 last ls t → AllZip IsPlannedGone ps (legs_told t)
  legs_gone vehicles crossings last ps ls t fit made memory rode =
      planned_gone ps ls (legs_told t) made (along_gone 0 0 last ls t.over t.crossing t.agent t.waiting (legs_fresh vehicles crossings ps ls fit made) memory rode)

  -- the same by the vehicle's number
  pub record IsGone (vehicles : ℕ) (g : Gone) : Type 0 where
    pub manager : TurnstileModel BookSetting
    pub stands : slice_get ms g.crossing ≡ Some manager
    pub low : g.vehicle < vehicles
    pub same : IsSamePass (new_pass manager g.vehicle) g.pass
    pub few : length g.pass.mine ≤ 128

  pub all_legs_gone : (vehicles crossings v : ℕ) (ps : List PlannedLeg) (xs : List LegTold) → AllByRecursion (λ (p : PlannedLeg). p.vehicle ≡ v) ps → AllByRecursion (FitsLeg vehicles crossings) ps → AllZip IsPlannedGone ps xs
      → AllByRecursion (IsGone vehicles) (map (gone v) xs)
  all_legs_gone vehicles crossings v [] [] own fit h = tt
  all_legs_gone vehicles crossings v [] (x ∷ xs) own fit h = absurd h
  all_legs_gone vehicles crossings v (p ∷ ps) [] own fit h = absurd h
  all_legs_gone vehicles crossings v (p ∷ ps) (x ∷ xs) own fit h = (
    record {
      manager = h.0.manager;
      stands = ap (slice_get ms) h.0.crossing ∙ h.0.stands;
      low = subst (λ n. n < vehicles) own.0 fit.0.vehicle;
      same = subst (λ n. IsSamePass (new_pass h.0.manager n) x.2) own.0 h.0.same;
      few = h.0.few;
    },
    all_legs_gone vehicles crossings v ps xs own.1 fit.1 h.1,
  )
