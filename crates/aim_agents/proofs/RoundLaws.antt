-- One step after another.
use Rattle.std.proofs.Common.{◌≡◌, ℕ, ◌+◌, ◌<◌, ◌≤◌, ◌⊎◌, inl, inr, List, length, get_or, refl, sym, ◌∙◌, subst, arith}
use Rattle.std.specs.Prelude.{All}
use Rattle.std.proofs.lemmas.Bool.{cases_lt}
use Rattle.aim_messages.specs.declared.entries.Entry.{Entry}
use Rattle.aim_turnstile.specs.Models.{TurnstileModel, IsSamePass}
use Rattle.aim_turnstile.specs.History.{Begins}
use Rattle.aim_agents.specs.BookSetting.{BookSetting}
use Rattle.aim_agents.specs.Agents.{AgentModel, AgentPass, Idles, IsAgentOf, front_of}
use Rattle.aim_agents.specs.Places.{IsCallSince, Before, Any, Earlier, SameMoment}
use Rattle.aim_agents.specs.Went.{Went, Met, Sees}
use Rattle.aim_agents.proofs.Places.{at_lt}
use Rattle.aim_agents.proofs.Passes.{length_begins, sees_self, sees_trans}
use Rattle.aim_agents.proofs.Courses.{went_then, met_went, stays_went, no_calls}
use Rattle.aim_agents.proofs.Rests.{idles_went}
use Rattle.aim_agents.specs.Runs.{AllIdle, Done, InRun, RunsWent, Gathered}
use Rattle.aim_agents.specs.Rounds.{StepOf, Stepped, RoundingOf, Rounding, Rounds}
use Rattle.aim_agents.proofs.RunLaws.{split_since}

module _ (set : BookSetting) where
  -- meetings afterwards add no call
  pub before_met : (R : Entry → Entry → Type 0) (s t : ℕ) (a b c d e f : AgentModel) → Before R a b d e → Went set s s b c → Went set t t e f → Before R a c d f
  before_met R s t a b c d e f h p q k l x y cx cy r =
      elim (split_since set s s a b c p k x cx) [
        | inl u ↦
            elim (split_since set t t d e f q l y cy) [
              | inl v ↦ h k l x y u v r
              | inr v ↦ absurd (no_calls set t e f q l y v)
            ]
        | inr u ↦ absurd (no_calls set s b c p k x u)
      ]

  -- one step: the turns, what the operator gathered, and what it told
  pub step_made : (step : ℕ) (op op' : AgentPass) (a m m' b : AgentModel) → Went set step (step + 1) a m → m' ≡ m → Begins m.pass.seen op'.seen → Met set m' (front_of op') b → StepOf set step op' a b
  step_made step op op' a m m' b w same told met =
      record {
        mid = m;
        went = w;
        told = told;
        back = λ n. met_went set n m (front_of op') b (subst (λ x. Met set x (front_of op') b) same met);
        rest = (subst (λ x. Met set x (front_of op') b) same met).rest;
        knows = met.meets.shows;
      }

  pub stepped_is : (step size : ℕ) (op op' : AgentPass) (xs ys zs ws : List AgentModel) → IsSamePass op op' → RunsWent set step size xs ys → Gathered (length ys) op op' ys zs → Done (λ a b. Met set a (front_of op') b) (length zs) zs ws → Stepped set step size op op' xs ws
  unfolding step_made
  stepped_is step size op op' xs ys zs ws same p g m =
      let len_y : length ys ≡ length xs = p.len in
      let len_z : length zs ≡ length ys = g.same.len in
      let len_w : length ws ≡ length zs = m.len in
      let of = λ (k : ℕ) (d : AgentModel) (l : k < length xs).
      step_made step op op' (get_or xs k d) (get_or ys k d) (get_or zs k d) (get_or ws k d) (p.each k d l) (g.same.each k d (omega arith)) (g.seen k d (omega arith)) (m.each k d (omega arith)) in
      record {
        operator = g.sees;
        whole = g.whole;
        same = same;
        len = omega arith;
        each = of;
        order = λ j k d r l.
            let jk : j < k = r.order in
            before_met Any (step + 1) (step + 1) (get_or xs j d) (get_or ys j d) (get_or ws j d) (get_or xs k d) (get_or ys k d) (get_or ws k d)
            (p.order j k d r l) ((of j d (omega arith)).back (step + 1)) ((of k d l).back (step + 1));
      }

  whole_step : (step : ℕ) (op : AgentPass) (a b : AgentModel) → StepOf set step op a b → Went set step (step + 1) a b
  whole_step step op a b s = went_then set step (step + 1) (step + 1) a s.mid b s.went (s.back (step + 1))

  -- one agent, one step further
  pub rounding_more : (first step : ℕ) (op0 op op' : AgentPass) (a b c : AgentModel) → Sees op0 op → RoundingOf set first step op0 op a b → StepOf set step op' b c → RoundingOf set first (step + 1) op0 op' a c
  rounding_more first step op0 op op' a b c sees r s =
      let mid_went = went_then set first step (step + 1) a b s.mid r.went s.went in
      record {
        went = went_then set first (step + 1) (step + 1) a s.mid c mid_went (s.back (step + 1));
        knows = s.knows;
        past = λ k e h.
            elim (split_since set step (step + 1) a b c (whole_step step op' b c s) k e h) [
              | inl x ↦ r.past k e x
              | inr x ↦ (
                  let n : length b.pass.seen ≤ k = x.later in
                  let m : length op.seen ≤ length b.pass.seen = length_begins op.seen b.pass.seen r.knows in
                  let o : length op0.seen ≤ length op.seen = length_begins op0.seen op.seen sees.begins in
                  omega arith)
            ];
        covered = λ k e h.
            elim (split_since set (step + 1) (step + 1) a s.mid c (s.back (step + 1)) k e h) [
              | inl x ↦ (
                  let l : k < length s.mid.pass.seen = at_lt s.mid.pass.seen k e x.stands in
                  let m : length s.mid.pass.seen ≤ length op'.seen = length_begins s.mid.pass.seen op'.seen s.told in
                  omega arith)
              | inr x ↦ absurd (no_calls set (step + 1) s.mid c (s.back (step + 1)) k e x)
            ];
        told = λ _. record { mid = s.mid; went = mid_went; told = s.told; back = s.back (step + 1) };
        back = λ _. s.back;
        rest = λ _. s.rest;
      }

  -- the calls of two agents, one step further
  pub earlier_more : (first step : ℕ) (op0 op op' : AgentPass) (a b c d e f : AgentModel) → RoundingOf set first step op0 op a b → StepOf set step op' b c → RoundingOf set first step op0 op d e → StepOf set step op' e f → Before Earlier a b d e → Before Earlier a c d f
  earlier_more first step op0 op op' a b c d e f r s u v h k l x y cx cy lt =
      let w = whole_step step op' b c s in
      let z = whole_step step op' e f v in
      elim (split_since set step (step + 1) a b c w k x cx) [
        | inl old_x ↦
            elim (split_since set step (step + 1) d e f z l y cy) [
              | inl old_y ↦ h k l x y old_x old_y lt
              | inr new_y ↦ (
                  let p : k < length op.seen = r.covered k x old_x in
                  let q : length op.seen ≤ length e.pass.seen = length_begins op.seen e.pass.seen u.knows in
                  let t : length e.pass.seen ≤ l = new_y.later in
                  omega arith)
            ]
        | inr new_x ↦ (
            let p : step ≤ x.moment = (w.goes.times k x new_x).0 in
            let less : x.moment < y.moment = lt in
            elim (split_since set step (step + 1) d e f z l y cy) [
              | inl old_y ↦ (let q : y.moment < step = (u.went.goes.times l y old_y).1 in absurd (omega arith))
              | inr new_y ↦ (let q : y.moment < step + 1 = (z.goes.times l y new_y).1 in absurd (omega arith))
            ])
      ]

  pub same_more : (first step : ℕ) (op0 op op' : AgentPass) (a b c d e f : AgentModel) → RoundingOf set first step op0 op a b → StepOf set step op' b c → RoundingOf set first step op0 op d e → StepOf set step op' e f → Before SameMoment a b d e → Before Any b c e f → Before SameMoment a c d f
  same_more first step op0 op op' a b c d e f r s u v h here k l x y cx cy same =
      let w = whole_step step op' b c s in
      let z = whole_step step op' e f v in
      let eq : x.moment ≡ y.moment = same in
      elim (split_since set step (step + 1) a b c w k x cx) [
        | inl old_x ↦
            elim (split_since set step (step + 1) d e f z l y cy) [
              | inl old_y ↦ h k l x y old_x old_y same
              | inr new_y ↦ (
                  let p : x.moment < step = (r.went.goes.times k x old_x).1 in
                  let q : step ≤ y.moment = (z.goes.times l y new_y).0 in
                  absurd (omega arith))
            ]
        | inr new_x ↦
            elim (split_since set step (step + 1) d e f z l y cy) [
              | inl old_y ↦ (
                  let p : step ≤ x.moment = (w.goes.times k x new_x).0 in
                  let q : y.moment < step = (u.went.goes.times l y old_y).1 in
                  absurd (omega arith))
              | inr new_y ↦ here k l x y new_x new_y tt
            ]
      ]

  -- all agents, one step further
  pub rounds_more : (first step size : ℕ) (op0 op op' : AgentPass) (xs ys zs : List AgentModel) → Rounding set first step size op0 op xs ys → Stepped set step size op op' ys zs → Rounding set first (step + 1) size op0 op' xs zs
  rounds_more first step size op0 op op' xs ys zs r s =
      let len_y : length ys ≡ length xs = r.len in
      let len_z : length zs ≡ length ys = s.len in
      record {
        operator = sees_trans op0 op op' r.operator s.operator;
        whole = λ w. s.whole (r.whole w);
        same = record { table = s.same.table ∙ r.same.table; setting = s.same.setting ∙ r.same.setting; number = s.same.number ∙ r.same.number };
        len = omega arith;
        each = λ k d l. rounding_more first step op0 op op' (get_or xs k d) (get_or ys k d) (get_or zs k d) r.operator (r.each k d l) (s.each k d (omega arith));
        steps = λ j k d lj lk. earlier_more first step op0 op op' (get_or xs j d) (get_or ys j d) (get_or zs j d) (get_or xs k d) (get_or ys k d) (get_or zs k d) (r.each j d lj) (s.each j d (omega arith)) (r.each k d lk) (s.each k d (omega arith)) (r.steps j k d lj lk);
        runs = λ j k d i lk.
            let jk : j < k = i.order in
            same_more first step op0 op op' (get_or xs j d) (get_or ys j d) (get_or zs j d) (get_or xs k d) (get_or ys k d) (get_or zs k d) (r.each j d (omega arith)) (s.each j d (omega arith)) (r.each k d lk) (s.each k d (omega arith)) (r.runs j k d i lk) (s.order j k d i (omega arith));
      }

  idle_step : (step : ℕ) (a : AgentModel) → Idles a step → Went set step (step + 1) a a
  idle_step step a idle = idles_went set step (step + 1) a (omega arith) (λ t lo hi. let is : step ≡ t = omega arith in subst (λ n. Idles a n) is idle)

  -- one agent, past a step at which it idles
  rounding_idle : (first step : ℕ) (op0 op : AgentPass) (a b : AgentModel) → first < step → Idles b step → RoundingOf set first step op0 op a b → RoundingOf set first (step + 1) op0 op a b
  rounding_idle first step op0 op a b lt idle r =
      let t = r.told lt in
      let before : Idles t.mid step = subst (λ x. Idles x step) (r.rest lt) idle in
      record {
        went = went_then set first step (step + 1) a b b r.went (idle_step step b idle);
        knows = r.knows;
        past = r.past;
        covered = r.covered;
        told = λ _. record {
          mid = t.mid;
          went = went_then set first step (step + 1) a t.mid t.mid t.went (idle_step step t.mid before);
          told = t.told;
          back = r.back lt (step + 1);
        };
        back = λ _. r.back lt;
        rest = λ _. r.rest lt;
      }

  -- all agents, past a step at which they all idle
  rounds_idle : (first step size : ℕ) (op0 op : AgentPass) (xs ys : List AgentModel) → first < step → ((k : ℕ) (d : AgentModel) → k < length ys → Idles (get_or ys k d) step) → Rounding set first step size op0 op xs ys → Rounding set first (step + 1) size op0 op xs ys
  rounds_idle first step size op0 op xs ys lt idle r =
      let len : length ys ≡ length xs = r.len in
      record {
        operator = r.operator;
        whole = r.whole;
        same = r.same;
        len = r.len;
        each = λ k d l. rounding_idle first step op0 op (get_or xs k d) (get_or ys k d) lt (idle k d (omega arith)) (r.each k d l);
        steps = r.steps;
        runs = r.runs;
      }

  -- all agents after the steps from `first` on and below `step`, who idle below the step `wake`
  pub record Going (first step wake size : ℕ) (op0 op : AgentPass) (xs ys : List AgentModel) : Type 0 where
    pub rounding : Rounding set first step size op0 op xs ys
    pub idle : AllIdle step wake ys
    pub begun : first ≡ step → wake ≡ 0

  pub going_on : (first step wake size : ℕ) (op0 op op' : AgentPass) (xs ys zs : List AgentModel) → first ≤ step → Rounding set first step size op0 op xs ys → Stepped set step size op op' ys zs → AllIdle (step + 1) wake zs → Going first (step + 1) wake size op0 op' xs zs
  going_on first step wake size op0 op op' xs ys zs le r s idle = record {
    rounding = rounds_more first step size op0 op op' xs ys zs r s;
    idle = idle;
    begun = λ is. absurd (omega arith);
  }

  pub going_idle : (first step wake size : ℕ) (op0 op : AgentPass) (xs ys : List AgentModel) → first ≤ step → step < wake → Going first step wake size op0 op xs ys → Going first (step + 1) wake size op0 op xs ys
  going_idle first step wake size op0 op xs ys le lt g = record {
    rounding = rounds_idle first step size op0 op xs ys (after g.begun) (λ k d l. g.idle k d l step (omega arith) lt) g.rounding;
    idle = λ k d l t lo hi. g.idle k d l t (omega arith) hi;
    begun = λ is. absurd (omega arith);
  }
    where
      after : (first ≡ step → wake ≡ 0) → first < step
      after begun =
          elim (cases_lt first step) [
            | inl less ↦ less
            | inr more ↦ (let none : wake ≡ 0 = begun (omega arith) in absurd (omega arith))
          ]

  met_rounding : (first : ℕ) (op : AgentPass) (a b : AgentModel) → Met set a (front_of op) b → RoundingOf set first first op op a b
  met_rounding first op a b m =
      let went = met_went set first a (front_of op) b m in
      record {
        went = went;
        knows = m.meets.shows;
        past = λ k e c. absurd (no_calls set first a b went k e c);
        covered = λ k e c. absurd (no_calls set first a b went k e c);
        told = λ lt. absurd (omega arith);
        back = λ lt. absurd (omega arith);
        rest = λ lt. absurd (omega arith);
      }

  -- before the first step all have met the operator
  pub rounds_begin : (t : TurnstileModel BookSetting) (first size : ℕ) (op : AgentPass) (xs ys : List AgentModel) → All (IsAgentOf t) xs → Done (λ a b. Met set a (front_of op) b) (length xs) xs ys → Rounding set first first size op op xs ys
  rounds_begin t first size op xs ys own m =
      let of = λ (k : ℕ) (d : AgentModel) (l : k < length xs). met_rounding first op (get_or xs k d) (get_or ys k d) (m.each k d l) in
      record {
        operator = sees_self op;
        whole = λ w. w;
        same = record { table = refl; setting = refl; number = refl };
        len = m.len;
        each = of;
        steps = λ j k d lj lk p q x y cx cy _. absurd (no_calls set first (get_or xs j d) (get_or ys j d) (of j d lj).went p x cx);
        runs = λ j k d i lk p q x y cx cy _. absurd (no_calls set first (get_or xs k d) (get_or ys k d) (of k d lk).went q y cy);
      }

  pub rounds_end : (first step last size size' : ℕ) (op0 op : AgentPass) (xs ys : List AgentModel) → step ≡ last → size ≡ size' → Rounding set first step size op0 op xs ys → Rounds set first last size' op0 op xs ys
  rounds_end first step last size size' op0 op xs ys ends same r' =
      let r = subst (λ s. Rounding set first s size op0 op xs ys) ends r' in
      record {
        operator = r.operator;
        whole = r.whole;
        same = r.same;
        len = r.len;
        went = λ k d l. (r.each k d l).went;
        knows = λ _ k d l. (r.each k d l).knows;
        told = λ lt k d l. (r.each k d l).told lt;
        past = λ j d l k e c. (r.each j d l).past k e c;
        steps = r.steps;
        runs = λ j k d i l. r.runs j k d (subst (λ s. InRun s j k) (sym same) i) l;
      }

  -- no step, or no agent
  pub no_rounds : (t : TurnstileModel BookSetting) (first last size : ℕ) (op : AgentPass) (xs : List AgentModel) → (first ≡ last) ⊎ (length xs ≡ 0) → All (IsAgentOf t) xs → Rounds set first last size op op xs xs
  no_rounds t first last size op xs none own =
      record {
        operator = sees_self op;
        whole = λ w. w;
        same = record { table = refl; setting = refl; number = refl };
        len = refl;
        went = λ k d l. subst (λ m. Went set first m (get_or xs k d) (get_or xs k d)) (same k l) (stays_went set first (get_or xs k d));
        knows = λ lt k d l. absurd (late lt k l);
        told = λ lt k d l. absurd (late lt k l);
        past = λ j d l k e c. absurd (quiet j d l k e c);
        steps = λ j k d lj lk p q x y cx cy _. absurd (quiet j d lj p x cx);
        runs = λ j k d i lk p q x y cx cy _. absurd (quiet k d lk q y cy);
      }
    where
      same : (k : ℕ) → k < length xs → first ≡ last
      same k l = elim none [ inl e ↦ e | inr z ↦ absurd (omega (arith, z)) ]

      late : first < last → (k : ℕ) → k < length xs → ⊥
      late lt k l = let e : first ≡ last = same k l in omega arith

      quiet : (j : ℕ) (d : AgentModel) → j < length xs → (k : ℕ) (e : Entry) → IsCallSince (get_or xs j d) (get_or xs j d) k e → ⊥
      quiet j d l k e c = no_calls set first (get_or xs j d) (get_or xs j d) (stays_went set first (get_or xs j d)) k e c
