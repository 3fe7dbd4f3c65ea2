-- Rounds and orders, one after the other, and the journal that they leave.
use Rattle.std.proofs.Common.{◌≡◌, ℕ, ◌<◌, ◌≤◌, ◌⊎◌, inl, inr, List, [], ◌∷◌, length, get_or, refl, sym, ap, ◌∙◌, subst, arith}
use Rattle.std.specs.Prelude.{All}
use Rattle.std.proofs.lemmas.Bool.{cases_lt}
use Rattle.aim_messages.specs.declared.entries.Entry.{Entry}
use Rattle.aim_driver.specs.Models.{step_of}
use Rattle.aim_turnstile.specs.Models.{TurnstileModel, HasPass, IsPassOf, IsSamePass}
use Rattle.aim_turnstile.specs.History.{entries_of}
use Rattle.aim_agents.specs.Seen.{caller_of}
use Rattle.aim_agents.specs.BookSetting.{BookSetting}
use Rattle.aim_agents.specs.Agents.{AgentModel, AgentPass, IsAgentOf, IsWhole}
use Rattle.aim_agents.specs.Places.{At, IsCall, IsCallSince, Before, Earlier, SameMoment}
use Rattle.aim_agents.specs.Went.{ExtendsBy, Sees, Went}
use Rattle.aim_agents.proofs.Passes.{extends_begins, length_begins}
use Rattle.aim_agents.proofs.Places.{at_lt, at_less, none_later, split_call, sees_none, only_call}
use Rattle.aim_agents.proofs.Courses.{went_then, stays_went, no_calls}
use Rattle.aim_agents.specs.Runs.{InRun}
use Rattle.aim_agents.specs.Rounds.{ToldLast, Rounds}
use Rattle.aim_agents.proofs.RunLaws.{split_since}
use Rattle.aim_agents.specs.Driven.{DrivenOf, Driven, IsKnown, JournalInOrder}

-- a pass of the same turnstile as one of this turnstile
pub pass_of : (t : TurnstileModel BookSetting) (old new : AgentPass) → IsSamePass old new → IsPassOf t old → IsPassOf t new
pass_of t old new same of = record { table = same.table ∙ of.table; setting = same.setting ∙ of.setting }

pub same_then : (old mid new : AgentPass) → IsSamePass old mid → IsSamePass mid new → IsSamePass old new
same_then old mid new a b = record { table = b.table ∙ a.table; setting = b.setting ∙ a.setting; number = b.number ∙ a.number }

pub logs_first : (xs : List AgentModel) → All (λ a. a.driver.log ≡ []) xs → All (λ a. step_of a.driver.log ≤ 0) xs
logs_first xs new k a l =
    let first : step_of (get_or xs k a).driver.log ≡ 0 = ap step_of (new k a l) in
    omega arith

module _ (set : BookSetting) where
  none_in_empty : (p : AgentPass) (since : ℕ) → p.seen ≡ [] → (k : ℕ) (e : Entry) → IsCall p since k e → ⊥
  none_in_empty p since none k e c = let h : At [] k e = subst (λ l. At l k e) none c.stands in absurd h

  pub driven_begin : (t : TurnstileModel BookSetting) (size : ℕ) (op : AgentPass) (xs : List AgentModel) → op.seen ≡ [] → op.mine ≡ [] → All (IsAgentOf t) xs → Driven set 0 size op xs xs
  driven_begin t size op xs seen mine own =
      let went = λ (k : ℕ) (d : AgentModel) (l : k < length xs). stays_went set 0 (get_or xs k d) in
      record {
        whole = ap (entries_of caller_of op.number) seen ∙ sym mine;
        len = refl;
        orders = λ k e c. absurd (none_in_empty op 0 seen k e c);
        rising = λ k l e f c _ _. absurd (none_in_empty op 0 seen k e c);
        each = λ k d l. record {
          went = went k d l;
          covered = λ p e c. absurd (no_calls set 0 (get_or xs k d) (get_or xs k d) (went k d l) p e c);
          behind = λ p q e f c _ _. absurd (none_in_empty op 0 seen p e c);
          ahead = λ p q e f c _ _. absurd (none_in_empty op 0 seen p e c);
        };
        steps = λ j k d lj lk p q e f c _ _. absurd (no_calls set 0 (get_or xs j d) (get_or xs j d) (went j d lj) p e c);
        runs = λ j k d i lk p q e f _ c _. absurd (no_calls set 0 (get_or xs k d) (get_or xs k d) (went k d lk) q f c);
      }

  -- an order of this moment
  order_of : (step : ℕ) (op op' : AgentPass) (o : Entry) (a b : AgentModel) → IsWhole op → ExtendsBy set o op op' → o.moment ≡ step → DrivenOf set step op a b → DrivenOf set step op' a b
  order_of step op op' o a b w x now d =
      let grows : length op.seen ≤ length op'.seen = length_begins op.seen op'.seen (extends_begins set o op op' x) in
      record {
        went = d.went;
        covered = λ k e c. let l : k < length op.seen = d.covered k e c in omega arith;
        behind = λ k l e f ce cf le.
            elim (split_order k e ce) [
              | inl old ↦ d.behind k l e f old cf le
              | inr new ↦ (
                  let t : f.moment < step = (d.went.goes.times l f cf).1 in
                  let m : o.moment ≡ e.moment = ap (λ z. z.moment) (only_call set op op' o w x k e new) in
                  let n : o.moment ≡ step = now in
                  absurd (omega arith))
            ];
        ahead = λ k l e f ce cf lt.
            elim (split_order k e ce) [
              | inl old ↦ d.ahead k l e f old cf lt
              | inr new ↦ (
                  let p : l < length op.seen = d.covered l f cf in
                  let q : length op.seen ≤ k = new.later in
                  omega arith)
            ];
      }
    where
      split_order : (k : ℕ) (e : Entry) → IsCall op' 0 k e → IsCall op 0 k e ⊎ IsCall op' (length op.seen) k e
      split_order k e c = split_call op op' 0 (extends_begins set o op op' x) x.same.number k e c

  pub driven_order : (step size : ℕ) (op op' : AgentPass) (o : Entry) (xs ys : List AgentModel) → ExtendsBy set o op op' → o.moment ≡ step → Driven set step size op xs ys → Driven set step size op' xs ys
  driven_order step size op op' o xs ys x now d =
      let n : o.moment ≡ step = now in
      record {
        whole = x.extends.whole;
        len = d.len;
        orders = λ k e c.
            elim (split_order k e c) [
              | inl old ↦ d.orders k e old
              | inr new ↦ (let m : o.moment ≡ e.moment = ap (λ z. z.moment) (only_call set op op' o d.whole x k e new) in omega arith)
            ];
        rising = λ k l e f ce cf lt.
            elim (split_order k e ce) [
              | inl old_e ↦
                  elim (split_order l f cf) [
                    | inl old_f ↦ d.rising k l e f old_e old_f lt
                    | inr new_f ↦ (
                        let p : k < length op.seen = at_lt op.seen k e old_e.stands in
                        let q : length op.seen ≤ l = new_f.later in
                        omega arith)
                  ]
              | inr new_e ↦ (
                  let m : o.moment ≡ e.moment = ap (λ z. z.moment) (only_call set op op' o d.whole x k e new_e) in
                  elim (split_order l f cf) [
                    | inl old_f ↦ (let p : f.moment ≤ step = d.orders l f old_f in let s : e.moment < f.moment = lt in absurd (omega arith))
                    | inr new_f ↦ (let p : o.moment ≡ f.moment = ap (λ z. z.moment) (only_call set op op' o d.whole x l f new_f) in let s : e.moment < f.moment = lt in absurd (omega arith))
                  ])
            ];
        each = λ k dd l. order_of step op op' o (get_or xs k dd) (get_or ys k dd) d.whole x now (d.each k dd l);
        steps = d.steps;
        runs = d.runs;
      }
    where
      split_order : (k : ℕ) (e : Entry) → IsCall op' 0 k e → IsCall op 0 k e ⊎ IsCall op' (length op.seen) k e
      split_order k e c = split_call op op' 0 (extends_begins set o op op' x) x.same.number k e c

  -- rounds: the operator has no new call
  old_order : (op op' : AgentPass) → IsWhole op → IsWhole op' → Sees op op' → (k : ℕ) (e : Entry) → IsCall op' 0 k e → IsCall op 0 k e
  old_order op op' w w' s k e c =
      elim (split_call op op' 0 s.begins s.same.number k e c) [
        | inl old ↦ old
        | inr new ↦ absurd (sees_none op op' w w' s k e new)
      ]

  rounds_of : (step last : ℕ) (op op' : AgentPass) (a b c : AgentModel) → IsWhole op → IsWhole op' → Sees op op' → ((k : ℕ) (e : Entry) → IsCall op 0 k e → e.moment ≤ step) → Went set step last b c → ((k : ℕ) (e : Entry) → IsCallSince b c k e → length op.seen ≤ k) → (step < last → ToldLast set step last op' b c) → DrivenOf set step op a b → DrivenOf set last op' a c
  rounds_of step last op op' a b c w w' s orders went past told d =
      let grows : length op.seen ≤ length op'.seen = length_begins op.seen op'.seen s.begins in
      record {
        went = went_then set 0 step last a b c d.went went;
        covered = λ k e h.
            elim (split_since set step last a b c went k e h) [
              | inl old ↦ (let p : k < length op.seen = d.covered k e old in omega arith)
              | inr new ↦ (
                  let t = went.goes.times k e new in
                  let t0 : step ≤ e.moment = t.0 in
                  let t1 : e.moment < last = t.1 in
                  let m = told (omega arith) in
                  elim (split_since set last last b m.mid c m.back k e new) [
                    | inl x ↦ (
                        let p : k < length m.mid.pass.seen = at_lt m.mid.pass.seen k e x.stands in
                        let q : length m.mid.pass.seen ≤ length op'.seen = length_begins m.mid.pass.seen op'.seen m.told in
                        omega arith)
                    | inr x ↦ absurd (no_calls set last m.mid c m.back k e x)
                  ])
            ];
        behind = λ k l e f ce cf le.
            let old_e = old_order op op' w w' s k e ce in
            elim (split_since set step last a b c went l f cf) [
              | inl old ↦ d.behind k l e f old_e old le
              | inr new ↦ (
                  let p : k < length op.seen = at_lt op.seen k e old_e.stands in
                  let q : length op.seen ≤ l = past l f new in
                  omega arith)
            ];
        ahead = λ k l e f ce cf lt.
            let old_e = old_order op op' w w' s k e ce in
            elim (split_since set step last a b c went l f cf) [
              | inl old ↦ d.ahead k l e f old_e old lt
              | inr new ↦ (
                  let p : e.moment ≤ step = orders k e old_e in
                  let q : step ≤ f.moment = (went.goes.times l f new).0 in
                  let r : f.moment < e.moment = lt in
                  absurd (omega arith))
            ];
      }

  earlier_rounds : (step last : ℕ) (op : AgentPass) (a b c d e f : AgentModel) → DrivenOf set step op a b → DrivenOf set step op d e → Went set step last b c → Went set step last e f → ((k : ℕ) (x : Entry) → IsCallSince e f k x → length op.seen ≤ k) → Before Earlier a b d e → Before Earlier b c e f → Before Earlier a c d f
  earlier_rounds step last op a b c d e f p q w z past h here k l x y cx cy lt =
      let less : x.moment < y.moment = lt in
      elim (split_since set step last a b c w k x cx) [
        | inl old_x ↦
            elim (split_since set step last d e f z l y cy) [
              | inl old_y ↦ h k l x y old_x old_y lt
              | inr new_y ↦ (let s : k < length op.seen = p.covered k x old_x in let t : length op.seen ≤ l = past l y new_y in omega arith)
            ]
        | inr new_x ↦
            elim (split_since set step last d e f z l y cy) [
              | inl old_y ↦ (let s : step ≤ x.moment = (w.goes.times k x new_x).0 in let t : y.moment < step = (q.went.goes.times l y old_y).1 in absurd (omega arith))
              | inr new_y ↦ here k l x y new_x new_y lt
            ]
      ]

  same_rounds : (step last : ℕ) (op : AgentPass) (a b c d e f : AgentModel) → DrivenOf set step op a b → DrivenOf set step op d e → Went set step last b c → Went set step last e f → Before SameMoment a b d e → Before SameMoment b c e f → Before SameMoment a c d f
  same_rounds step last op a b c d e f p q w z h here k l x y cx cy same =
      let eq : x.moment ≡ y.moment = same in
      elim (split_since set step last a b c w k x cx) [
        | inl old_x ↦
            elim (split_since set step last d e f z l y cy) [
              | inl old_y ↦ h k l x y old_x old_y same
              | inr new_y ↦ (let s : x.moment < step = (p.went.goes.times k x old_x).1 in let t : step ≤ y.moment = (z.goes.times l y new_y).0 in absurd (omega arith))
            ]
        | inr new_x ↦
            elim (split_since set step last d e f z l y cy) [
              | inl old_y ↦ (let s : step ≤ x.moment = (w.goes.times k x new_x).0 in let t : y.moment < step = (q.went.goes.times l y old_y).1 in absurd (omega arith))
              | inr new_y ↦ here k l x y new_x new_y same
            ]
      ]

  pub driven_rounds : (step last size size' : ℕ) (op op' : AgentPass) (xs ys zs : List AgentModel) → step ≤ last → size' ≡ size → Driven set step size op xs ys → Rounds set step last size' op op' ys zs → Driven set last size op' xs zs
  driven_rounds step last size size' op op' xs ys zs le sizes d r =
      let len_y : length ys ≡ length xs = d.len in
      let len_z : length zs ≡ length ys = r.len in
      record {
        whole = r.whole d.whole;
        len = omega arith;
        orders = λ k e c. let p : e.moment ≤ step = d.orders k e (old_order op op' d.whole (r.whole d.whole) r.operator k e c) in omega arith;
        rising = λ k l e f ce cf lt. d.rising k l e f (old_order op op' d.whole (r.whole d.whole) r.operator k e ce) (old_order op op' d.whole (r.whole d.whole) r.operator l f cf) lt;
        each = λ k dd l.
            rounds_of step last op op' (get_or xs k dd) (get_or ys k dd) (get_or zs k dd) d.whole (r.whole d.whole) r.operator d.orders
            (r.went k dd (omega arith)) (r.past k dd (omega arith)) (λ lt. r.told lt k dd (omega arith)) (d.each k dd l);
        steps = λ j k dd lj lk.
            earlier_rounds step last op (get_or xs j dd) (get_or ys j dd) (get_or zs j dd) (get_or xs k dd) (get_or ys k dd) (get_or zs k dd)
            (d.each j dd lj) (d.each k dd lk) (r.went j dd (omega arith)) (r.went k dd (omega arith)) (r.past k dd (omega arith)) (d.steps j k dd lj lk) (r.steps j k dd (omega arith) (omega arith));
        runs = λ j k dd i lk.
            let jk : j < k = i.order in
            same_rounds step last op (get_or xs j dd) (get_or ys j dd) (get_or zs j dd) (get_or xs k dd) (get_or ys k dd) (get_or zs k dd)
            (d.each j dd (omega arith)) (d.each k dd lk) (r.went j dd (omega arith)) (r.went k dd (omega arith)) (d.runs j k dd i lk)
            (r.runs j k dd (subst (λ s. InRun s j k) (sym sizes) i) (omega arith));
      }

  -- an agent of this turnstile stays one
  agent_went : (t : TurnstileModel BookSetting) (step : ℕ) (a b : AgentModel) → Went set 0 step a b → IsAgentOf t a → IsAgentOf t b
  agent_went t step a b w of =
      let number : b.pass.number ≡ a.pass.number = w.goes.same.number in
      let vehicle : a.pass.number < t.setting.vehicles = of.vehicle in
      record { pass = pass_of t a.pass b.pass w.goes.same of.pass; vehicle = omega arith; room = w.goes.room ∙ of.room }

  -- what the next rounds ask of the agents
  pub agents_of : (t : TurnstileModel BookSetting) (step size : ℕ) (op : AgentPass) (xs ys : List AgentModel) → Driven set step size op xs ys → All (IsAgentOf t) xs → All (IsAgentOf t) ys
  agents_of t step size op xs ys d of k a l =
      let len : length ys ≡ length xs = d.len in
      let lt : k < length xs = omega arith in
      agent_went t step (get_or xs k a) (get_or ys k a) (d.each k a lt).went (of k a lt)

  pub logs_of : (step size : ℕ) (op : AgentPass) (xs ys : List AgentModel) → Driven set step size op xs ys → All (λ a. a.driver.log ≡ []) xs → All (λ a. step_of a.driver.log ≤ step) ys
  logs_of step size op xs ys d new k a l =
      let len : length ys ≡ length xs = d.len in
      let lt : k < length xs = omega arith in
      let first : step_of (get_or xs k a).driver.log ≡ 0 = ap step_of (new k a lt) in
      (d.each k a lt).went.late (omega arith)

  -- an entry of the pass's number stands where the pass has seen it
  own_place : (h : List Entry) (p : AgentPass) → IsWhole p → HasPass caller_of h p → (k : ℕ) (e : Entry) → At h k e → e.caller ≡ p.number → IsCall p 0 k e
  own_place h p w has k e at own =
      elim (cases_lt k (length p.seen)) [
        | inl lt ↦ record { stands = at_less p.seen has.0.0 k e (subst (λ l. At l k e) has.0.1 at) lt; own = own; later = omega arith }
        | inr ge ↦ absurd (none_later p.number p.seen h p.mine has.0 has.1 w k e at ge own)
      ]

  since_new : (a b : AgentModel) → a.pass.seen ≡ [] → (k : ℕ) (e : Entry) → IsCall b.pass 0 k e → IsCallSince a b k e
  since_new a b new k e c =
      let z : length a.pass.seen ≡ 0 = ap (λ l. length l) new in
      record { stands = c.stands; own = c.own; later = omega arith }

  -- one of the agents
  any_of : (ys : List AgentModel) (j : ℕ) → j < length ys → AgentModel
  any_of [] j l = absurd (omega arith)
  any_of (y ∷ ys) j l = y

  pub journal_is_in_order : JournalInOrder set
  journal_is_in_order step size op xs ys h new d cl =
      let len : length ys ≡ length xs = d.len in
      record {
        moments = λ i j e f at_e at_f lt.
            elim (cases_lt f.moment e.moment) [
              | inl falls ↦ absurd (no_fall i j e f at_e at_f lt falls (cl.known i e at_e) (cl.known j f at_f))
              | inr le ↦ le
            ];
        orders = λ i j e f at_e at_f lt same is_op. first i j e f at_e at_f lt same is_op (cl.known i e at_e);
        runs = λ j k dd r l p q e f at_e at_f ce cf same.
            let jk : j < k = r.order in
            d.runs j k dd r (omega arith) p q e f (of_agent j dd (omega arith) p e at_e ce) (of_agent k dd (omega arith) q f at_f cf) same;
      }
    where
      of_op : (k : ℕ) (e : Entry) → At h k e → e.caller ≡ op.number → IsCall op 0 k e
      of_op k e at own = own_place h op d.whole cl.operator k e at own

      of_agent : (j : ℕ) (dd : AgentModel) → j < length xs → (k : ℕ) (e : Entry) → At h k e → e.caller ≡ (get_or ys j dd).pass.number → IsCallSince (get_or xs j dd) (get_or ys j dd) k e
      of_agent j dd l k e at own =
          since_new (get_or xs j dd) (get_or ys j dd) (new j dd l).0 k e
          (own_place h (get_or ys j dd).pass ((d.each j dd l).went.goes.whole (ap (entries_of caller_of (get_or xs j dd).pass.number) (new j dd l).0 ∙ sym (new j dd l).1)) (cl.agents j dd (subst (λ m. j < m) (sym d.len) l)) k e at own)

      no_fall : (i j : ℕ) (e f : Entry) → At h i e → At h j f → i < j → f.moment < e.moment → IsKnown op ys e → IsKnown op ys f → ⊥
      no_fall i j e f at_e at_f lt falls ke kf =
          elim ke [
            | inl op_e ↦
                elim kf [
                  | inl op_f ↦ (let p : j < i = d.rising j i f e (of_op j f at_f op_f) (of_op i e at_e op_e) falls in omega arith)
                  | inr v ↦ (
                      let l : v.0 < length xs = subst (λ m. v.0 < m) d.len v.1 in
                      let p : j < i = (d.each v.0 (any_of ys v.0 v.1) l).ahead i j e f (of_op i e at_e op_e) (of_agent v.0 (any_of ys v.0 v.1) l j f at_f (v.2 (any_of ys v.0 v.1))) falls in
                      omega arith)
                ]
            | inr u ↦ (
                let l : u.0 < length xs = subst (λ m. u.0 < m) d.len u.1 in
                let one = any_of ys u.0 u.1 in
                let ce = of_agent u.0 one l i e at_e (u.2 one) in
                elim kf [
                  | inl op_f ↦ (let p : j < i = (d.each u.0 one l).behind j i f e (of_op j f at_f op_f) ce (omega arith) in omega arith)
                  | inr v ↦ (
                      let m : v.0 < length xs = subst (λ n. v.0 < n) d.len v.1 in
                      let p : j < i = d.steps v.0 u.0 one m l j i f e (of_agent v.0 one m j f at_f (v.2 one)) ce falls in
                      omega arith)
                ])
          ]

      first : (i j : ℕ) (e f : Entry) → At h i e → At h j f → i < j → e.moment ≡ f.moment → f.caller ≡ op.number → IsKnown op ys e → e.caller ≡ op.number
      first i j e f at_e at_f lt same op_f ke =
          elim ke [
            | inl op_e ↦ op_e
            | inr u ↦ (
                let l : u.0 < length xs = subst (λ m. u.0 < m) d.len u.1 in
                let p : j < i = (d.each u.0 (any_of ys u.0 u.1) l).behind j i f e (of_op j f at_f op_f) (of_agent u.0 (any_of ys u.0 u.1) l i e at_e (u.2 (any_of ys u.0 u.1))) (omega arith) in
                absurd (omega arith))
          ]
