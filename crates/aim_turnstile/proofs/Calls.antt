-- What a whole call tells.
use Rattle.std.proofs.Common.{◌≡◌, ℕ, Bool, true, false, List, [], ◌∷◌, ◌++◌, refl, sym, ap, ◌∙◌, subst, MatchBool, Some, Option}
use Rattle.atomic_table.specs.Table.{Me}
use Rattle.atomic_table.specs.Seated.{TableId}
use Rattle.aim_turnstile.specs.declared.view.View.{View}
use Rattle.aim_turnstile.specs.History.{entries_of, Begins}
use Rattle.aim_turnstile.specs.Models.{PassModel, MakesCall}
use Rattle.aim_turnstile.specs.Turned.{seated, Meaning, Sits, Entered, Left}
use Rattle.aim_turnstile.proofs.Histories.{begins_more, entries_of_own}

abbrev pass_model : {S E : Type 0} → ℕ → TableId → View S E → PassModel S E
pass_model n z v = record { table = z; setting = v.setting; number = n; seen = v.seen; mine = v.mine }

module _ {K S E : Type 0} (M : Meaning K S E) where
  -- where the seat ends, by what the call made
  ends : {s : S} {n : ℕ} {m m1 m2 : Me (Option K) (View S E)} {k k' : K} → Entered M s n m k m1 → (b : Bool)
      → MatchBool b ((e : E) × (M.entries k' ≡ M.entries k ++ e ∷ []) × (M.caller_of e ≡ n)) (M.entries k' ≡ M.entries k) → Left M s n m1 k' b m2
      → (mine : List E) × (m2 ≡ (seated (Some s) m1.0.numbers (Some n) (M.entries k') mine, [])) × (entries_of M.caller_of n (M.entries k') ≡ mine)
      × MatchBool b ((e : E) × (M.entries k' ≡ M.entries k ++ e ∷ []) × (M.caller_of e ≡ n) × (mine ≡ m.0.mine ++ e ∷ [])) ((M.entries k' ≡ M.entries k) × (mine ≡ m.0.mine))
  ends {s = s} {n = n} {m = m} {m1 = m1} {k = k} {k' = k'} en true entry l =
      let left = l.after in
      let e = left.0 in
      let was : m1.0.mine ≡ m.0.mine = ap (λ (y : Me (Option K) (View S E)). y.0.mine) en.after in
      let seen : m1.0.seen ≡ M.entries k = ap (λ (y : Me (Option K) (View S E)). y.0.seen) en.after in
      let longer : M.entries k' ≡ M.entries k ++ e ∷ [] = left.1 ∙ ap (λ l. l ++ e ∷ []) seen in
      (m1.0.mine ++ e ∷ [], left.3, ap (entries_of M.caller_of n) longer ∙ entries_of_own M.caller_of n (M.entries k) e left.2 ∙ ap (λ l. l ++ e ∷ []) (en.mine ∙ sym was), (e, longer, left.2, ap (λ l. l ++ e ∷ []) was))
  ends {s = s} {n = n} {m = m} {m1 = m1} {k = k} {k' = k'} en false entry l =
      let left = l.after in
      let was : m1.0.mine ≡ m.0.mine = ap (λ (y : Me (Option K) (View S E)). y.0.mine) en.after in
      let seen : m1.0.seen ≡ M.entries k = ap (λ (y : Me (Option K) (View S E)). y.0.seen) en.after in
      (m.0.mine, left ∙ (λ i. (seated (Some s) m1.0.numbers (Some n) ((seen ∙ sym entry) i) (was i), [])), ap (entries_of M.caller_of n) entry ∙ en.mine, (entry, refl))

  -- what begins with the list before begins with the list after
  grown : (n : ℕ) {k k' : K} (old : List E) (b : Bool) → Begins old (M.entries k) → MatchBool b ((e : E) × (M.entries k' ≡ M.entries k ++ e ∷ []) × (M.caller_of e ≡ n)) (M.entries k' ≡ M.entries k) → Begins old (M.entries k')
  grown n {k = k} old true p entry = subst (Begins old) (sym entry.1) (begins_more old (M.entries k) (entry.0 ∷ []) p)
  grown n old false p entry = subst (Begins old) (sym entry) p

  pub sits_after : {s : S} {n : ℕ} {m m1 m2 : Me (Option K) (View S E)} {k k' : K} {b made : Bool} → Entered M s n m k m1
      → MatchBool b ((e : E) × (M.entries k' ≡ M.entries k ++ e ∷ []) × (M.caller_of e ≡ n)) (M.entries k' ≡ M.entries k) → made ≡ b → Left M s n m1 k' made m2 → Sits M.caller_of n m2
  sits_after {s = s} {n = n} {m1 = m1} {m2 = m2} {k' = k'} {b = b} en entry was lf =
      let left = subst (λ c. Left M s n m1 k' c m2) was lf in
      let e = ends en b entry left in
      record {
        is = e.1 ∙ (λ i. (seated (sym (ap (λ (y : Me (Option K) (View S E)). y.0.setting) e.1) i) (sym (ap (λ (y : Me (Option K) (View S E)). y.0.numbers) e.1) i) (Some n) (sym (ap (λ (y : Me (Option K) (View S E)). y.0.seen) e.1) i) (sym (ap (λ (y : Me (Option K) (View S E)). y.0.mine) e.1) i), []));
        mine = ap (λ (y : Me (Option K) (View S E)). entries_of M.caller_of n y.0.seen) e.1 ∙ e.2 ∙ sym (ap (λ (y : Me (Option K) (View S E)). y.0.mine) e.1);
      }

  pub calls_after : {C A : Type 0} {does : S → ℕ → C → List E → List E → A → Type 0} {s : S} {n : ℕ} {m m1 m2 : Me (Option K) (View S E)} {k k' : K} {b made : Bool} {call : C} {answer : A} → (z z' : TableId) → Entered M s n m k m1
      → MatchBool b ((e : E) × (M.entries k' ≡ M.entries k ++ e ∷ []) × (M.caller_of e ≡ n)) (M.entries k' ≡ M.entries k) → made ≡ b → Left M s n m1 k' made m2
      → M.setting k' ≡ M.setting k → does (M.setting k) n call (M.entries k) (M.entries k') answer → M.is_lawful (M.setting k') (M.entries k')
      → MakesCall M.caller_of M.is_lawful does s call answer b (pass_model n z m.0) (pass_model n z' m2.0)
  calls_after {does = does} {s = s} {n = n} {m = m} {m1 = m1} {m2 = m2} {k = k} {k' = k'} {b = b} {call = call} {answer = answer} z z' en entry was lf set did fit =
      let left = subst (λ c. Left M s n m1 k' c m2) was lf in
      let e = ends en b entry left in
      let seen : m2.0.seen ≡ M.entries k' = ap (λ (y : Me (Option K) (View S E)). y.0.seen) e.1 in
      let mine : m2.0.mine ≡ e.0 = ap (λ (y : Me (Option K) (View S E)). y.0.mine) e.1 in
      let set' : M.setting k' ≡ s = set ∙ en.setting in
      record {
        grows = subst (Begins m.0.seen) (sym seen) (grown n m.0.seen b en.seen entry);
        before = M.entries k;
        begins = en.seen;
        own = en.mine;
        did = subst (λ (l : List E). does s n call (M.entries k) l answer) (sym seen) (subst (λ s'. does s' n call (M.entries k) (M.entries k') answer) en.setting did);
        entry = subst (λ (p : List E × List E). MatchBool b ((x : E) × (p.0 ≡ M.entries k ++ x ∷ []) × (M.caller_of x ≡ n) × (p.1 ≡ m.0.mine ++ x ∷ [])) ((p.0 ≡ M.entries k) × (p.1 ≡ m.0.mine))) (λ i. (sym seen i, sym mine i)) e.3;
        lawful = subst (M.is_lawful s) (sym seen) (subst (λ s'. M.is_lawful s' (M.entries k')) set' fit);
        mine = ap (entries_of M.caller_of n) seen ∙ e.2 ∙ sym mine;
      }
