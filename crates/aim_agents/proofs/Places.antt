-- Places in a history, and the calls that a pass has there.
use Rattle.std.proofs.Common.{◌≡◌, ℕ, zero, suc, ◌+◌, ◌<◌, ◌≤◌, ◌==◌, ◌⊎◌, inl, inr, Bool, true, false, cond, List, [], ◌∷◌, ◌++◌, length, refl, sym, ap, ◌∙◌, subst, arith}
use Rattle.std.proofs.lemmas.Bool.{eqb-false, cases_lt}
use Rattle.std.proofs.lemmas.List.{append-nil, append_cancel_left}
use Rattle.std.proofs.lemmas.List.Elements.{filter-append}
use Rattle.aim_messages.specs.declared.entries.Entry.{Entry}
use Rattle.aim_turnstile.specs.History.{entries_of, Begins}
use Rattle.aim_manager.specs.declared.keeper.BookSetting.{BookSetting}
use Rattle.aim_manager.specs.Seen.{caller_of}
use Rattle.aim_agents.specs.Agents.{AgentPass, IsWhole}
use Rattle.aim_agents.specs.Places.{At, IsCall}
use Rattle.aim_agents.specs.Went.{Sees, ExtendsBy}
use Rattle.aim_agents.proofs.Passes.{seen_is}

pub at_lt : (xs : List Entry) (k : ℕ) (e : Entry) → At xs k e → k < length xs
at_lt [] k e h = absurd h
at_lt (x ∷ xs) zero e h = omega arith
at_lt (x ∷ xs) (suc k) e h = let l : k < length xs = at_lt xs k e h in omega arith

pub at_more : (xs ys : List Entry) (k : ℕ) (e : Entry) → At xs k e → At (xs ++ ys) k e
at_more [] ys k e h = absurd h
at_more (x ∷ xs) ys zero e h = h
at_more (x ∷ xs) ys (suc k) e h = at_more xs ys k e h

pub at_less : (xs ys : List Entry) (k : ℕ) (e : Entry) → At (xs ++ ys) k e → k < length xs → At xs k e
at_less [] ys k e h lt = absurd (omega arith)
at_less (x ∷ xs) ys zero e h lt = h
at_less (x ∷ xs) ys (suc k) e h lt = at_less xs ys k e h (omega arith)

pub at_rest : (xs ys : List Entry) (k : ℕ) (e : Entry) → At (xs ++ ys) k e → length xs ≤ k → (j : ℕ) × (k ≡ length xs + j) × At ys j e
at_rest [] ys k e h le = (k, omega arith, h)
at_rest (x ∷ xs) ys zero e h le = absurd (omega arith)
at_rest (x ∷ xs) ys (suc k) e h le =
    let r = at_rest xs ys k e h (omega arith) in
    let s : k ≡ length xs + r.0 = r.1 in
    (r.0, omega arith, r.2)

tail_none : (b : Bool) (y : Entry) (zs : List Entry) → cond b (y ∷ zs) zs ≡ [] → (b ≡ false) × (zs ≡ [])
tail_none true y zs h = absurd (cc h)
tail_none false y zs h = (refl, h)

not_own : (n : ℕ) (ys : List Entry) → entries_of caller_of n ys ≡ [] → (j : ℕ) (e : Entry) → At ys j e → e.caller ≡ n → ⊥
not_own n [] none j e h own = absurd h
not_own n (y ∷ ys) none zero e h own =
    eqb-false y.caller n (tail_none (y.caller == n) y (entries_of caller_of n ys) none).0 (ap (λ x. x.caller) h ∙ own)
not_own n (y ∷ ys) none (suc j) e h own =
    not_own n ys (tail_none (y.caller == n) y (entries_of caller_of n ys) none).1 j e h own

rest_none : (n : ℕ) (xs rest log mine : List Entry) → log ≡ xs ++ rest → entries_of caller_of n log ≡ mine → entries_of caller_of n xs ≡ mine → entries_of caller_of n rest ≡ []
rest_none n xs rest log mine log_is own whole =
    append_cancel_left (entries_of caller_of n xs) (entries_of caller_of n rest) []
    (sym (filter-append (λ e. caller_of e == n) xs rest) ∙ ap (entries_of caller_of n) (sym log_is) ∙ own ∙ sym whole ∙ sym (append-nil (entries_of caller_of n xs)))

-- where the pass's number has the same entries in a longer history, none of them stands past what was seen
pub none_later : (n : ℕ) (xs log mine : List Entry) → Begins xs log → entries_of caller_of n log ≡ mine → entries_of caller_of n xs ≡ mine
    → (k : ℕ) (e : Entry) → At log k e → length xs ≤ k → e.caller ≡ n → ⊥
none_later n xs log mine begins own whole k e h le by_n =
    let r = at_rest xs begins.0 k e (subst (λ l. At l k e) begins.1 h) le in
    not_own n begins.0 (rest_none n xs begins.0 log mine begins.1 own whole) r.0 e r.2 by_n

-- a pass that made no call has none past what it had seen
pub sees_none : (p q : AgentPass) → IsWhole p → IsWhole q → Sees p q → (k : ℕ) (e : Entry) → IsCall q (length p.seen) k e → ⊥
sees_none p q wp wq s k e c =
    none_later p.number p.seen q.seen p.mine s.begins
    (ap (λ n. entries_of caller_of n q.seen) (sym s.same.number) ∙ wq ∙ s.mine) wp k e c.stands c.later (c.own ∙ s.same.number)

-- a pass that made one call has that one alone past what it had seen
pub only_call : (s : BookSetting) (p q : AgentPass) (f : Entry) → IsWhole p → ExtendsBy s f p q → (k : ℕ) (e : Entry) → IsCall q (length p.seen) k e → f ≡ e
only_call s p q f wp x k e c =
    let before = x.extends.before in
    let stands : At (before ++ f ∷ []) k e = subst (λ l. At l k e) (seen_is s f p q x) c.stands in
    elim (cases_lt k (length before)) [
      | inl lt ↦ absurd (none_later p.number p.seen before p.mine x.extends.begins x.extends.own wp k e (at_less before (f ∷ []) k e stands lt) c.later (c.own ∙ x.same.number))
      | inr ge ↦ (let r = at_rest before (f ∷ []) k e stands ge in last r.0 r.2)
    ]
  where
    last : (j : ℕ) → At (f ∷ []) j e → f ≡ e
    last zero h = h
    last (suc j) h = absurd h

-- a call at a place of `since` at least stood there before, or it is past what had been seen
pub split_call : (q r : AgentPass) (since : ℕ) → Begins q.seen r.seen → r.number ≡ q.number → (k : ℕ) (e : Entry) → IsCall r since k e
    → IsCall q since k e ⊎ IsCall r (length q.seen) k e
split_call q r since b number k e c =
    elim (cases_lt k (length q.seen)) [
      | inl lt ↦ inl (record { stands = at_less q.seen b.0 k e (subst (λ l. At l k e) b.1 c.stands) lt; own = c.own ∙ number; later = c.later })
      | inr ge ↦ inr (record { stands = c.stands; own = c.own; later = ge })
    ]

pub keep_call : (q r : AgentPass) (since : ℕ) → Begins q.seen r.seen → r.number ≡ q.number → (k : ℕ) (e : Entry) → IsCall q since k e → IsCall r since k e
keep_call q r since b number k e c =
    record { stands = subst (λ l. At l k e) (sym b.1) (at_more q.seen b.0 k e c.stands); own = c.own ∙ sym number; later = c.later }
