-- What the steps of one turn tell.
use Rattle.std.proofs.Common.{◌≡◌, ℕ, Bool, true, false, List, [], ◌∷◌, ◌++◌, refl, sym, ap, ◌∙◌, subst, MatchBool, Some, None, Option}
use Rattle.atomic_table.specs.Table.{Me, rest}
use Rattle.aim_turnstile.specs.declared.view.View.{View}
use Rattle.aim_turnstile.specs.History.{entries_of, Begins}
use Rattle.aim_turnstile.specs.Turned.{seated, turning, queued, counted, rested, Meaning, Drew, Waits, Came, Looked, Added, Passed, Rests, Entered, Leaves, Left}
use Rattle.aim_turnstile.proofs.Steps.{inside}

abbrev value_of : {K : Type 0} → List (ℕ × Option K) → Option K
value_of [] = None
value_of (y ∷ ys) = y.1

module _ {K S E : Type 0} {M : Meaning K S E} where
  pub ready : {s : S} {n found : ℕ} {m m' : Me (Option K) (View S E)} → Rests M s n m → (d : Drew M m found m') → m' ≡ (queued (seated (Some s) m.0.numbers (Some n) m.0.seen m.0.mine) d.ticket, [])
  ready at_rest d = d.after ∙ ap (λ (y : Me (Option K) (View S E)). (queued y.0 d.ticket, y.1)) at_rest.is

  -- with the ticket that was drawn the seat waits for its turn
  pub waiting : {s : S} {n found : ℕ} {m m' : Me (Option K) (View S E)} → Rests M s n m → Drew M m found m' → Waits M s n found m'
  waiting {s = s} {n = n} {m = m} at_rest d = record {
    ticket = d.ticket;
    word = d.word;
    is = subst (λ (y : Me (Option K) (View S E)). y ≡ (queued (seated (Some s) y.0.numbers (Some n) y.0.seen y.0.mine) d.ticket, [])) (sym (ready at_rest d)) refl;
  }

  -- a look, after looks that told nothing: the turn came with it where the ticket is served, and else nothing did
  looked : {l l' m : Me (Option K) (View S E)} {now : ℕ} → l ≡ m → Looked M l now l' → Looked M m now l'
  looked {l' = l'} {now = now} same told = subst (λ (y : Me (Option K) (View S E)). Looked M y now l') same told

  ticket_of : {s : S} {n found : ℕ} {m : Me (Option K) (View S E)} → (w : Waits M s n found m) → m.0.ticket ≡ Some w.ticket
  ticket_of w = ap (λ (y : Me (Option K) (View S E)). y.0.ticket) w.is

  pub comes : {s : S} {n found now : ℕ} {m l l' : Me (Option K) (View S E)} → Waits M s n found m → l ≡ m → Looked M l now l' → now ≡ found → Came M m l'
  comes w same told is = (looked same told).came w.ticket (ticket_of w) (is ∙ w.word)

  pub stays : {s : S} {n found now : ℕ} {m l l' : Me (Option K) (View S E)} → Waits M s n found m → l ≡ m → Looked M l now l' → (now ≡ found → ⊥) → l' ≡ m
  stays w same told other = (looked same told).waits w.ticket (ticket_of w) (λ e. other (e ∙ sym w.word))

  pub held : {v : View S E} {m m' : Me (Option K) (View S E)} → m ≡ (v, []) → Came M m m' → (k : K) × (m'.1 ≡ (0, Some k) ∷ [])
  held is came = (came.value, ap (λ (y : Me (Option K) (View S E)). y.1) came.after ∙ ap (λ (y : Me (Option K) (View S E)). (0, Some came.value) ∷ y.1) is)

  taken : {s : S} {n t : ℕ} {m m' m'' : Me (Option K) (View S E)} {k : K} → Came M (queued (seated (Some s) m.0.numbers (Some n) m.0.seen m.0.mine) t, []) m' → m'.1 ≡ (0, Some k) ∷ [] → m'' ≡ (m'.0, (0, None) ∷ []) → Entered M s n m k m''
  taken {s = s} {n = n} {t = t} {m = m} {k = k} came in_hand is =
      let same : came.value ≡ k = inside came.value k (ap value_of (sym (ap (λ (y : Me (Option K) (View S E)). y.1) came.after) ∙ in_hand)) in
      let all : M.entries k ≡ came.log = sym (ap M.entries same) ∙ came.stands in
      let set : M.setting k ≡ s = sym (ap M.setting same) ∙ inside _ _ came.setting in
      record {
        ticket = t;
        after = is ∙ ap (λ (y : Me (Option K) (View S E)). (y.0, (0, None) ∷ [])) came.after ∙ ap (λ l. (turning (Some s) m.0.numbers (Some n) t l m.0.mine, (0, None) ∷ [])) (sym all);
        setting = set;
        lawful = subst (λ l. M.is_lawful s l) (sym all) (subst (λ s'. M.is_lawful s' came.log) (inside _ _ came.setting) came.lawful);
        seen = subst (λ l. Begins m.0.seen l) (sym all) came.seen;
        mine = ap (entries_of M.caller_of n) all ∙ came.mine n refl;
      }

  pub entered : {s : S} {n found : ℕ} {m w m' m'' : Me (Option K) (View S E)} {k : K} → Rests M s n m → Drew M m found w → Came M w m' → m'.1 ≡ (0, Some k) ∷ [] → m'' ≡ (m'.0, (0, None) ∷ []) → Entered M s n m k m''
  entered {m' = m'} at_rest d came in_hand is = taken (subst (λ (y : Me (Option K) (View S E)). Came M y m') (ready at_rest d) came) in_hand is

  -- the seat, with the value back in its slot
  pub put : {s : S} {n : ℕ} {m m' : Me (Option K) (View S E)} {k : K} {made : Bool} → (l : Leaves M s n m k made) → m' ≡ (m.0, (0, Some k) ∷ rest m.1) → m' ≡ (turning (Some s) m.0.numbers (Some n) l.ticket m.0.seen m.0.mine, (0, Some k) ∷ [])
  put {k = k} l is = is ∙ ap (λ (y : Me (Option K) (View S E)). (y.0, (0, Some k) ∷ rest y.1)) l.before

  -- the entry of a call that made one
  pub entry : {s : S} {n : ℕ} {m : Me (Option K) (View S E)} {k : K} {made : Bool} → Leaves M s n m k made → made ≡ true → (e : E) × (M.entries k ≡ m.0.seen ++ e ∷ []) × (M.caller_of e ≡ n)
  entry {n = n} {m = m} {k = k} l is = subst (λ b. MatchBool b ((e : E) × (M.entries k ≡ m.0.seen ++ e ∷ []) × (M.caller_of e ≡ n)) (M.entries k ≡ m.0.seen)) is l.entry

  pub no_entry : {s : S} {n : ℕ} {m : Me (Option K) (View S E)} {k : K} {made : Bool} → Leaves M s n m k made → made ≡ false → M.entries k ≡ m.0.seen
  no_entry {n = n} {m = m} {k = k} l is = subst (λ b. MatchBool b ((e : E) × (M.entries k ≡ m.0.seen ++ e ∷ []) × (M.caller_of e ≡ n)) (M.entries k ≡ m.0.seen)) is l.entry

  -- the seat after the count
  pub put_counted : {s : S} {n : ℕ} {m m' m'' : Me (Option K) (View S E)} {k : K} {made : Bool} → (l : Leaves M s n m k made) → m' ≡ (m.0, (0, Some k) ∷ rest m.1) → (came_true : made ≡ true) → Added M m' m''
      → m'' ≡ (turning (Some s) m.0.numbers (Some n) l.ticket (m.0.seen ++ (entry l came_true).0 ∷ []) (m.0.mine ++ (entry l came_true).0 ∷ []), (0, Some k) ∷ [])
  put_counted {k = k} l is came_true a =
      let e = entry l came_true in
      let p = put l is in
      a.after k e.0 (ap (λ (y : Me (Option K) (View S E)). y.1) p) (e.1 ∙ ap (λ (y : Me (Option K) (View S E)). y.0.seen ++ e.0 ∷ []) (sym p)) ∙ ap (λ (y : Me (Option K) (View S E)). (counted y.0 e.0, y.1)) p

  pub left_counted : {s : S} {n : ℕ} {m m' m'' a b : Me (Option K) (View S E)} {k : K} {made : Bool} → (l : Leaves M s n m k made) → m' ≡ (m.0, (0, Some k) ∷ rest m.1) → (came_true : made ≡ true) → Added M m' m'' → a ≡ m'' → Passed M a b → Left M s n m k made b
  left_counted {s = s} {n = n} {m = m} {b = b} {k = k} l is came_true a same p =
      let e = entry l came_true in
      subst (λ c. Left M s n m k c b) (sym came_true)
      record { after = (e.0, e.1, e.2, p.after ∙ ap (λ (y : Me (Option K) (View S E)). (rested y.0, rest y.1)) (same ∙ put_counted l is came_true a) ∙ ap (λ ls. (seated (Some s) m.0.numbers (Some n) ls (m.0.mine ++ e.0 ∷ []), [])) (sym e.1)) }

  pub left_plain : {s : S} {n : ℕ} {m m' a b : Me (Option K) (View S E)} {k : K} {made : Bool} → (l : Leaves M s n m k made) → m' ≡ (m.0, (0, Some k) ∷ rest m.1) → made ≡ false → a ≡ m' → Passed M a b → Left M s n m k made b
  left_plain {s = s} {n = n} {m = m} {b = b} {k = k} l is was_false same p =
      subst (λ c. Left M s n m k c b) (sym was_false) record { after = p.after ∙ ap (λ (y : Me (Option K) (View S E)). (rested y.0, rest y.1)) (same ∙ put l is) }
