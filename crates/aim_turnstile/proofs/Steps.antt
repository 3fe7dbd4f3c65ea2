-- The steps on the words keep the rule.
use Rattle.std.proofs.Common.{◌≡◌, ◌≢◌, ◌⊎◌, ℕ, suc, ◌+◌, ◌%◌, ◌^◌, ◌<◌, ◌≤◌, Bool, true, false, List, [], ◌∷◌, ◌++◌, length, set, refl, sym, ap, ◌∙◌, subst, ⊎_elim, inl, inr, arith, length-append, Some, None, Option}
use mathlib.Core.Option.{some, none, some-ne-none, some-injective}
use mathlib.Core.Option as maybe
use mathlib.Core.Logic.{dite}
use native.Mathlib.Decide.{ℕ_discrete}
use lib.ListN.{get_elem?}
use Rattle.atomic_table.specs.Table.{State, Me, Act, Allows, Valid, stepped, carried_after}
use Rattle.atomic_table.specs.Table.Act.{keeps, takes, gives}
use Rattle.atomic_table.proofs.Lists.{at_set, set_else, set_again, one_turn}
use Rattle.std.specs.Prelude.{slice_index}
use Rattle.aim_turnstile.specs.declared.view.View.{View}
use Rattle.aim_turnstile.specs.History.{entries_of, Begins}
use Rattle.aim_turnstile.specs.Turned.{Every, total, own, blank, claims, waits, waiting, named, is, seated, spent, turning, queued, served, counted, Fits, Meaning, Home, Turned, Drew, Looked, Added, Passed, Rests}
use Rattle.aim_turnstile.proofs.Totals.{total_set, one_le, two_le, total_le, total_ones, Every_map, is_self, is_other, waits_le, set_at}
use Rattle.aim_turnstile.proofs.Histories.{begins_self, begins_more, entries_of_own, entries_of_other, snoc_last}

-- a counter goes up by one
up : (a : ℕ) → (a % 2 ^ 64 + 1) % 2 ^ 64 ≡ (a + 1) % 2 ^ 64
up a = omega arith

-- a view has its setting and its numbers, unless it is spent
abbrev pub Opened : {S E : Type 0} → S → List ℕ → View S E → Type 0
Opened s numbers v = ((v.setting ≡ Some s) × (v.numbers ≡ numbers)) ⊎ (v ≡ spent)

-- P holds of a view somewhere
abbrev pub Found : {S E : Type 0} → (View S E → Type 0) → List (View S E) → Type 0
Found {S} {E} P views = (j : ℕ) × (v : View S E) × (get_elem? views j ≡ some v) × P v

-- no two views have one ticket
abbrev pub Apart : {S E : Type 0} → List (View S E) → Type 0
Apart {S} {E} views = (i j : ℕ) (v w : View S E) (t : ℕ) → get_elem? views i ≡ some v → get_elem? views j ≡ some w → v.ticket ≡ Some t → w.ticket ≡ Some t → i ≡ j

-- all tickets from first up to last are drawn
abbrev pub Drawn : {S E : Type 0} → ℕ → ℕ → List (View S E) → Type 0
Drawn first last views = (t : ℕ) → first ≤ t → t < last → Found (λ v. v.ticket ≡ Some t) views

pub none_some : {A : Type 0} {t : A} → None ≡ Some t → ⊥
none_some e = cc

pub inside : {A : Type 0} (x y : A) → Some x ≡ Some y → x ≡ y
inside x y e = cc

pub off_on : {b : Bool} → b ≡ false → b ≡ true → ⊥
off_on p q = cc

module _ {S E : Type 0} where
  -- at one place of a list stands one view
  pub same_view : (views : List (View S E)) (i : ℕ) (v w : View S E) → get_elem? views i ≡ some v → get_elem? views i ≡ some w → v ≡ w
  same_view views i v w a b = some-injective v w (sym a ∙ b)

  -- a view with a setting is not spent
  pub opened_of : (s : S) (numbers : List ℕ) (v : View S E) (r : S) → v.setting ≡ Some r → Opened s numbers v → (v.setting ≡ Some s) × (v.numbers ≡ numbers)
  opened_of s numbers v r is (inl p) = p
  opened_of s numbers v r is (inr e) = absurd (none_some (sym (ap (λ (y : View S E). y.setting) e) ∙ is))

  -- what a view somewhere has, where another view changes, or one that keeps it
  pub found_set : (P : View S E → Type 0) (views : List (View S E)) (id : ℕ) (v w : View S E) → get_elem? views id ≡ some v → (P v → P w) → Found P views → Found P (set views id w)
  found_set P views id v w at keep f =
      dite (ℕ_discrete f.0 id)
      (λ e. (id, w, set_at views id v w at, keep (subst P (sym (same_view views id v f.1 at (subst (λ j. get_elem? views j ≡ some f.1) e f.2))) f.3)))
      (λ apart. (f.0, f.1, set_else views id f.0 w apart ∙ f.2, f.3))

  pub drawn_set : (first last last' : ℕ) (views : List (View S E)) (id : ℕ) (v w : View S E) → get_elem? views id ≡ some v → w.ticket ≡ v.ticket → last ≡ last' → Drawn first last views → Drawn first last' (set views id w)
  drawn_set first last last' views id v w at same to h t a b = found_set (λ (y : View S E). y.ticket ≡ Some t) views id v w at (λ e. same ∙ e) (h t a (subst (λ k. t < k) (sym to) b))

  -- no two views have one ticket, where the changed view has no new one
  pub apart_set : (views : List (View S E)) (id : ℕ) (v w : View S E) → get_elem? views id ≡ some v → ((t : ℕ) → w.ticket ≡ Some t → v.ticket ≡ Some t) → Apart views → Apart (set views id w)
  apart_set views id v w at keeps' h i j u u' t e e' f f' = let a = back i u e f in let b = back j u' e' f' in h i j a.0 b.0 t a.1 b.1 a.2 b.2
    where
      back : (k : ℕ) (y : View S E) → get_elem? (set views id w) k ≡ some y → y.ticket ≡ Some t → (z : View S E) × (get_elem? views k ≡ some z) × (z.ticket ≡ Some t)
      back k y g ticket = ⊎_elim (λ q. (v, subst (λ j. get_elem? views j ≡ some v) (sym q.0) at, keeps' t (subst (λ (z : View S E). z.ticket ≡ Some t) (sym q.1) ticket))) (λ q. (y, q.1, ticket)) (at_set views id k w y g)

  -- what the rule says of each view, after one view has changed
  pub each_set : (caller_of : E → ℕ) (s : S) (numbers : List ℕ) (log log' : List E) (a b a' b' : ℕ) (views : List (View S E)) (id : ℕ) (w : View S E)
      → ((j : ℕ) (u : View S E) → get_elem? views j ≡ some u → Fits caller_of s numbers log a b u)
      → ((j : ℕ) (u : View S E) → j ≢ id → get_elem? views j ≡ some u → Fits caller_of s numbers log a b u → Fits caller_of s numbers log' a' b' u)
      → Fits caller_of s numbers log' a' b' w → (j : ℕ) (u : View S E) → get_elem? (set views id w) j ≡ some u → Fits caller_of s numbers log' a' b' u
  each_set caller_of s numbers log log' a b a' b' views id w each others mine j u e =
      ⊎_elim (λ t. subst (Fits caller_of s numbers log' a' b') t.1 mine) (λ t. others j u t.0 t.1 (each j u t.1)) (at_set views id j w u e)

module _ {K S E : Type 0} (M : Meaning K S E) where
  -- no more views have a ticket than there are numbers
  crowd : (s : S) (numbers : List ℕ) (x : State (Option K) (View S E)) → Turned M s numbers x → waiting x.views < 2 ^ 64
  crowd s numbers x h =
      let a : waiting x.views ≤ total (named (λ _. 1)) x.views = total_le (λ (v : View S E). waits v.ticket) (named (λ _. 1)) x.views (λ j v at. waits_le v.ticket (named (λ _. 1) v) (λ t e. has v (((h.each j v at).ticket t e).2))) in
      omega (arith, h.places (λ _. 1), total_ones numbers, h.few)
    where
      has : (v : View S E) → ((n : ℕ) × (v.number ≡ Some n)) → 1 ≤ named (λ _. 1) v
      has v p = subst (λ (o : Option ℕ). 1 ≤ total (λ (c : ℕ × List E). 1) (own o v.mine ++ (blank v.to_give ++ v.ended))) (sym p.1) (omega arith)

  -- the slot, where a view changes that has no turn before and after
  pub home_set : (s : S) (homes : List (maybe.Option (Option K))) (views : List (View S E)) (log : List E) (id : ℕ) (v w : View S E) → get_elem? views id ≡ some v → v.turn ≡ false → w.turn ≡ false
      → Home M s homes views log → Home M s homes (set views id w) log
  home_set s homes views log id v w at off off' (inl h) = inl (h.0, h.1, h.2, h.3, λ j u e. ⊎_elim (λ t. sym (ap (λ (y : View S E). y.turn) t.1) ∙ off') (λ t. h.4 j u t.1) (at_set views id j w u e))
  home_set s homes views log id v w at off off' (inr h) =
      inr (h.0, (h.1.0, h.1.1, set_else views id h.1.0 w (λ e. off_on {b = h.1.1.turn} (sym (ap (λ (y : View S E). y.turn) (same_view views id v h.1.1 at (subst (λ j. get_elem? views j ≡ some h.1.1) e h.1.2))) ∙ off) h.1.3) ∙ h.1.2, h.1.3))

  -- a ticket is drawn
  pub draws : (s : S) (numbers : List ℕ) (slots id : ℕ) (ns : List ℕ) (n : ℕ) (seen mine : List E)
      → Allows (Turned M s numbers) slots id (seated (Some s) ns (Some n) seen mine, []) 0 (λ k. (k + 1) % 2 ^ 64) (Drew M (seated (Some s) ns (Some n) seen mine, []))
  draws s numbers slots id ns n seen mine x h deep at small =
      let v = seated (Some s) ns (Some n) seen mine in
      let t = h.serving + waiting x.views in
      let w = queued v t in
      let more : waiting (set x.views id w) ≡ waiting x.views + 1 = omega (arith, total_set (λ (u : View S E). waits u.ticket) x.views id v w at) in
      let last : h.serving + waiting (set x.views id w) ≡ t + 1 = omega (arith, more) in
      let old = h.each id v at in (
        w,
        keeps,
        tt,
        record {
          log = h.log;
          serving = h.serving;
          words = subst (λ ws. set ws 0 ((slice_index ws 0 + 1) % 2 ^ 64) ≡ ((h.serving + waiting (set x.views id w)) % 2 ^ 64) ∷ (h.serving % 2 ^ 64) ∷ (length h.log % 2 ^ 64) ∷ []) (sym h.words)
              (λ i. (up t ∙ ap (λ k. k % 2 ^ 64) (sym last)) i ∷ (h.serving % 2 ^ 64) ∷ (length h.log % 2 ^ 64) ∷ []);
          longest = found_set (λ (y : View S E). y.seen ≡ h.log) x.views id v w at (λ e. e) h.longest;
          lawful = h.lawful;
          few = h.few;
          distinct = h.distinct;
          places = λ f. omega (arith, total_set (named f) x.views id v w at, h.places f);
          strangers = h.strangers;
          each = each_set M.caller_of s numbers h.log h.log h.serving t h.serving (h.serving + waiting (set x.views id w)) x.views id w h.each
              (λ j u apart at' f. record { opened = f.opened; seen = f.seen; olds = f.olds; claimed = f.claimed; own_seen = f.own_seen; ticket = λ k e. let q = f.ticket k e in (q.0, omega (arith, q.1, last), q.2); turn = f.turn })
              record {
                opened = inl (opened_of s numbers v s refl old.opened);
                seen = old.seen;
                olds = tt;
                claimed = old.claimed;
                own_seen = old.own_seen;
                ticket = λ k e. (omega (arith, inside t k e), omega (arith, inside t k e, last), (n, refl));
                turn = λ e. absurd (off_on refl e);
              };
          apart = λ i j u u' k e e' f f'. alone i j u u' k (at_set x.views id i w u e) (at_set x.views id j w u' e') f f';
          drawn = λ k a b. dite (ℕ_discrete k t) (λ e. (id, w, set_at x.views id v w at, ap Some (sym e))) (λ other. found_set (λ (y : View S E). y.ticket ≡ Some k) x.views id v w at (λ e. absurd (none_some e)) (h.drawn k a (omega (arith, b, other, last))));
          slot = home_set s x.homes x.views h.log id v w at refl refl h.slot;
        },
        record { ticket = t; word = ap (λ ws. slice_index ws 0) h.words; after = refl },
      )
    where
      alone : (i j : ℕ) (u u' : View S E) (k : ℕ)
          → ((i ≡ id) × (queued (seated (Some s) ns (Some n) seen mine) (h.serving + waiting x.views) ≡ u)) ⊎ ((i ≢ id) × (get_elem? x.views i ≡ some u))
          → ((j ≡ id) × (queued (seated (Some s) ns (Some n) seen mine) (h.serving + waiting x.views) ≡ u')) ⊎ ((j ≢ id) × (get_elem? x.views j ≡ some u'))
          → u.ticket ≡ Some k → u'.ticket ≡ Some k → i ≡ j
      alone i j u u' k (inl a) (inl b) f f' = a.0 ∙ sym b.0
      alone i j u u' k (inl a) (inr b) f f' = let q = (h.each j u' b.1).ticket k f' in absurd (omega (arith, q.1, inside (h.serving + waiting x.views) k (ap (λ (y : View S E). y.ticket) a.1 ∙ f)))
      alone i j u u' k (inr a) (inl b) f f' = let q = (h.each i u a.1).ticket k f in absurd (omega (arith, q.1, inside (h.serving + waiting x.views) k (ap (λ (y : View S E). y.ticket) b.1 ∙ f')))
      alone i j u u' k (inr a) (inr b) f f' = h.apart i j u u' k a.1 b.1 f f'

  -- the ticket is looked for
  pub looks : (s : S) (numbers : List ℕ) (slots id : ℕ) (ns : List ℕ) (n t : ℕ) (seen mine : List E)
      → Allows (Turned M s numbers) slots id (queued (seated (Some s) ns (Some n) seen mine) t, []) 1 (λ k. k) (Looked M (queued (seated (Some s) ns (Some n) seen mine) t, []))
  looks s numbers slots id ns n t seen mine x h deep at small = dite (ℕ_discrete (slice_index x.words 1) (t % 2 ^ 64)) (λ same. came same h.slot) (λ other. away other)
    where
      v : View S E
      v = queued (seated (Some s) ns (Some n) seen mine) t

      kept_words : set x.words 1 (slice_index x.words 1) ≡ x.words
      kept_words = subst (λ ws. set ws 1 (slice_index ws 1) ≡ ws) (sym h.words) refl

      Told : Type 0
      Told = (w : View S E) × (a : Act (Option K)) × Valid x.homes [] a × Turned M s numbers (stepped x 1 (slice_index x.words 1) id [] w a) × Looked M (v, []) (slice_index x.words 1) (w, carried_after [] a)

      its_turn : slice_index x.words 1 ≡ t % 2 ^ 64 → h.serving ≡ t
      its_turn same =
          let q = (h.each id v at).ticket t refl in
          let c = crowd s numbers x h in
          one_turn h.serving t (2 ^ 64) q.0 (omega (arith, q.1, c)) (sym (ap (λ ws. slice_index ws 1) h.words) ∙ same)

      away : slice_index x.words 1 ≢ t % 2 ^ 64 → Told
      away other =
          let same_views : set x.views id v ≡ x.views = set_again x.views id v at in (
            v,
            keeps,
            tt,
            subst (λ (y : State (Option K) (View S E)). Turned M s numbers y) (λ i. record { words = sym kept_words i; homes = x.homes; views = sym same_views i }) h,
            record { came = λ k e found. absurd (other (found ∙ ap (λ (y : ℕ). y % 2 ^ 64) (sym (inside t k e)))); waits = λ _ _ _. refl },
          )

      came : slice_index x.words 1 ≡ t % 2 ^ 64 → Home M s x.homes x.views h.log → Told
      came same (inr out) =
          let u = out.1.1 in
          let theirs = (h.each out.1.0 u out.1.2).turn out.1.3 in
          let now : h.serving ≡ t = its_turn same in
          let here : id ≡ out.1.0 = h.apart id out.1.0 v u t at out.1.2 refl (theirs.0 ∙ ap Some now) in
          absurd (off_on {b = u.turn} (sym (ap (λ (y : View S E). y.turn) (same_view x.views id v u at (subst (λ j. get_elem? x.views j ≡ some u) (sym here) out.1.2)))) out.1.3)
      came same (inl home) =
          let now : h.serving ≡ t = its_turn same in
          let w = served v h.log in
          let k = home.0 in
          let crowd' : waiting (set x.views id w) ≡ waiting x.views = omega (arith, total_set (λ (u : View S E). waits u.ticket) x.views id v w at) in
          let last : h.serving + waiting x.views ≡ h.serving + waiting (set x.views id w) = omega (arith, crowd') in
          let old = h.each id v at in (
            w,
            takes 0 (Some k),
            ap (λ hs. get_elem? hs 0) home.1,
            record {
              log = h.log;
              serving = h.serving;
              words = kept_words ∙ h.words ∙ (λ i. (last i % 2 ^ 64) ∷ (h.serving % 2 ^ 64) ∷ (length h.log % 2 ^ 64) ∷ []);
              longest = (id, w, set_at x.views id v w at, refl);
              lawful = h.lawful;
              few = h.few;
              distinct = h.distinct;
              places = λ f. omega (arith, total_set (named f) x.views id v w at, h.places f);
              strangers = h.strangers;
              each = each_set M.caller_of s numbers h.log h.log h.serving (h.serving + waiting x.views) h.serving (h.serving + waiting (set x.views id w)) x.views id w h.each
                  (λ j u apart at' f. subst (λ b. Fits M.caller_of s numbers h.log h.serving b u) last f)
                  record {
                    opened = inl (opened_of s numbers v s refl old.opened);
                    seen = begins_self h.log;
                    olds = tt;
                    claimed = old.claimed;
                    own_seen = all_mine old.claimed.0;
                    ticket = λ k e. let q = old.ticket k e in (q.0, omega (arith, q.1, last), q.2);
                    turn = λ e. (ap Some (sym now), refl);
                  };
              apart = apart_set x.views id v w at (λ k e. e) h.apart;
              drawn = drawn_set h.serving (h.serving + waiting x.views) (h.serving + waiting (set x.views id w)) x.views id v w at refl last h.drawn;
              slot = inr (ap (λ hs. set hs 0 none) home.1, (id, w, set_at x.views id v w at, refl));
            },
            record {
              came = λ _ _ _. record { value = k; log = h.log; after = refl; seen = old.seen; stands = home.3; setting = ap Some home.2; lawful = subst (λ s'. M.is_lawful s' h.log) (sym home.2) h.lawful; mine = all_mine old.claimed.0 };
              waits = λ k' e other. absurd (other (same ∙ ap (λ (y : ℕ). y % 2 ^ 64) (inside t k' e)));
            },
          )
        where
          all_mine : entries_of M.caller_of n h.log ≡ mine → (m : ℕ) → Some n ≡ Some m → entries_of M.caller_of m h.log ≡ mine
          all_mine claimed m e = ap (λ m'. entries_of M.caller_of m' h.log) (sym (inside n m e)) ∙ claimed

  -- where a view has the turn, the slot is out
  out_of : (s : S) (x : State (Option K) (View S E)) (log : List E) (id : ℕ) (v : View S E) → get_elem? x.views id ≡ some v → v.turn ≡ true → Home M s x.homes x.views log → x.homes ≡ none ∷ []
  out_of s x log id v at on (inl home) = absurd (off_on (home.4 id v at) on)
  out_of s x log id v at on (inr out) = out.0

  -- the entry is counted
  pub counts : (s : S) (numbers : List ℕ) (slots id : ℕ) (ns : List ℕ) (n t : ℕ) (seen mine : List E) (k : K) (e : E) → M.entries k ≡ seen ++ e ∷ [] → M.caller_of e ≡ n → M.is_lawful s (M.entries k)
      → Allows (Turned M s numbers) slots id (turning (Some s) ns (Some n) t seen mine, (0, Some k) ∷ []) 2 (λ c. (c + 1) % 2 ^ 64) (λ _. Added M (turning (Some s) ns (Some n) t seen mine, (0, Some k) ∷ []))
  counts s numbers slots id ns n t seen mine k e ends whose fit x h deep at small =
      let v = turning (Some s) ns (Some n) t seen mine in
      let w = counted v e in
      let log = h.log ++ e ∷ [] in
      let old = h.each id v at in
      let all : seen ≡ h.log = (old.turn refl).1 in
      let crowd' : waiting (set x.views id w) ≡ waiting x.views = omega (arith, total_set (λ (u : View S E). waits u.ticket) x.views id v w at) in
      let last : h.serving + waiting x.views ≡ h.serving + waiting (set x.views id w) = omega (arith, crowd') in (
        w,
        keeps,
        tt,
        record {
          log = log;
          serving = h.serving;
          words = subst (λ ws. set ws 2 ((slice_index ws 2 + 1) % 2 ^ 64) ≡ ((h.serving + waiting (set x.views id w)) % 2 ^ 64) ∷ (h.serving % 2 ^ 64) ∷ (length log % 2 ^ 64) ∷ []) (sym h.words)
              (λ i. (last i % 2 ^ 64) ∷ (h.serving % 2 ^ 64) ∷ (up (length h.log) ∙ ap (λ c. c % 2 ^ 64) (sym (length-append h.log (e ∷ [])))) i ∷ []);
          longest = (id, w, set_at x.views id v w at, ap (λ l. l ++ e ∷ []) all);
          lawful = subst (M.is_lawful s) (ends ∙ ap (λ l. l ++ e ∷ []) all) fit;
          few = h.few;
          distinct = h.distinct;
          places = λ f. omega (arith, total_set (named f) x.views id v w at, h.places f);
          strangers = λ m none'. entries_of_other M.caller_of m h.log e (λ by. absurd (omega (arith, none', h.places (is m), one_le (named (is m)) x.views id v at, is_self m n (sym whose ∙ by)))) ∙ h.strangers m none';
          each = each_set M.caller_of s numbers h.log log h.serving (h.serving + waiting x.views) h.serving (h.serving + waiting (set x.views id w)) x.views id w h.each
              (λ j u apart at' f. record {
                opened = f.opened;
                seen = begins_more u.seen h.log (e ∷ []) f.seen;
                olds = Every_map (λ xs. Begins xs h.log) (λ xs. Begins xs log) (λ xs p. begins_more xs h.log (e ∷ []) p) u.olds f.olds;
                claimed = others (claims u) (omega (arith, two_le (named (is n)) x.views j id u v at' at apart, h.places (is n), h.distinct n, is_self n n refl)) f.claimed;
                own_seen = f.own_seen;
                ticket = λ c g. let q = f.ticket c g in (q.0, omega (arith, q.1, last), q.2);
                turn = λ on. absurd (apart (h.apart j id u v h.serving at' at (f.turn on).0 (old.turn refl).0));
              })
              record {
                opened = inl (opened_of s numbers v s refl old.opened);
                seen = subst (λ l. Begins (l ++ e ∷ []) log) (sym all) (begins_self log);
                olds = tt;
                claimed = (entries_of_own M.caller_of n h.log e whose ∙ ap (λ l. l ++ e ∷ []) old.claimed.0, tt);
                own_seen = λ m g. ap (λ m'. entries_of M.caller_of m' (seen ++ e ∷ [])) (sym (inside n m g)) ∙ entries_of_own M.caller_of n seen e whose ∙ ap (λ l. l ++ e ∷ []) (old.own_seen n refl);
                ticket = λ c g. let q = old.ticket c g in (q.0, omega (arith, q.1, last), q.2);
                turn = λ on. ((old.turn refl).0, ap (λ l. l ++ e ∷ []) all);
              };
          apart = apart_set x.views id v w at (λ c g. g) h.apart;
          drawn = drawn_set h.serving (h.serving + waiting x.views) (h.serving + waiting (set x.views id w)) x.views id v w at refl last h.drawn;
          slot = inr (out_of s x h.log id v at refl h.slot, (id, w, set_at x.views id v w at, refl));
        },
        record { after = λ k' e' held ends'. ap (λ (y : E). (counted v y, (0, Some k) ∷ [])) (snoc_last seen e e' (sym ends ∙ ap M.entries (in_hand k k' held) ∙ ends')) },
      )
    where
      first_value : List (ℕ × Option K) → Option K
      first_value [] = None
      first_value (y ∷ ys) = y.1

      in_hand : (a b : K) → ◌≡◌ {A = List (ℕ × Option K)} ((0, Some a) ∷ []) ((0, Some b) ∷ []) → a ≡ b
      in_hand a b g = inside a b (ap first_value g)

      others : (cs : List (ℕ × List E)) → total (λ c. is n c.0) cs ≡ 0 → Every (λ c. entries_of M.caller_of c.0 h.log ≡ c.1) cs → Every (λ c. entries_of M.caller_of c.0 (h.log ++ e ∷ []) ≡ c.1) cs
      others [] z all = tt
      others (c ∷ cs) z all = (entries_of_other M.caller_of c.0 h.log e (λ by. is_other n c.0 (omega arith) (sym by ∙ whose)) ∙ all.0, others cs (omega arith) all.1)

  -- the turn is given up
  pub yields : (s : S) (numbers : List ℕ) (slots id : ℕ) (ns : List ℕ) (n t : ℕ) (seen mine : List E) (k : K) → M.entries k ≡ seen → M.setting k ≡ s
      → Allows (Turned M s numbers) slots id (turning (Some s) ns (Some n) t seen mine, (0, Some k) ∷ []) 1 (λ c. (c + 1) % 2 ^ 64) (λ _. Passed M (turning (Some s) ns (Some n) t seen mine, (0, Some k) ∷ []))
  yields s numbers slots id ns n t seen mine k stands set' x h deep at small =
      let v = turning (Some s) ns (Some n) t seen mine in
      let w = seated (Some s) ns (Some n) seen mine in
      let old = h.each id v at in
      let mine' : Some t ≡ Some h.serving = (old.turn refl).0 in
      let all : seen ≡ h.log = (old.turn refl).1 in
      let fewer : waiting (set x.views id w) + 1 ≡ waiting x.views = omega (arith, total_set (λ (u : View S E). waits u.ticket) x.views id v w at) in
      let last : h.serving + waiting x.views ≡ suc h.serving + waiting (set x.views id w) = omega (arith, fewer) in (
        w,
        gives,
        tt,
        record {
          log = h.log;
          serving = suc h.serving;
          words = subst (λ ws. set ws 1 ((slice_index ws 1 + 1) % 2 ^ 64) ≡ ((suc h.serving + waiting (set x.views id w)) % 2 ^ 64) ∷ (suc h.serving % 2 ^ 64) ∷ (length h.log % 2 ^ 64) ∷ []) (sym h.words)
              (λ i. (last i % 2 ^ 64) ∷ (up h.serving ∙ ap (λ c. c % 2 ^ 64) (next h.serving)) i ∷ (length h.log % 2 ^ 64) ∷ []);
          longest = found_set (λ (y : View S E). y.seen ≡ h.log) x.views id v w at (λ e. e) h.longest;
          lawful = h.lawful;
          few = h.few;
          distinct = h.distinct;
          places = λ f. omega (arith, total_set (named f) x.views id v w at, h.places f);
          strangers = h.strangers;
          each = each_set M.caller_of s numbers h.log h.log h.serving (h.serving + waiting x.views) (suc h.serving) (suc h.serving + waiting (set x.views id w)) x.views id w h.each
              (λ j u apart at' f. record {
                opened = f.opened;
                seen = f.seen;
                olds = f.olds;
                claimed = f.claimed;
                own_seen = f.own_seen;
                ticket = λ c g. let q = f.ticket c g in (later (f.ticket c g).0 (λ same. apart (h.apart j id u v h.serving at' at (g ∙ ap Some (sym same)) mine')), omega (arith, q.1, last), q.2);
                turn = λ on. absurd (apart (h.apart j id u v h.serving at' at (f.turn on).0 mine'));
              })
              record {
                opened = inl (opened_of s numbers v s refl old.opened);
                seen = old.seen;
                olds = tt;
                claimed = old.claimed;
                own_seen = old.own_seen;
                ticket = λ c g. absurd (none_some g);
                turn = λ on. absurd (off_on refl on);
              };
          apart = apart_set x.views id v w at (λ c g. absurd (none_some g)) h.apart;
          drawn = λ c a b. found_set (λ (y : View S E). y.ticket ≡ Some c) x.views id v w at (λ g. absurd (past c a (inside h.serving c (sym mine' ∙ g)))) (h.drawn c (omega (arith, a)) (omega (arith, b, last)));
          slot = inl (
            k,
            ap (λ hs. set hs 0 (some (Some k))) (out_of s x h.log id v at refl h.slot),
            set',
            stands ∙ all,
            λ j u g. ⊎_elim (λ q. sym (ap (λ (y : View S E). y.turn) q.1)) (λ q. off u.turn (λ on. q.0 (h.apart j id u v h.serving q.1 at ((h.each j u q.1).turn on).0 mine'))) (at_set x.views id j w u g),
          );
        },
        record { after = refl },
      )
    where
      next : (a : ℕ) → a + 1 ≡ suc a
      next a = omega arith

      later : {a b : ℕ} → a ≤ b → (a ≡ b → ⊥) → suc a ≤ b
      later p q = omega arith

      past : (c : ℕ) → suc h.serving ≤ c → h.serving ≡ c → ⊥
      past c p q = omega arith

      off : (b : Bool) → (b ≡ true → ⊥) → b ≡ false
      off false q = refl
      off true q = absurd (q refl)

  -- the steps, at a seat that is known by an equation
  pub draws_as : (s : S) (numbers : List ℕ) (slots id n : ℕ) (m : Me (Option K) (View S E)) → Rests M s n m → Allows (Turned M s numbers) slots id m 0 (λ k. (k + 1) % 2 ^ 64) (Drew M m)
  draws_as s numbers slots id n m at_rest = subst (λ (y : Me (Option K) (View S E)). Allows (Turned M s numbers) slots id y 0 (λ k. (k + 1) % 2 ^ 64) (Drew M y)) (sym at_rest.is) (draws s numbers slots id m.0.numbers n m.0.seen m.0.mine)

  pub looks_as : (s : S) (numbers : List ℕ) (slots id : ℕ) (ns : List ℕ) (n t : ℕ) (m : Me (Option K) (View S E)) (seen mine : List E) → m ≡ (queued (seated (Some s) ns (Some n) seen mine) t, []) → Allows (Turned M s numbers) slots id m 1 (λ k. k) (Looked M m)
  looks_as s numbers slots id ns n t m seen mine at_rest = subst (λ (y : Me (Option K) (View S E)). Allows (Turned M s numbers) slots id y 1 (λ k. k) (Looked M y)) (sym at_rest) (looks s numbers slots id ns n t seen mine)

  pub counts_as : (s : S) (numbers : List ℕ) (slots id : ℕ) (ns : List ℕ) (n t : ℕ) (m : Me (Option K) (View S E)) (seen mine : List E) (k : K) (e : E) → m ≡ (turning (Some s) ns (Some n) t seen mine, (0, Some k) ∷ []) → M.entries k ≡ seen ++ e ∷ [] → M.caller_of e ≡ n → M.is_lawful s (M.entries k)
      → Allows (Turned M s numbers) slots id m 2 (λ c. (c + 1) % 2 ^ 64) (λ _. Added M m)
  counts_as s numbers slots id ns n t m seen mine k e is ends whose fit = subst (λ (y : Me (Option K) (View S E)). Allows (Turned M s numbers) slots id y 2 (λ c. (c + 1) % 2 ^ 64) (λ _. Added M y)) (sym is) (counts s numbers slots id ns n t seen mine k e ends whose fit)

  pub yields_as : (s : S) (numbers : List ℕ) (slots id : ℕ) (ns : List ℕ) (n t : ℕ) (m : Me (Option K) (View S E)) (seen mine : List E) (k : K) → m ≡ (turning (Some s) ns (Some n) t seen mine, (0, Some k) ∷ []) → M.entries k ≡ seen → M.setting k ≡ s
      → Allows (Turned M s numbers) slots id m 1 (λ c. (c + 1) % 2 ^ 64) (λ _. Passed M m)
  yields_as s numbers slots id ns n t m seen mine k is ends whose = subst (λ (y : Me (Option K) (View S E)). Allows (Turned M s numbers) slots id y 1 (λ c. (c + 1) % 2 ^ 64) (λ _. Passed M y)) (sym is) (yields s numbers slots id ns n t seen mine k ends whose)
