-- The steps on the words keep the rule.
use Rattle.std.proofs.Common.{◌≡◌, ◌≢◌, ◌⊎◌, ℕ, suc, ◌+◌, ◌%◌, ◌^◌, ◌<◌, ◌≤◌, Bool, true, false, List, [], ◌∷◌, ◌++◌, length, length-set, set, refl, sym, ap, ◌∙◌, subst, ⊎_elim, inl, inr, arith, length-append, Some, None, Option}
use mathlib.Core.Option.{some, none, some-ne-none, some-injective}
use mathlib.Core.Option as maybe
use mathlib.Core.Logic.{dite}
use native.Mathlib.Decide.{ℕ_discrete}
use lib.ListN.{get_elem?}
use Rattle.std.proofs.lemmas.List.{get_or-set_other, get_or-set_same, set-get_or}
use Rattle.std.specs.Prelude.{slice_index}
use Rattle.atomic_table.specs.Table.{State, Me, Act, Allows, Valid, stepped, carried_after}
use Rattle.atomic_table.specs.Table.Act.{keeps, takes, gives}
use Rattle.atomic_table.proofs.Lists.{at_set, set_else, set_again, one_turn}
use Rattle.aim_shards.specs.declared.claims.ClaimEntry.{ClaimEntry}
use Rattle.aim_shards.specs.declared.quarter.Quarter.{Quarter}
use Rattle.aim_shards.specs.declared.view.QuadrantTurn.{QuadrantTurn}
use Rattle.aim_shards.specs.declared.view.ShardView.{ShardView}
use Rattle.aim_shards.specs.declared.view.Terms.{Terms}
use Rattle.aim_shards.specs.Sets.{Quarters}
use Rattle.aim_shards.specs.Sums.{Every, total, is, at}
use Rattle.aim_shards.specs.Claims.{of_quadrant, entries_of, stands, touches}
use Rattle.aim_shards.specs.Ruled.{claims, named, made, waits, has, room_of, terms_of, turn, working, queued, Suits, Fits, Home, Ruled, Drew, Came, Looked, Entered, Passed, noted, entry_of, with_entry, Stands, Decides}
use Rattle.aim_shards.proofs.Totals.{total_set, total_kept, one_le, two_le, total_le, total_bound, set_at, is_self, is_other, is_none}
use Rattle.aim_shards.proofs.Histories.{quadrant_more, quadrant_same, lawful_more, quadrant_length, entries_of_own, entries_of_other}
use Rattle.aim_shards.proofs.Lines.{at_self, at_other, at_le, below_up, below_one, ticket_in, below_le, word_up, none_more, up}

abbrev value_of : List (ℕ × Option Quarter) → Option Quarter
value_of [] = None
value_of (y ∷ ys) = y.1

inside : {A : Type 0} (a b : A) → Some a ≡ Some b → a ≡ b
inside a b e = cc

pub in_hand : {q q' : ℕ} {a b : Quarter} {cs cs' : List (ℕ × Option Quarter)} → ◌≡◌ {A = List (ℕ × Option Quarter)} ((q, Some a) ∷ cs) ((q', Some b) ∷ cs') → a ≡ b
in_hand {a = a} {b = b} e = inside a b (ap value_of e)

module _ (sets : List Quarters) where
  -- what the equation of two lists of one pair says
  abbrev first_of : List (ℕ × ℕ) → ℕ × ℕ
  first_of [] = (0, 0)
  first_of (y ∷ ys) = y

  pair_of : {q t q' t' : ℕ} → ◌≡◌ {A = List (ℕ × ℕ)} ((q, t) ∷ []) ((q', t') ∷ []) → ◌≡◌ {A = ℕ × ℕ} (q, t) (q', t')
  pair_of e = ap first_of e

  ticket_of : {q t q' t' : ℕ} → ◌≡◌ {A = List (ℕ × ℕ)} ((q, t) ∷ []) ((q', t') ∷ []) → t ≡ t'
  ticket_of e = ap (λ (y : ℕ × ℕ). y.1) (pair_of e)

  -- what the rule says of each view, after one view has changed
  pub each_set : (calls : ℕ) (terms : Terms) (log log' : List ClaimEntry) (views : List ShardView) (id : ℕ) (w : ShardView)
      → ((j : ℕ) (u : ShardView) → get_elem? views j ≡ some u → Fits calls terms log u)
      → ((j : ℕ) (u : ShardView) → j ≢ id → get_elem? views j ≡ some u → Fits calls terms log u → Fits calls terms log' u)
      → Fits calls terms log' w → (j : ℕ) (u : ShardView) → get_elem? (set views id w) j ≡ some u → Fits calls terms log' u
  each_set calls terms log log' views id w each others mine j u e =
      ⊎_elim (λ t. subst (Fits calls terms log') t.1 mine) (λ t. others j u t.0 t.1 (each j u t.1)) (at_set views id j w u e)

  -- the slot, where the views have the same turns
  pub home_same : (terms : Terms) (p : ℕ) (homes : List (maybe.Option (Option Quarter))) (log : List ClaimEntry) (s : ℕ) (views views' : List ShardView) → ((f : ℕ → ℕ) → total (has p f) views' ≡ total (has p f) views) → Home terms p homes views log s → Home terms p homes views' log s
  home_same terms p homes log s views views' same (inl a) = inl (a.0, a.1, a.2, λ f. same f ∙ a.3 f)
  home_same terms p homes log s views views' same (inr a) = inr (a.0, λ f. same f ∙ a.1 f)

  -- a ticket is drawn at the quadrant q
  pub draws : (numbers : List ℕ) (calls slots id q : ℕ) (terms : Terms) (n : ℕ) (hs : List QuadrantTurn) (mine : List ClaimEntry) (cs : List (ℕ × Option Quarter)) → q < 4 → length hs ≤ 3
      → Allows (Ruled sets numbers calls) slots id (working terms n hs mine, cs) q (λ k. (k + 1) % 2 ^ 64) (Drew q (working terms n hs mine, cs))
  draws numbers calls slots id q terms n hs mine cs lt few x h deep at' small =
      let v = working terms n hs mine in
      let t = h.next q in
      let w = queued terms n q t hs mine in
      let old = h.each id v at' in (
        w,
        keeps,
        tt,
        record {
          log = h.log;
          serving = h.serving;
          next = λ p. h.next p + is q p;
          wide = length-set x.words q ((slice_index x.words q + 1) % 2 ^ 64) ∙ h.wide;
          drawn = λ p b. word_up x.words q p h.next (omega (arith, h.wide, lt)) (h.drawn q lt) (h.drawn p b);
          served = λ p b. get_or-set_other x.words q (4 + p) ((slice_index x.words q + 1) % 2 ^ 64) 0 (λ e. omega arith) ∙ h.served p b;
          counted = get_or-set_other x.words q 8 ((slice_index x.words q + 1) % 2 ^ 64) 0 (λ e. omega arith) ∙ h.counted;
          lawful = h.lawful;
          few = h.few;
          small = h.small;
          distinct = h.distinct;
          places = λ f. total_kept (named f) x.views id v w at' refl ∙ h.places f;
          strangers = h.strangers;
          count = total_kept made x.views id v w at' refl ∙ h.count;
          line = λ p b f. omega (arith, total_set (waits p f) x.views id v w at', total_kept (has p f) x.views id v w at' refl, h.line p b f, below_up f h.next q p);
          slot = λ p b. home_same (terms_of sets numbers calls) p x.homes h.log (h.serving p) x.views (set x.views id w) (λ f. total_kept (has p f) x.views id v w at' refl) (h.slot p b);
          each = each_set calls (terms_of sets numbers calls) h.log h.log x.views id w h.each (λ j u apart e f. f) record { seen = old.seen; claimed = old.claimed; few = omega (arith, few); calls_left = old.calls_left; terms_is = old.terms_is };
        },
        record { ticket = t; word = h.drawn q lt; after = refl },
      )

  -- all tickets of a quadrant are few
  crowd : (numbers : List ℕ) (calls : ℕ) (x : State (Option Quarter) ShardView) (q : ℕ) → Ruled sets numbers calls x → total (waits q (λ _. 1)) x.views + total (has q (λ _. 1)) x.views < 2 ^ 62
  crowd numbers calls x q h =
      omega (
        arith,
        total_le (waits q (λ _. 1)) (named (λ _. 4)) x.views (λ j v e. omega (arith, (h.each j v e).few, ones (λ (w : ℕ × ℕ). w.0) v.waiting)),
        total_le (has q (λ _. 1)) (named (λ _. 4)) x.views (λ j v e. omega (arith, (h.each j v e).few, ones (λ (t : QuadrantTurn). t.quadrant) v.held)),
        h.places (λ _. 4),
        h.few,
      )
    where
      ones : {A : Type 0} (f : A → ℕ) (l : List A) → total (λ y. at q (f y) 1) l ≤ length l
      ones f [] = omega arith
      ones f (y ∷ ys) = omega (arith, at_le q (f y) 1, ones f ys)

  -- the ticket is looked for
  pub looks : (numbers : List ℕ) (calls slots id q t : ℕ) (terms : Terms) (n : ℕ) (hs : List QuadrantTurn) (mine : List ClaimEntry) (cs : List (ℕ × Option Quarter)) → q < 4
      → Allows (Ruled sets numbers calls) slots id (queued terms n q t hs mine, cs) (4 + q) (λ k. k) (Looked (queued terms n q t hs mine, cs))
  looks numbers calls slots id q t terms n hs mine cs lt x h deep at' small = dite (ℕ_discrete (slice_index x.words (4 + q)) (t % 2 ^ 64)) (λ same. came same (h.slot q lt)) (λ other. away other)
    where
      v : ShardView
      v = queued terms n q t hs mine

      kept_words : set x.words (4 + q) (slice_index x.words (4 + q)) ≡ x.words
      kept_words = set-get_or x.words (4 + q) 0

      Told : Type 0
      Told = (w : ShardView) × (a : Act (Option Quarter)) × Valid x.homes cs a × Ruled sets numbers calls (stepped x (4 + q) (slice_index x.words (4 + q)) id cs w a) × Looked (v, cs) (slice_index x.words (4 + q)) (w, carried_after cs a)

      away : slice_index x.words (4 + q) ≢ t % 2 ^ 64 → Told
      away other =
          let same_views : set x.views id v ≡ x.views = set_again x.views id v at' in (
            v,
            keeps,
            tt,
            subst (λ (y : State (Option Quarter) ShardView). Ruled sets numbers calls y) (λ i. record { words = sym kept_words i; homes = x.homes; views = sym same_views i }) h,
            record { came = λ q' t' e found. absurd (other (found ∙ ap (λ (y : ℕ). y % 2 ^ 64) (sym (ticket_of e)))); waits = λ _ _ _ _. refl },
          )

      mine_waits : 1 ≤ total (waits q (is t)) x.views
      mine_waits = omega (arith, one_le (waits q (is t)) x.views id v at', at_self q q (is t t) refl, is_self t t refl)

      its_turn : slice_index x.words (4 + q) ≡ t % 2 ^ 64 → h.serving q ≡ t
      its_turn same =
          let p = ticket_in t (h.serving q) (h.next q) (total (waits q (is t)) x.views + total (has q (is t)) x.views) (omega (arith, mine_waits)) (h.line q lt (is t)) in
          one_turn (h.serving q) t (2 ^ 64) p.0 (omega (arith, p.1, crowd numbers calls x q h, h.line q lt (λ _. 1), below_one (h.serving q), below_one (h.next q))) (sym (h.served q lt) ∙ same)

      came : slice_index x.words (4 + q) ≡ t % 2 ^ 64 → Home (terms_of sets numbers calls) q x.homes x.views h.log (h.serving q) → Told
      came same (inr out) = absurd (omega (arith, out.1 (is t), is_self t (h.serving q) (its_turn same), mine_waits, h.line q lt (is t), below_le t (h.next q)))
      came same (inl home) =
          let now : h.serving q ≡ t = its_turn same in
          let seen = of_quadrant sets q h.log in
          let w = working terms n (turn q t seen ∷ hs) mine in
          let k = home.0 in
          let old = h.each id v at' in (
            w,
            takes q (Some k),
            home.1,
            record {
              log = h.log;
              serving = h.serving;
              next = h.next;
              wide = ap length kept_words ∙ h.wide;
              drawn = λ p b. ap (λ ws. slice_index ws p) kept_words ∙ h.drawn p b;
              served = λ p b. ap (λ ws. slice_index ws (4 + p)) kept_words ∙ h.served p b;
              counted = ap (λ ws. slice_index ws 8) kept_words ∙ h.counted;
              lawful = h.lawful;
              few = h.few;
              small = h.small;
              distinct = h.distinct;
              places = λ f. total_kept (named f) x.views id v w at' refl ∙ h.places f;
              strangers = h.strangers;
              count = total_kept made x.views id v w at' refl ∙ h.count;
              line = λ p b f. omega (arith, total_set (waits p f) x.views id v w at', total_set (has p f) x.views id v w at', h.line p b f);
              slot = λ p b. dite (ℕ_discrete p q) (λ e. subst (λ y. Home (terms_of sets numbers calls) y (set x.homes q none) (set x.views id w) h.log (h.serving y)) (sym e) (here w refl now home)) (λ ne. there p ne w refl (h.slot p b));
              each = each_set calls (terms_of sets numbers calls) h.log h.log x.views id w h.each (λ j u apart e f. f) record { seen = (refl, old.seen); claimed = old.claimed; few = omega (arith, old.few); calls_left = old.calls_left; terms_is = old.terms_is };
            },
            record {
              came = λ q' t' e found. subst (λ (y : ℕ × ℕ). Came y.0 y.1 (v, cs) (w, (q, Some k) ∷ cs)) (pair_of e) record { value = k; seen = seen; suits = subst (λ r. Suits r q seen k) (sym (old.terms_is (omega arith))) home.2; after = refl };
              waits = λ q' t' e other. absurd (other (same ∙ ap (λ (y : ℕ). y % 2 ^ 64) (ticket_of e)));
            },
          )
        where
          here : (w : ShardView) → w ≡ working terms n (turn q t (of_quadrant sets q h.log) ∷ hs) mine → h.serving q ≡ t
              → ((k : Quarter) × (get_elem? x.homes q ≡ some (some (Some k))) × Suits (terms_of sets numbers calls) q (of_quadrant sets q h.log) k × ((f : ℕ → ℕ) → total (has q f) x.views ≡ 0))
              → Home (terms_of sets numbers calls) q (set x.homes q none) (set x.views id w) h.log (h.serving q)
          here w same now home = inr (set_at x.homes q (some (Some home.0)) none home.1, λ f. omega (arith, total_set (has q f) x.views id v w at', home.3 f, ap (has q f) same, at_self q q (f t) refl, ap f now))

          there : (p : ℕ) → p ≢ q → (w : ShardView) → w ≡ working terms n (turn q t (of_quadrant sets q h.log) ∷ hs) mine → Home (terms_of sets numbers calls) p x.homes x.views h.log (h.serving p) → Home (terms_of sets numbers calls) p (set x.homes q none) (set x.views id w) h.log (h.serving p)
          there p ne w same old = subst (λ (y : maybe.Option (maybe.Option (Option Quarter))). HomeAt y p (set x.views id w)) (sym (set_else x.homes q p none ne)) (home_same (terms_of sets numbers calls) p x.homes h.log (h.serving p) x.views (set x.views id w) (λ f. omega (arith, total_set (has p f) x.views id v w at', ap (has p f) same, at_other p q (f t) (λ e. ne (sym e)))) old)
            where
              HomeAt : maybe.Option (maybe.Option (Option Quarter)) → ℕ → List ShardView → Type 0
              HomeAt y p' views = ((k : Quarter) × (y ≡ some (some (Some k))) × Suits (terms_of sets numbers calls) p' (of_quadrant sets p' h.log) k × ((f : ℕ → ℕ) → total (has p' f) views ≡ 0)) ⊎ ((y ≡ some none) × ((f : ℕ → ℕ) → total (has p' f) views ≡ f (h.serving p')))

  -- the slot, as a fact of what is found there
  abbrev Held : Terms → ℕ → List ShardView → List ClaimEntry → ℕ → maybe.Option (maybe.Option (Option Quarter)) → Type 0
  Held terms p views log s y = ((k : Quarter) × (y ≡ some (some (Some k))) × Suits terms p (of_quadrant sets p log) k × ((f : ℕ → ℕ) → total (has p f) views ≡ 0)) ⊎ ((y ≡ some none) × ((f : ℕ → ℕ) → total (has p f) views ≡ f s))

  -- the turn that came last is given up
  pub serves : (numbers : List ℕ) (calls slots id q t : ℕ) (terms : Terms) (n : ℕ) (seen : List ClaimEntry) (hs : List QuadrantTurn) (mine : List ClaimEntry) (k : Quarter) (cs : List (ℕ × Option Quarter)) → q < 4 → Suits terms q seen k
      → Allows (Ruled sets numbers calls) slots id (working terms n (turn q t seen ∷ hs) mine, (q, Some k) ∷ cs) (4 + q) (λ c. (c + 1) % 2 ^ 64) (λ _. Passed (working terms n (turn q t seen ∷ hs) mine, (q, Some k) ∷ cs))
  serves numbers calls slots id q t terms n seen hs mine k cs lt suits x h deep at' small =
      let v = working terms n (turn q t seen ∷ hs) mine in
      let w = working terms n hs mine in
      let old = h.each id v at' in
      let now : h.serving q ≡ t = its_turn (h.slot q lt) in
      let word : ℕ = (slice_index x.words (4 + q) + 1) % 2 ^ 64 in (
        w,
        gives,
        tt,
        record {
          log = h.log;
          serving = λ p. h.serving p + is q p;
          next = h.next;
          wide = length-set x.words (4 + q) word ∙ h.wide;
          drawn = λ p b. get_or-set_other x.words (4 + q) p word 0 (λ e. omega arith) ∙ h.drawn p b;
          served = λ p b. served_up p b;
          counted = get_or-set_other x.words (4 + q) 8 word 0 (λ e. omega arith) ∙ h.counted;
          lawful = h.lawful;
          few = h.few;
          small = h.small;
          distinct = h.distinct;
          places = λ f. total_kept (named f) x.views id v w at' refl ∙ h.places f;
          strangers = h.strangers;
          count = total_kept made x.views id v w at' refl ∙ h.count;
          line = λ p b f. omega (arith, total_kept (waits p f) x.views id v w at' refl, total_set (has p f) x.views id v w at', h.line p b f, below_up f h.serving q p, ap (λ y. at p q (f y)) now);
          slot = λ p b. dite (ℕ_discrete p q) (λ e. subst (λ y. Home (terms_of sets numbers calls) y (set x.homes q (some (Some k))) (set x.views id w) h.log (h.serving y + is q y)) (sym e) (here w refl now (h.slot q lt))) (λ ne. there p ne w refl (h.slot p b));
          each = each_set calls (terms_of sets numbers calls) h.log h.log x.views id w h.each (λ j u apart e f. f) record { seen = old.seen.1; claimed = old.claimed; few = omega (arith, old.few); calls_left = old.calls_left; terms_is = old.terms_is };
        },
        record { after = refl },
      )
    where
      v : ShardView
      v = working terms n (turn q t seen ∷ hs) mine

      mine_has : (f : ℕ → ℕ) → f t ≤ total (has q f) x.views
      mine_has f = omega (arith, one_le (has q f) x.views id v at', at_self q q (f t) refl)

      its_turn : Home (terms_of sets numbers calls) q x.homes x.views h.log (h.serving q) → h.serving q ≡ t
      its_turn (inl home) = absurd (omega (arith, home.3 (λ _. 1), mine_has (λ _. 1)))
      its_turn (inr out) = dite (ℕ_discrete (h.serving q) t) (λ e. e) (λ ne. absurd (omega (arith, out.1 (is t), mine_has (is t), is_self t t refl, is_none t (h.serving q) ne)))

      served_up : (p : ℕ) → p < 4 → slice_index (set x.words (4 + q) ((slice_index x.words (4 + q) + 1) % 2 ^ 64)) (4 + p) ≡ (h.serving p + is q p) % 2 ^ 64
      served_up p b =
          dite (ℕ_discrete p q)
          (λ e. ap (λ y. slice_index (set x.words (4 + q) ((slice_index x.words (4 + q) + 1) % 2 ^ 64)) (4 + y)) e ∙ (get_or-set_same x.words (4 + q) ((slice_index x.words (4 + q) + 1) % 2 ^ 64) 0 (omega (arith, h.wide, lt)) ∙ (ap (λ c. (c + 1) % 2 ^ 64) (h.served q lt) ∙ (up (h.serving q) ∙ (λ i. (h.serving (sym e i) + sym (is_self q p e) i) % 2 ^ 64)))))
          (λ ne. get_or-set_other x.words (4 + q) (4 + p) ((slice_index x.words (4 + q) + 1) % 2 ^ 64) 0 (λ e. ne (omega arith)) ∙ (h.served p b ∙ (ap (λ c. c % 2 ^ 64) (sym (none_more (h.serving p))) ∙ ap (λ c. (h.serving p + c) % 2 ^ 64) (sym (is_none q p ne)))))

      here : (w : ShardView) → w ≡ working terms n hs mine → h.serving q ≡ t → Home (terms_of sets numbers calls) q x.homes x.views h.log (h.serving q)
          → Home (terms_of sets numbers calls) q (set x.homes q (some (Some k))) (set x.views id w) h.log (h.serving q + is q q)
      here w same now (inl home) = absurd (omega (arith, home.3 (λ _. 1), mine_has (λ _. 1)))
      here w same now (inr out) =
          let old = h.each id v at' in
          inl (
            k,
            set_at x.homes q none (some (Some k)) out.0,
            subst (λ r. Suits r q (of_quadrant sets q h.log) k) (old.terms_is (omega arith)) (subst (λ l. Suits terms q l k) old.seen.0 suits),
            λ f. omega (arith, total_set (has q f) x.views id v w at', out.1 f, ap (has q f) same, at_self q q (f t) refl, ap f now),
          )

      there : (p : ℕ) → p ≢ q → (w : ShardView) → w ≡ working terms n hs mine → Home (terms_of sets numbers calls) p x.homes x.views h.log (h.serving p) → Home (terms_of sets numbers calls) p (set x.homes q (some (Some k))) (set x.views id w) h.log (h.serving p + is q p)
      there p ne w same old =
          subst (Held (terms_of sets numbers calls) p (set x.views id w) h.log (h.serving p + is q p)) (sym (set_else x.homes q p (some (Some k)) ne))
          (subst (Home (terms_of sets numbers calls) p x.homes (set x.views id w) h.log) (sym (none_more (h.serving p)) ∙ ap (λ c. h.serving p + c) (sym (is_none q p ne)))
          (home_same (terms_of sets numbers calls) p x.homes h.log (h.serving p) x.views (set x.views id w) (λ f. omega (arith, total_set (has p f) x.views id v w at', ap (has p f) same, at_other p q (f t) (λ e. ne (sym e)))) old))

  -- lists of turns, where an entry comes that touches none of their quadrants, and one that touches all
  lists_kept : (log : List ClaimEntry) (e : ClaimEntry) (hs : List QuadrantTurn) → ((p : ℕ) → touches sets (stands [] log) e.act e.yes p ≡ true → total (λ t. at p t.quadrant 1) hs ≡ 0) → Every (λ t. t.seen ≡ of_quadrant sets t.quadrant log) hs
      → Every (λ t. t.seen ≡ of_quadrant sets t.quadrant (log ++ e ∷ [])) hs
  lists_kept log e [] none' all = tt
  lists_kept log e (t ∷ ts) none' all = (here (touches sets (stands [] log) e.act e.yes t.quadrant) refl, lists_kept log e ts (λ p is'. omega (arith, none' p is')) all.1)
    where
      here : (b : Bool) → touches sets (stands [] log) e.act e.yes t.quadrant ≡ b → t.seen ≡ of_quadrant sets t.quadrant (log ++ e ∷ [])
      here true is' = absurd (omega (arith, none' t.quadrant is', at_self t.quadrant t.quadrant 1 refl))
      here false is' = all.0 ∙ sym (quadrant_same sets t.quadrant log e is')

  lists_noted : (log : List ClaimEntry) (e : ClaimEntry) (hs : List QuadrantTurn) → Every (λ t. touches sets (stands [] log) e.act e.yes t.quadrant ≡ true) hs → Every (λ t. t.seen ≡ of_quadrant sets t.quadrant log) hs
      → Every (λ t. t.seen ≡ of_quadrant sets t.quadrant (log ++ e ∷ [])) (noted e hs)
  lists_noted log e [] touch all = tt
  lists_noted log e (t ∷ ts) touch all = (ap (λ l. l ++ e ∷ []) all.0 ∙ sym (quadrant_more sets t.quadrant log e touch.0), lists_noted log e ts touch.1 all.1)

  lists_behind : (log : List ClaimEntry) (hs : List QuadrantTurn) (n : ℕ) → n ≡ length log → Every (λ t. t.seen ≡ of_quadrant sets t.quadrant log) hs → Every (λ t. length t.seen ≤ n) hs
  lists_behind log [] n is' all = tt
  lists_behind log (t ∷ ts) n is' all = (omega (arith, is', ap length all.0, quadrant_length sets t.quadrant log), lists_behind log ts n is' all.1)

  noted_total : (f : ℕ → ℕ → ℕ) (e : ClaimEntry) (hs : List QuadrantTurn) → total (λ t. f t.quadrant t.ticket) (noted e hs) ≡ total (λ t. f t.quadrant t.ticket) hs
  noted_total f e [] = refl
  noted_total f e (t ∷ ts) = ap (λ k. f t.quadrant t.ticket + k) (noted_total f e ts)

  pub noted_length : (e : ClaimEntry) (hs : List QuadrantTurn) → length (noted e hs) ≡ length hs
  noted_length e [] = refl
  noted_length e (t ∷ ts) = ap suc (noted_length e ts)

  -- entries of other callers stay as they were
  others_kept : (log : List ClaimEntry) (e : ClaimEntry) (n : ℕ) → e.caller ≡ n → (cs : List (ℕ × List ClaimEntry)) → total (λ c. is n c.0) cs ≡ 0 → Every (λ c. entries_of c.0 log ≡ c.1) cs → Every (λ c. entries_of c.0 (log ++ e ∷ []) ≡ c.1) cs
  others_kept log e n whose [] z all = tt
  others_kept log e n whose (c ∷ cs) z all = (entries_of_other c.0 log e (λ by. is_other n c.0 (omega arith) (sym by ∙ whose)) ∙ all.0, others_kept log e n whose cs (omega arith) all.1)

  -- the entry that the slot in hand announces is made
  pub enters : (numbers : List ℕ) (calls slots id q : ℕ) (terms : Terms) (n : ℕ) (hs : List QuadrantTurn) (mine : List ClaimEntry) (k : Quarter) (cs : List (ℕ × Option Quarter)) → length mine < calls → Decides terms.sets n hs mine k.plan
      → Allows (Ruled sets numbers calls) slots id (working terms n hs mine, (q, Some k) ∷ cs) 8 (λ c. (c + 1) % 2 ^ 64) (Entered (working terms n hs mine, (q, Some k) ∷ cs))
  enters numbers calls slots id q terms n hs mine k cs few decides x h deep at' small =
      let v = working terms n hs mine in
      let tk : ℕ = slice_index x.words 8 in
      let e : ClaimEntry = entry_of tk (Some n) k.plan in
      let w = with_entry e v in
      let old = h.each id v at' in
      let log = h.log ++ e ∷ [] in
      let decided = (subst (λ r. Decides r n hs mine k.plan) (ap (λ (r : Terms). r.sets) (old.terms_is (omega arith))) decides).after h.log h.lawful old.seen old.claimed.0 in
      let views = set x.views id w in
      let word : ℕ = (tk + 1) % 2 ^ 64 in
      let places : (f : ℕ → ℕ) → total (named f) views ≡ total f numbers = λ f. total_kept (named f) x.views id v w at' refl ∙ h.places f in
      let each : (j : ℕ) (u : ShardView) → get_elem? views j ≡ some u → Fits calls (terms_of sets numbers calls) log u = each_set calls (terms_of sets numbers calls) h.log log x.views id w h.each
      (λ j u apart at'' f. record {
        seen = lists_kept h.log e u.held (λ p is'. let o = decided.only p is' in alone p (h.slot p o.0) (omega (arith, two_le (has p (λ _. 1)) x.views j id u v at'' at' apart, o.1)) o.1) f.seen;
        claimed = others_kept h.log e n refl (claims u) (omega (arith, two_le (named (is n)) x.views j id u v at'' at' apart, h.places (is n), h.distinct n, is_self n n refl)) f.claimed;
        few = f.few;
        calls_left = f.calls_left;
        terms_is = f.terms_is;
      })
      record {
        seen = lists_noted h.log e hs decided.all old.seen;
        claimed = (entries_of_own n h.log e refl ∙ ap (λ l. l ++ e ∷ []) old.claimed.0, tt);
        few = omega (arith, old.few, noted_length e hs);
        calls_left = (omega (arith, few, length-append mine (e ∷ [])), tt);
        terms_is = old.terms_is;
      } in
      let count : total made views ≡ length h.log + 1 = omega (arith, total_set made x.views id v w at', h.count, length-append mine (e ∷ [])) in
      let bound : length h.log + 1 ≤ room_of numbers calls = omega (arith, count, places (λ _. calls), total_le made (named (λ _. calls)) views (λ j u at''. total_bound (λ (c : ℕ × List ClaimEntry). length c.1) (λ _. calls) (claims u) (each j u at'').calls_left)) in (
        w,
        keeps,
        tt,
        record {
          log = log;
          serving = h.serving;
          next = h.next;
          wide = length-set x.words 8 word ∙ h.wide;
          drawn = λ p b. get_or-set_other x.words 8 p word 0 (λ e'. omega arith) ∙ h.drawn p b;
          served = λ p b. get_or-set_other x.words 8 (4 + p) word 0 (λ e'. omega arith) ∙ h.served p b;
          counted = get_or-set_same x.words 8 word 0 (omega (arith, h.wide)) ∙ omega (arith, h.counted, h.small, bound, length-append h.log (e ∷ []));
          lawful = lawful_more sets h.log e h.lawful h.counted decided.right;
          few = h.few;
          small = h.small;
          distinct = h.distinct;
          places = places;
          strangers = λ m none'. entries_of_other m h.log e (λ by. absurd (omega (arith, none', h.places (is m), one_le (named (is m)) x.views id v at', is_self m n by))) ∙ h.strangers m none';
          count = omega (arith, count, length-append h.log (e ∷ []));
          line = λ p b f. omega (arith, total_kept (waits p f) x.views id v w at' refl, total_kept (has p f) x.views id v w at' (noted_total (λ c t. at p c (f t)) e hs), h.line p b f);
          slot = λ p b. slots_kept p (touches sets (stands [] h.log) e.act e.yes p) refl (λ is'. (decided.only p is').1) (λ f. total_kept (has p f) x.views id v w at' (noted_total (λ c t. at p c (f t)) e hs)) (h.slot p b);
          each = each;
        },
        record { after = λ q' k' cs' is'. ap (λ (y : Quarter). (with_entry (entry_of tk (Some n) y.plan) v, (q, Some k) ∷ cs)) (in_hand is'); room = omega (arith, h.counted, bound, ap (λ (r : Terms). r.room) (old.terms_is (omega arith))); stood = subst (λ r. Stands (working r n hs mine)) (sym (old.terms_is (omega arith))) record { log = h.log; lawful = h.lawful; seen = old.seen; claimed = old.claimed }; small = omega (arith, h.counted, bound, h.small); behind = lists_behind h.log hs tk h.counted old.seen },
      )
    where
      e0 : ClaimEntry
      e0 = entry_of (slice_index x.words 8) (Some n) k.plan

      w0 : ShardView
      w0 = with_entry e0 (working terms n hs mine)

      -- another view with the turn of a quadrant that this one has
      alone : (p : ℕ) → Home (terms_of sets numbers calls) p x.homes x.views h.log (h.serving p) → {a : ℕ} → a + total (λ t. at p t.quadrant 1) hs ≤ total (has p (λ _. 1)) x.views → 1 ≤ total (λ t. at p t.quadrant 1) hs → a ≡ 0
      alone p (inl home) le some' = omega (arith, home.3 (λ _. 1))
      alone p (inr out) le some' = omega (arith, out.1 (λ _. 1))

      slots_kept : (p : ℕ) (b : Bool) → touches sets (stands [] h.log) k.plan.act k.plan.yes p ≡ b → (touches sets (stands [] h.log) k.plan.act k.plan.yes p ≡ true → 1 ≤ total (λ t. at p t.quadrant 1) hs) → ((f : ℕ → ℕ) → total (has p f) (set x.views id w0) ≡ total (has p f) x.views)
          → Home (terms_of sets numbers calls) p x.homes x.views h.log (h.serving p) → Home (terms_of sets numbers calls) p x.homes (set x.views id w0) (h.log ++ e0 ∷ []) (h.serving p)
      slots_kept p b is' only same (inr out) = inr (out.0, λ f. same f ∙ out.1 f)
      slots_kept p true is' only same (inl home) = absurd (omega (arith, only is', home.3 (λ _. 1), one_le (has p (λ _. 1)) x.views id (working terms n hs mine) at'))
      slots_kept p false is' only same (inl home) = inl (home.0, home.1, subst (λ l. Suits (terms_of sets numbers calls) p l home.0) (sym (quadrant_same sets p h.log e0 is')) home.2, λ f. same f ∙ home.3 f)

  -- the steps, at a seat that is known by an equation
  pub draws_as : (numbers : List ℕ) (calls slots id q : ℕ) (terms : Terms) (n : ℕ) (hs : List QuadrantTurn) (mine : List ClaimEntry) (cs : List (ℕ × Option Quarter)) (m : Me (Option Quarter) ShardView) → q < 4 → length hs ≤ 3 → m ≡ (working terms n hs mine, cs)
      → Allows (Ruled sets numbers calls) slots id m q (λ k. (k + 1) % 2 ^ 64) (Drew q m)
  draws_as numbers calls slots id q terms n hs mine cs m lt few same = subst (λ (y : Me (Option Quarter) ShardView). Allows (Ruled sets numbers calls) slots id y q (λ k. (k + 1) % 2 ^ 64) (Drew q y)) (sym same) (draws numbers calls slots id q terms n hs mine cs lt few)

  pub looks_as : (numbers : List ℕ) (calls slots id q t : ℕ) (terms : Terms) (n : ℕ) (hs : List QuadrantTurn) (mine : List ClaimEntry) (cs : List (ℕ × Option Quarter)) (m : Me (Option Quarter) ShardView) → q < 4 → m ≡ (queued terms n q t hs mine, cs)
      → Allows (Ruled sets numbers calls) slots id m (4 + q) (λ k. k) (Looked m)
  looks_as numbers calls slots id q t terms n hs mine cs m lt same = subst (λ (y : Me (Option Quarter) ShardView). Allows (Ruled sets numbers calls) slots id y (4 + q) (λ k. k) (Looked y)) (sym same) (looks numbers calls slots id q t terms n hs mine cs lt)

  pub serves_as : (numbers : List ℕ) (calls slots id q t : ℕ) (terms : Terms) (n : ℕ) (seen : List ClaimEntry) (hs : List QuadrantTurn) (mine : List ClaimEntry) (k : Quarter) (cs : List (ℕ × Option Quarter)) (m : Me (Option Quarter) ShardView) → q < 4 → Suits terms q seen k → m ≡ (working terms n (turn q t seen ∷ hs) mine, (q, Some k) ∷ cs)
      → Allows (Ruled sets numbers calls) slots id m (4 + q) (λ c. (c + 1) % 2 ^ 64) (λ _. Passed m)
  serves_as numbers calls slots id q t terms n seen hs mine k cs m lt suits same = subst (λ (y : Me (Option Quarter) ShardView). Allows (Ruled sets numbers calls) slots id y (4 + q) (λ c. (c + 1) % 2 ^ 64) (λ _. Passed y)) (sym same) (serves numbers calls slots id q t terms n seen hs mine k cs lt suits)

  pub enters_as : (numbers : List ℕ) (calls slots id q : ℕ) (terms : Terms) (n : ℕ) (hs : List QuadrantTurn) (mine : List ClaimEntry) (k : Quarter) (cs : List (ℕ × Option Quarter)) (m : Me (Option Quarter) ShardView) → length mine < calls → Decides terms.sets n hs mine k.plan → m ≡ (working terms n hs mine, (q, Some k) ∷ cs)
      → Allows (Ruled sets numbers calls) slots id m 8 (λ c. (c + 1) % 2 ^ 64) (Entered m)
  enters_as numbers calls slots id q terms n hs mine k cs m few decides same = subst (λ (y : Me (Option Quarter) ShardView). Allows (Ruled sets numbers calls) slots id y 8 (λ c. (c + 1) % 2 ^ 64) (Entered y)) (sym same) (enters numbers calls slots id q terms n hs mine k cs few decides)
