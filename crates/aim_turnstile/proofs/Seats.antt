-- Seats that are made, cut, joined and refreshed keep the rule.
use Rattle.std.proofs.Common.{◌≡◌, ℕ, ◌+◌, ◌%◌, ◌^◌, ◌<◌, false, List, [], ◌∷◌, ◌++◌, length, set, get_or, drop, refl, sym, ap, ◌∙◌, subst, ⊎_elim, inl, inr, arith, Some, None, Option}
use mathlib.Core.Option.{some, none}
use mathlib.Core.Option as maybe
use mathlib.Core.Logic.{dite}
use native.Mathlib.Decide.{ℕ_discrete}
use lib.ListN.{get_elem?}
use Rattle.atomic_table.specs.Table.{Me, Allows, Splits, Joins, Enters}
use Rattle.atomic_table.specs.Table.Act.{keeps}
use Rattle.atomic_table.specs.Seated.{TableId}
use Rattle.atomic_table.proofs.Lists.{at_snoc, at_longer, set_else}
use Rattle.std.specs.Prelude.{slice_index}
use Rattle.aim_turnstile.specs.declared.view.View.{View}
use Rattle.aim_turnstile.specs.History.{entries_of, Begins}
use Rattle.aim_turnstile.specs.Models.{MeetsFront}
use Rattle.aim_turnstile.specs.Turned.{Every, total, tail_of, longer, own, blank, claims, waits, waiting, named, seated, spent, front_of, rest_of, next_of, gathered, fresh, Fits, Meaning, Home, Turned, Refreshed, Sits, Shows, dealing_view}
use Rattle.aim_turnstile.proofs.Totals.{total_set, total-append, set_at, Every-append, Every_front, Every_back}
use Rattle.aim_turnstile.proofs.Histories.{begins_self, longer_holds, longer_left, longer_right, entries_of_longer}
use Rattle.aim_turnstile.proofs.Deals.{front_number}
use Rattle.aim_turnstile.proofs.Steps.{Opened, Found, Apart, Drawn, none_some, inside, off_on, same_view, opened_of, found_set, drawn_set, apart_set, each_set, home_set}

pub off_of : {K S E : Type 0} {caller_of : E → ℕ} {n : ℕ} {m : Me (Option K) (View S E)} → Sits caller_of n m → m.0.turn ≡ false
off_of {K} {S} {E} sits = ap (λ (y : Me (Option K) (View S E)). y.0.turn) sits.is

blank-append : {E : Type 0} (ms ns : List ℕ) → blank {E = E} (ms ++ ns) ≡ blank ms ++ blank ns
blank-append [] ns = refl
blank-append (m ∷ ms) ns = ap (λ l. (m, []) ∷ l) (blank-append ms ns)

module _ {S E : Type 0} where
  found_snoc : (P : View S E → Type 0) (views : List (View S E)) (r : View S E) → Found P views → Found P (views ++ r ∷ [])
  found_snoc P views r f = (f.0, f.1, at_longer views (r ∷ []) f.0 f.1 f.2, f.3)

  drawn_snoc : (first last last' : ℕ) (views : List (View S E)) (r : View S E) → last ≡ last' → Drawn first last views → Drawn first last' (views ++ r ∷ [])
  drawn_snoc first last last' views r to h t a b = found_snoc (λ (y : View S E). y.ticket ≡ Some t) views r (h t a (subst (λ k. t < k) (sym to) b))

  apart_snoc : (views : List (View S E)) (r : View S E) → r.ticket ≡ None → Apart views → Apart (views ++ r ∷ [])
  apart_snoc views r idle h i j u u' t e e' f f' =
      ⊎_elim
      (λ a. ⊎_elim (λ b. h i j u u' t a b f f') (λ b. absurd (none_some (sym idle ∙ ap (λ (y : View S E). y.ticket) b ∙ f'))) (at_snoc views r u' j e'))
      (λ a. absurd (none_some (sym idle ∙ ap (λ (y : View S E). y.ticket) a ∙ f)))
      (at_snoc views r u i e)

  each_snoc : (caller_of : E → ℕ) (s : S) (numbers : List ℕ) (log : List E) (a b : ℕ) (views : List (View S E)) (r : View S E) → ((j : ℕ) (u : View S E) → get_elem? views j ≡ some u → Fits caller_of s numbers log a b u) → Fits caller_of s numbers log a b r
      → (j : ℕ) (u : View S E) → get_elem? (views ++ r ∷ []) j ≡ some u → Fits caller_of s numbers log a b u
  each_snoc caller_of s numbers log a b views r each new j u e = ⊎_elim (λ t. each j u t) (λ t. subst (Fits caller_of s numbers log a b) t new) (at_snoc views r u j e)

  -- a seat at rest, of any number or none
  rested_fits : (caller_of : E → ℕ) (s : S) (numbers : List ℕ) (log : List E) (a b : ℕ) (r : Option S) (ns : List ℕ) (n : Option ℕ) (seen mine : List E) → Opened s numbers (seated r ns n seen mine) → Begins seen log
      → Every (λ c. entries_of caller_of c.0 log ≡ c.1) (own n mine ++ []) → ((m : ℕ) → n ≡ Some m → entries_of caller_of m seen ≡ mine) → Fits caller_of s numbers log a b (seated r ns n seen mine)
  rested_fits caller_of s numbers log a b r ns n seen mine o p q h =
      record { opened = o; seen = p; olds = tt; claimed = q; own_seen = h; ticket = λ t e. absurd (none_some e); turn = λ on. absurd (off_on refl on) }

  -- a front of a view has what that one has, and one of a spent view is spent
  front_opened : (s : S) (numbers : List ℕ) (v : View S E) → Opened s numbers v → Opened s numbers (front_of v)
  front_opened s numbers v (inl p) = inl p
  front_opened s numbers v (inr e) = inr (ap front_of e)

module _ {K S E : Type 0} (M : Meaning K S E) where
  home_snoc : (s : S) (homes : List (maybe.Option (Option K))) (views : List (View S E)) (log : List E) (r : View S E) → r.turn ≡ false → Home M s homes views log → Home M s homes (views ++ r ∷ []) log
  home_snoc s homes views log r off (inl h) = inl (h.0, h.1, h.2, h.3, λ j u e. ⊎_elim (λ t. h.4 j u t) (λ t. sym (ap (λ (y : View S E). y.turn) t) ∙ off) (at_snoc views r u j e))
  home_snoc s homes views log r off (inr h) = inr (h.0, (h.1.0, h.1.1, at_longer views (r ∷ []) h.1.0 h.1.1 h.1.2, h.1.3))

  -- a view is cut in two
  cuts : (s : S) (numbers : List ℕ) (id : ℕ) (v left right : View S E) → left.ticket ≡ v.ticket → left.seen ≡ v.seen → v.turn ≡ false → left.turn ≡ false → right.ticket ≡ None → right.turn ≡ false
      → ((f : ℕ → ℕ) → named f left + named f right ≡ named f v)
      → ((log : List E) (a b : ℕ) → Fits M.caller_of s numbers log a b v → Fits M.caller_of s numbers log a b left) → ((log : List E) (a b : ℕ) → Fits M.caller_of s numbers log a b v → Fits M.caller_of s numbers log a b right)
      → Splits (Turned M s numbers) id v left right
  cuts s numbers id v left right same sight off off' idle off'' claim fl fr x h at =
      let views = set x.views id left ++ right ∷ [] in
      let crowd : waiting x.views ≡ waiting views = omega (arith, total_set (λ (u : View S E). waits u.ticket) x.views id v left at, ap waits same, ap waits idle, total-append (λ (u : View S E). waits u.ticket) (set x.views id left) (right ∷ [])) in
      let last : h.serving + waiting x.views ≡ h.serving + waiting views = omega (arith, crowd) in
      let old = h.each id v at in
      let b = h.serving + waiting x.views in
      record {
        log = h.log;
        serving = h.serving;
        words = h.words ∙ (λ i. (last i % 2 ^ 64) ∷ (h.serving % 2 ^ 64) ∷ (length h.log % 2 ^ 64) ∷ []);
        longest = found_snoc (λ (y : View S E). y.seen ≡ h.log) (set x.views id left) right (found_set (λ (y : View S E). y.seen ≡ h.log) x.views id v left at (λ e. sight ∙ e) h.longest);
        lawful = h.lawful;
        few = h.few;
        distinct = h.distinct;
        places = λ f. omega (arith, total_set (named f) x.views id v left at, claim f, total-append (named f) (set x.views id left) (right ∷ []), h.places f);
        strangers = h.strangers;
        each = subst (λ c. (j : ℕ) (u : View S E) → get_elem? views j ≡ some u → Fits M.caller_of s numbers h.log h.serving c u) last
            (each_snoc M.caller_of s numbers h.log h.serving b (set x.views id left) right
            (each_set M.caller_of s numbers h.log h.log h.serving b h.serving b x.views id left h.each (λ j u apart at' f. f) (fl h.log h.serving b old))
            (fr h.log h.serving b old));
        apart = apart_snoc (set x.views id left) right idle (apart_set x.views id v left at (λ t e. sym same ∙ e) h.apart);
        drawn = drawn_snoc h.serving b (h.serving + waiting views) (set x.views id left) right last (drawn_set h.serving b b x.views id v left at same refl h.drawn);
        slot = home_snoc s x.homes (set x.views id left) h.log right off'' (home_set M s x.homes x.views h.log id v left at off off' h.slot);
      }

  -- a front is noted
  pub notes : (s : S) (numbers : List ℕ) (id : ℕ) (v : View S E) → v.turn ≡ false → Splits (Turned M s numbers) id v v (front_of v)
  notes s numbers id v off =
      cuts s numbers id v v (front_of v) refl refl off off refl refl (λ f. omega arith) (λ log a b f. f)
      (λ log a b f. rested_fits M.caller_of s numbers log a b v.setting v.numbers None v.seen [] (front_opened s numbers v f.opened) f.seen tt (λ m e. absurd (none_some e)))

  -- a number is dealt
  pub deals : (s : S) (numbers : List ℕ) (id : ℕ) (v : View S E) (r : S) (n : ℕ) (ns : List ℕ) → v.setting ≡ Some r → v.ticket ≡ None → v.turn ≡ false → v.number ≡ None → v.seen ≡ [] → v.to_give ≡ n ∷ ns
      → Splits (Turned M s numbers) id v (rest_of v) (next_of v.setting v.numbers v.seen v.to_give)
  deals s numbers id v r n ns set' idle off unnamed unseen still =
      subst (λ (y : List ℕ). Splits (Turned M s numbers) id v (rest_of v) (next_of v.setting v.numbers v.seen y)) (sym still)
      (cuts s numbers id v (rest_of v) (seated v.setting v.numbers (Some n) v.seen []) refl refl off off refl refl
      (λ f. split f)
      (λ log a b f. record { opened = inl (opened_of s numbers v r set' f.opened); seen = f.seen; olds = f.olds; claimed = subst (λ (y : List (ℕ × List E)). Every (λ c. entries_of M.caller_of c.0 log ≡ c.1) y) (sym others) (all log a b f).1; own_seen = f.own_seen; ticket = f.ticket; turn = f.turn })
      (λ log a b f. rested_fits M.caller_of s numbers log a b v.setting v.numbers (Some n) v.seen [] (inl (opened_of s numbers v r set' f.opened)) f.seen ((all log a b f).0, tt) (λ m e. ap (entries_of M.caller_of m) unseen)))
    where
      whole : claims v ≡ (n, []) ∷ (blank ns ++ v.ended)
      whole = (λ i. own (unnamed i) v.mine ++ (blank (still i) ++ v.ended))

      others : claims (rest_of v) ≡ blank ns ++ v.ended
      others = (λ i. own (unnamed i) v.mine ++ (blank (tail_of (still i)) ++ v.ended))

      split : (f : ℕ → ℕ) → named f (rest_of v) + named f (seated {S = S} {E = E} v.setting v.numbers (Some n) v.seen []) ≡ named f v
      split f = omega (arith, ap (total (λ (c : ℕ × List E). f c.0)) whole, ap (total (λ (c : ℕ × List E). f c.0)) others)

      all : (log : List E) (a b : ℕ) → Fits M.caller_of s numbers log a b v → Every (λ c. entries_of M.caller_of c.0 log ≡ c.1) ((n, []) ∷ (blank ns ++ v.ended))
      all log a b f = subst (Every (λ c. entries_of M.caller_of c.0 log ≡ c.1)) whole f.claimed

  -- a view takes another in
  pub gathers : (s : S) (numbers : List ℕ) (id : ℕ) (v : View S E) (r : S) (other : ℕ) (w : View S E) → v.setting ≡ Some r → v.turn ≡ false → w.ticket ≡ None → w.turn ≡ false
      → Joins (Turned M s numbers) id v other w (gathered v w) spent
  gathers s numbers id v r other w set' off idle off' x h at away there =
      let both = gathered v w in
      let mid = set x.views id both in
      let views = set mid other spent in
      let theirs : get_elem? x.views other ≡ some w = sym (set_else x.views id other both away) ∙ there in
      let crowd : waiting x.views ≡ waiting views = omega (arith, total_set (λ (u : View S E). waits u.ticket) x.views id v both at, total_set (λ (u : View S E). waits u.ticket) mid other w spent there, ap waits idle) in
      let last : h.serving + waiting x.views ≡ h.serving + waiting views = omega (arith, crowd) in
      let a = h.serving in
      let b = h.serving + waiting x.views in
      let fv = h.each id v at in
      let fw = h.each other w theirs in
      record {
        log = h.log;
        serving = h.serving;
        words = h.words ∙ (λ i. (last i % 2 ^ 64) ∷ (h.serving % 2 ^ 64) ∷ (length h.log % 2 ^ 64) ∷ []);
        longest = longest_joined h.log x.views at away theirs fv.seen fw.seen h.longest;
        lawful = h.lawful;
        few = h.few;
        distinct = h.distinct;
        places = λ f. omega (arith, total_set (named f) x.views id v both at, total_set (named f) mid other w spent there, h.places f, moved f);
        strangers = h.strangers;
        each = subst (λ c. (j : ℕ) (u : View S E) → get_elem? views j ≡ some u → Fits M.caller_of s numbers h.log a c u) last
            (each_set M.caller_of s numbers h.log h.log a b a b mid other spent
            (each_set M.caller_of s numbers h.log h.log a b a b x.views id both h.each (λ j u apart at' f. f)
            record {
              opened = inl (opened_of s numbers v r set' fv.opened);
              seen = longer_holds (λ xs. Begins xs h.log) v.seen w.seen fv.seen fw.seen;
              olds = (fv.seen, (fw.seen, Every-append (λ xs. Begins xs h.log) w.olds v.olds fw.olds fv.olds));
              claimed = all_claimed h.log fv.claimed fw.claimed;
              own_seen = λ n e. let claimed : entries_of M.caller_of n h.log ≡ v.mine = named_mine h.log fv.claimed n e in entries_of_longer M.caller_of n v.seen w.seen h.log fv.seen fw.seen (fv.own_seen n e ∙ sym claimed) ∙ claimed;
              ticket = fv.ticket;
              turn = λ on. absurd (off_on off on);
            })
            (λ j u apart at' f. f)
            (rested_fits M.caller_of s numbers h.log a b None [] None [] [] (inr refl) (h.log, refl) tt (λ m e. absurd (none_some e))));
        apart = apart_set mid other w spent there (λ t e. absurd (none_some e)) (apart_set x.views id v both at (λ t e. e) h.apart);
        drawn = λ t p q. found_set (λ (y : View S E). y.ticket ≡ Some t) mid other w spent there (λ e. absurd (none_some (sym idle ∙ e))) (drawn_set a b b x.views id v both at refl refl h.drawn t p (subst (λ c. t < c) (sym last) q));
        slot = home_set M s x.homes mid h.log other w spent there off' refl (home_set M s x.homes x.views h.log id v both at off off h.slot);
      }
    where
      moved : (f : ℕ → ℕ) → named f (gathered v w) ≡ named f v + named f w
      moved f = let g : ℕ × List E → ℕ = λ c. f c.0 in
          omega (
            arith,
            total-append g (own v.number v.mine) (blank (w.to_give ++ v.to_give) ++ (own w.number w.mine ++ (w.ended ++ v.ended))),
            total-append g (blank (w.to_give ++ v.to_give)) (own w.number w.mine ++ (w.ended ++ v.ended)),
            ap (total g) (blank-append {E = E} w.to_give v.to_give),
            total-append g (blank w.to_give) (blank v.to_give),
            total-append g (own w.number w.mine) (w.ended ++ v.ended),
            total-append g w.ended v.ended,
            total-append g (own v.number v.mine) (blank v.to_give ++ v.ended),
            total-append g (blank v.to_give) v.ended,
            total-append g (own w.number w.mine) (blank w.to_give ++ w.ended),
            total-append g (blank w.to_give) w.ended,
          )

      all_claimed : (log : List E) → Every (λ c. entries_of M.caller_of c.0 log ≡ c.1) (claims v) → Every (λ c. entries_of M.caller_of c.0 log ≡ c.1) (claims w) → Every (λ c. entries_of M.caller_of c.0 log ≡ c.1) (claims (gathered v w))
      all_claimed log p q =
          let P : ℕ × List E → Type 0 = λ c. entries_of M.caller_of c.0 log ≡ c.1 in
          let pv = Every_back P (own v.number v.mine) (blank v.to_give ++ v.ended) p in
          let pw = Every_back P (own w.number w.mine) (blank w.to_give ++ w.ended) q in
          Every-append P (own v.number v.mine) (blank (w.to_give ++ v.to_give) ++ (own w.number w.mine ++ (w.ended ++ v.ended)))
          (Every_front P (own v.number v.mine) (blank v.to_give ++ v.ended) p)
          (Every-append P (blank (w.to_give ++ v.to_give)) (own w.number w.mine ++ (w.ended ++ v.ended))
          (subst (Every P) (sym (blank-append {E = E} w.to_give v.to_give)) (Every-append P (blank w.to_give) (blank v.to_give) (Every_front P (blank w.to_give) w.ended pw) (Every_front P (blank v.to_give) v.ended pv)))
          (Every-append P (own w.number w.mine) (w.ended ++ v.ended)
          (Every_front P (own w.number w.mine) (blank w.to_give ++ w.ended) q)
          (Every-append P w.ended v.ended (Every_back P (blank w.to_give) w.ended pw) (Every_back P (blank v.to_give) v.ended pv))))

      named_mine : (log : List E) → Every (λ c. entries_of M.caller_of c.0 log ≡ c.1) (claims v) → (n : ℕ) → v.number ≡ Some n → entries_of M.caller_of n log ≡ v.mine
      named_mine log p n e = (subst (λ (o : Option ℕ). Every (λ c. entries_of M.caller_of c.0 log ≡ c.1) (own o v.mine ++ (blank v.to_give ++ v.ended))) e p).0

      longest_joined : (log : List E) (views : List (View S E)) → get_elem? views id ≡ some v → (other ≡ id → ⊥) → get_elem? views other ≡ some w → Begins v.seen log → Begins w.seen log → Found (λ (y : View S E). y.seen ≡ log) views
          → Found (λ (y : View S E). y.seen ≡ log) (set (set views id (gathered v w)) other spent)
      longest_joined log views here apart there fv fw f =
          let one : get_elem? (set (set views id (gathered v w)) other spent) id ≡ some (gathered v w) = set_else (set views id (gathered v w)) other id spent (λ e. apart (sym e)) ∙ set_at views id v (gathered v w) here in
          let same : (i : ℕ) (u : View S E) → get_elem? views i ≡ some u → f.0 ≡ i → u.seen ≡ log = λ i u at e. ap (λ (y : View S E). y.seen) (same_view views i u f.1 at (subst (λ j. get_elem? views j ≡ some f.1) e f.2)) ∙ f.3 in
          dite (ℕ_discrete f.0 other)
          (λ e. (id, gathered v w, one, ap (longer v.seen) (same other w there e) ∙ longer_right v.seen log fv))
          (λ ne. dite (ℕ_discrete f.0 id)
          (λ e. (id, gathered v w, one, ap (λ l. longer l w.seen) (same id v here e) ∙ longer_left log w.seen fw))
          (λ ne'. (f.0, f.1, set_else (set views id (gathered v w)) other f.0 spent ne ∙ set_else views id f.0 (gathered v w) ne' ∙ f.2, f.3)))

  -- a view sees the whole history
  pub refreshes : (s : S) (numbers : List ℕ) (slots id : ℕ) (v : View S E) → v.turn ≡ false → v.setting ≡ Some s → Allows (Turned M s numbers) slots id (v, []) 1 (λ k. k) (λ _. Refreshed M (v, []))
  refreshes s numbers slots id v off set' x h deep at small =
      let w = fresh v h.log in
      let old = h.each id v at in
      let crowd : waiting x.views ≡ waiting (set x.views id w) = omega (arith, total_set (λ (u : View S E). waits u.ticket) x.views id v w at) in
      let b = h.serving + waiting x.views in
      let last : b ≡ h.serving + waiting (set x.views id w) = omega (arith, crowd) in (
        w,
        keeps,
        tt,
        record {
          log = h.log;
          serving = h.serving;
          words = subst (λ ws. set ws 1 (slice_index ws 1) ≡ ((h.serving + waiting (set x.views id w)) % 2 ^ 64) ∷ (h.serving % 2 ^ 64) ∷ (length h.log % 2 ^ 64) ∷ []) (sym h.words) (λ i. (last i % 2 ^ 64) ∷ (h.serving % 2 ^ 64) ∷ (length h.log % 2 ^ 64) ∷ []);
          longest = (id, w, set_at x.views id v w at, refl);
          lawful = h.lawful;
          few = h.few;
          distinct = h.distinct;
          places = λ f. omega (arith, total_set (named f) x.views id v w at, h.places f);
          strangers = h.strangers;
          each = subst (λ c. (j : ℕ) (u : View S E) → get_elem? (set x.views id w) j ≡ some u → Fits M.caller_of s numbers h.log h.serving c u) last
              (each_set M.caller_of s numbers h.log h.log h.serving b h.serving b x.views id w h.each (λ j u apart at' f. f)
              record { opened = inl (opened_of s numbers v s set' old.opened); seen = begins_self h.log; olds = tt; claimed = old.claimed; own_seen = all_mine h.log old.claimed; ticket = old.ticket; turn = λ on. absurd (off_on off on) });
          apart = apart_set x.views id v w at (λ t e. e) h.apart;
          drawn = drawn_set h.serving b (h.serving + waiting (set x.views id w)) x.views id v w at refl last h.drawn;
          slot = home_set M s x.homes x.views h.log id v w at off off h.slot;
        },
        record {
          log = h.log;
          after = refl;
          seen = old.seen;
          olds = old.olds;
          mine = all_mine h.log old.claimed;
          lawful = λ s' e. subst (λ (y : S). M.is_lawful y h.log) (inside s s' (sym set' ∙ e)) h.lawful;
        },
      )
    where
      all_mine : (log : List E) → Every (λ c. entries_of M.caller_of c.0 log ≡ c.1) (claims v) → (n : ℕ) → v.number ≡ Some n → entries_of M.caller_of n log ≡ v.mine
      all_mine log p n e = (subst (λ (o : Option ℕ). Every (λ c. entries_of M.caller_of c.0 log ≡ c.1) (own o v.mine ++ (blank v.to_give ++ v.ended))) e p).0

  -- a new seat, which knows nothing
  pub comes_new : (s : S) (numbers : List ℕ) (slots : ℕ) → Enters (Turned M s numbers) slots 1 (λ _ w. w ≡ seated (Some s) numbers None [] [])
  comes_new s numbers slots x h deep small =
      let r = seated (Some s) numbers None [] [] in
      let crowd : waiting x.views ≡ waiting (x.views ++ r ∷ []) = omega (arith, total-append (λ (u : View S E). waits u.ticket) x.views (r ∷ [])) in
      let b = h.serving + waiting x.views in
      let last : b ≡ h.serving + waiting (x.views ++ r ∷ []) = omega (arith, crowd) in (
        r,
        record {
          log = h.log;
          serving = h.serving;
          words = h.words ∙ (λ i. (last i % 2 ^ 64) ∷ (h.serving % 2 ^ 64) ∷ (length h.log % 2 ^ 64) ∷ []);
          longest = found_snoc (λ (y : View S E). y.seen ≡ h.log) x.views r h.longest;
          lawful = h.lawful;
          few = h.few;
          distinct = h.distinct;
          places = λ f. omega (arith, total-append (named f) x.views (r ∷ []), h.places f);
          strangers = h.strangers;
          each = subst (λ c. (j : ℕ) (u : View S E) → get_elem? (x.views ++ r ∷ []) j ≡ some u → Fits M.caller_of s numbers h.log h.serving c u) last
              (each_snoc M.caller_of s numbers h.log h.serving b x.views r h.each (rested_fits M.caller_of s numbers h.log h.serving b (Some s) numbers None [] [] (inl (refl, refl)) (h.log, refl) tt (λ m e. absurd (none_some e))));
          apart = apart_snoc x.views r refl h.apart;
          drawn = drawn_snoc h.serving b (h.serving + waiting (x.views ++ r ∷ [])) x.views r last h.drawn;
          slot = home_snoc s x.homes x.views h.log r refl h.slot;
        },
        refl,
      )

  pub meets_at : (s : S) (numbers : List ℕ) (slots id : ℕ) {n : ℕ} {m1 : Me (Option K) (View S E)} (m w : Me (Option K) (View S E)) → Sits M.caller_of n m → m.0.setting ≡ Some s → m1 ≡ (gathered m.0 w.0, m.1) → Allows (Turned M s numbers) slots id m1 1 (λ k. k) (λ _. Refreshed M m1)
  meets_at s numbers slots id {m1 = m1} m w sits set' is =
      subst (λ (y : Me (Option K) (View S E)). Allows (Turned M s numbers) slots id y 1 (λ k. k) (λ _. Refreshed M y)) (sym (is ∙ ap (λ (l : List (ℕ × Option K)). (gathered m.0 w.0, l)) (ap (λ (y : Me (Option K) (View S E)). y.1) sits.is)))
      (refreshes s numbers slots id (gathered m.0 w.0) (off_of sits) set')

  -- a pass's seat after it met a front
  met : {n : ℕ} {m w m1 m2 : Me (Option K) (View S E)} → Sits M.caller_of n m → Shows w → m1 ≡ (gathered m.0 w.0, m.1) → (r : Refreshed M m1 m2) → m2 ≡ (seated m.0.setting m.0.numbers (Some n) r.log m.0.mine, [])
  met {n = n} {m = m} {w = w} sits shows is r =
      r.after ∙ ap (λ (y : Me (Option K) (View S E)). (fresh y.0 r.log, y.1)) is
      ∙ (λ i. (fresh (gathered (sits.is i).0 (shows.is i).0) r.log, (sits.is i).1))

  log_of : {n : ℕ} {m m1 m2 : Me (Option K) (View S E)} → (w : Me (Option K) (View S E)) → Sits M.caller_of n m → m1 ≡ (gathered m.0 w.0, m.1) → (r : Refreshed M m1 m2) → entries_of M.caller_of n r.log ≡ m.0.mine
  log_of {n = n} w sits is r = r.mine n (ap (λ (y : Me (Option K) (View S E)). y.0.number) is ∙ ap (λ (y : Me (Option K) (View S E)). y.0.number) sits.is) ∙ ap (λ (y : Me (Option K) (View S E)). y.0.mine) is

  pub sits_met : {n : ℕ} {m w m1 m2 : Me (Option K) (View S E)} → Sits M.caller_of n m → Shows w → m1 ≡ (gathered m.0 w.0, m.1) → Refreshed M m1 m2 → Sits M.caller_of n m2
  sits_met {n = n} {m = m} {w = w} {m2 = m2} sits shows is r =
      let e = met sits shows is r in
      let mine : m2.0.mine ≡ m.0.mine = ap (λ (y : Me (Option K) (View S E)). y.0.mine) e in
      let seen : m2.0.seen ≡ r.log = ap (λ (y : Me (Option K) (View S E)). y.0.seen) e in
      record {
        is = e ∙ (λ i. (seated (sym (ap (λ (y : Me (Option K) (View S E)). y.0.setting) e) i) (sym (ap (λ (y : Me (Option K) (View S E)). y.0.numbers) e) i) (Some n) (sym seen i) (sym mine i), []));
        mine = ap (entries_of M.caller_of n) seen ∙ log_of w sits is r ∙ sym mine;
      }

  -- what meeting a front tells
  pub met_all : {s : S} {n : ℕ} {m w m1 m2 : Me (Option K) (View S E)} → (z z' z'' : TableId) → Sits M.caller_of n m → Shows w → m.0.setting ≡ Some s → m1 ≡ (gathered m.0 w.0, m.1) → Refreshed M m1 m2
      → MeetsFront M.caller_of M.is_lawful s record { table = z; setting = m.0.setting; number = n; seen = m.0.seen; mine = m.0.mine } record { table = z'; setting = w.0.setting; seen = w.0.seen } record { table = z''; setting = m2.0.setting; number = n; seen = m2.0.seen; mine = m2.0.mine }
  met_all {s = s} {n = n} {m = m} {w = w} {m2 = m2} z z' z'' sits shows set' is r =
      let e = met sits shows is r in
      let mine : m2.0.mine ≡ m.0.mine = ap (λ (y : Me (Option K) (View S E)). y.0.mine) e in
      let seen : m2.0.seen ≡ r.log = ap (λ (y : Me (Option K) (View S E)). y.0.seen) e in
      let olds = subst (λ (y : Me (Option K) (View S E)). Every (λ xs. Begins xs r.log) y.0.olds) is r.olds in
      record {
        begins = subst (λ l. Begins m.0.seen l) (sym seen) olds.0;
        shows = subst (λ l. Begins w.0.seen l) (sym seen) olds.1.0;
        lawful = subst (M.is_lawful s) (sym seen) (r.lawful s (ap (λ (y : Me (Option K) (View S E)). y.0.setting) is ∙ set'));
        same = mine;
        mine = ap (entries_of M.caller_of n) seen ∙ log_of w sits is r ∙ sym mine;
      }

  pub deals_as : (s : S) (numbers : List ℕ) (id : ℕ) (ns : List ℕ) (i : ℕ) (m : Me (Option K) (View S E)) → i < length ns → m ≡ (dealing_view s ns (drop i ns), []) → Splits (Turned M s numbers) id m.0 (rest_of m.0) (next_of m.0.setting m.0.numbers m.0.seen m.0.to_give)
  deals_as s numbers id ns i m b is =
      let e = front_number s ns i m b is in
      deals s numbers id m.0 s (get_or ns i 0) (drop (i + 1) ns) (ap (λ (y : Me (Option K) (View S E)). y.0.setting) e) (ap (λ (y : Me (Option K) (View S E)). y.0.ticket) e) (ap (λ (y : Me (Option K) (View S E)). y.0.turn) e) (ap (λ (y : Me (Option K) (View S E)). y.0.number) e) (ap (λ (y : Me (Option K) (View S E)). y.0.seen) e)
      (ap (λ (y : Me (Option K) (View S E)). y.0.to_give) e)
