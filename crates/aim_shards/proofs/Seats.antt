-- Seats that are cut and joined keep the rule, and the opening has it.
use Rattle.std.proofs.Common.{◌≡◌, ◌≢◌, ℕ, zero, suc, ◌+◌, ◌*◌, ◌%◌, ◌^◌, suc-mul, mul-le-mul_right, ◌<◌, ◌≤◌, List, [], ◌∷◌, ◌++◌, length, set, map, get_or, drop, drop-cons, refl, sym, ap, ◌∙◌, subst, ⊎_elim, inl, arith, Some, Option}
use Rattle.std.specs.Prelude.{AllPairs, slice_index, vec_capacity}
use mathlib.Core.Option.{some, some-ne-none, some-injective}
use mathlib.Core.Logic.{dite}
use native.Mathlib.Decide.{ℕ_discrete}
use lib.ListN.{get_elem?}
use Rattle.atomic_table.specs.Table.{Me, Splits, Joins, Enters, opening}
use Rattle.atomic_table.proofs.Lists.{at_snoc, set_else}
use Rattle.aim_shards.specs.declared.claims.ClaimEntry.{ClaimEntry}
use Rattle.aim_shards.specs.declared.quarter.Quarter.{Quarter}
use Rattle.aim_shards.specs.declared.view.ShardView.{ShardView}
use Rattle.aim_shards.specs.Claims.{entries_of}
use Rattle.aim_shards.specs.Closing.{Gathers}
use Rattle.std.specs.FinSet as set
use Rattle.std.specs.FinSet.{contains-empty}
use Rattle.aim_tiles.specs.Cells.{TakenCells, cell_cmp, has_cell}
use Rattle.aim_shards.specs.declared.view.Terms.{Terms}
use Rattle.aim_shards.specs.Sums.{Every, total, is}
use Rattle.aim_shards.specs.Sets.{Quarters}
use Rattle.aim_shards.specs.Cuts.{AreWithin}
use Rattle.aim_shards.specs.Ruled.{no_terms, terms_of, Takes, blank, named, made, waits, has, room_of, working, keeping, opening_view, spent, rest_of, next_of, gathered, Suits, Fits, Home, Ruled}
use Rattle.aim_shards.proofs.Totals.{total_set, total-append, is_self, is_none}
use Rattle.aim_shards.proofs.Steps.{each_set, home_same}

each_snoc : (calls : ℕ) (terms : Terms) (log : List ClaimEntry) (views : List ShardView) (r : ShardView) → ((j : ℕ) (u : ShardView) → get_elem? views j ≡ some u → Fits calls terms log u) → Fits calls terms log r
    → (j : ℕ) (u : ShardView) → get_elem? (views ++ r ∷ []) j ≡ some u → Fits calls terms log u
each_snoc calls terms log views r each new j u e = ⊎_elim (λ t. each j u t) (λ t. subst (Fits calls terms log) t new) (at_snoc views r u j e)

-- a new quadrant
pub new_suits : (n horizon room q : ℕ) (sets : List Quarters) (k : Quarter) → q < 4 → AreWithin n horizon sets → k.entries.items ≡ [] → room ≤ vec_capacity k.entries → k.table ≡ record { size = n; horizon = horizon; current = 0; cells = set.empty } → Suits (record { room = room; sets = sets }) q [] k
new_suits n horizon room q sets k lt w items wide table = record {
  entries = items;
  wide = wide;
  cells = λ cell. ap (λ (t : TakenCells). has_cell t cell) table ∙ contains-empty cell_cmp cell;
  takes = subst (Takes sets q) (sym table) record { tiles = λ j. w.tiles j q lt; ahead = λ j. w.ahead j q lt };
}

module _ (sets : List Quarters) where
  -- a number is dealt
  pub deals : (numbers : List ℕ) (calls id : ℕ) (terms : Terms) (n : ℕ) (cs : List (ℕ × List ClaimEntry)) → Splits (Ruled sets numbers calls) id (keeping terms ((n, []) ∷ cs)) (rest_of (keeping terms ((n, []) ∷ cs))) (next_of (keeping terms ((n, []) ∷ cs)))
  deals numbers calls id terms n cs x h at' =
      let v = keeping terms ((n, []) ∷ cs) in
      let left = keeping terms cs in
      let right = working terms n [] [] in
      let views = set x.views id left ++ right ∷ [] in
      let old = h.each id v at' in
      let mine : terms ≡ terms_of sets numbers calls = old.terms_is (omega arith) in
      let sums : (f : ShardView → ℕ) → total f views + f v ≡ total f x.views + (f left + f right) = λ f. omega (arith, total_set f x.views id v left at', total-append f (set x.views id left) (right ∷ [])) in
      record {
        log = h.log;
        serving = h.serving;
        next = h.next;
        wide = h.wide;
        drawn = h.drawn;
        served = h.served;
        counted = h.counted;
        lawful = h.lawful;
        few = h.few;
        small = h.small;
        distinct = h.distinct;
        places = λ f. omega (arith, sums (named f), h.places f);
        strangers = h.strangers;
        count = omega (arith, sums made, h.count);
        line = λ p b f. omega (arith, sums (waits p f), sums (has p f), h.line p b f);
        slot = λ p b. home_same sets (terms_of sets numbers calls) p x.homes h.log (h.serving p) x.views views (λ f. omega (arith, sums (has p f))) (h.slot p b);
        each = each_snoc calls (terms_of sets numbers calls) h.log (set x.views id left) right
            (each_set sets calls (terms_of sets numbers calls) h.log h.log x.views id left h.each (λ j u apart e f. f) record { seen = tt; claimed = old.claimed.1; few = omega arith; calls_left = old.calls_left.1; terms_is = λ _. mine })
            record { seen = tt; claimed = (old.claimed.0, tt); few = omega arith; calls_left = (old.calls_left.0, tt); terms_is = λ _. mine };
      }

  -- a pass comes back
  pub gathers : (numbers : List ℕ) (calls id : ℕ) (r : Terms) (other : ℕ) (terms : Terms) (n : ℕ) (cs : List (ℕ × List ClaimEntry)) (mine : List ClaimEntry) → Joins (Ruled sets numbers calls) id (keeping r cs) other (working terms n [] mine) (gathered (keeping r cs) (working terms n [] mine)) spent
  gathers numbers calls id r other terms n cs mine x h at' away there =
      let v = keeping r cs in
      let w = working terms n [] mine in
      let both = keeping terms ((n, mine) ∷ cs) in
      let mid = set x.views id both in
      let views = set mid other spent in
      let theirs : get_elem? x.views other ≡ some w = sym (set_else x.views id other both away) ∙ there in
      let fv = h.each id v at' in
      let fw = h.each other w theirs in
      let sums : (f : ShardView → ℕ) → total f views + (f v + f w) ≡ total f x.views + (f both + f spent) = λ f. omega (arith, total_set f x.views id v both at', total_set f mid other w spent there) in
      record {
        log = h.log;
        serving = h.serving;
        next = h.next;
        wide = h.wide;
        drawn = h.drawn;
        served = h.served;
        counted = h.counted;
        lawful = h.lawful;
        few = h.few;
        small = h.small;
        distinct = h.distinct;
        places = λ f. omega (arith, sums (named f), h.places f);
        strangers = h.strangers;
        count = omega (arith, sums made, h.count);
        line = λ p b f. omega (arith, sums (waits p f), sums (has p f), h.line p b f);
        slot = λ p b. home_same sets (terms_of sets numbers calls) p x.homes h.log (h.serving p) x.views views (λ f. omega (arith, sums (has p f))) (h.slot p b);
        each = each_set sets calls (terms_of sets numbers calls) h.log h.log mid other spent
            (each_set sets calls (terms_of sets numbers calls) h.log h.log x.views id both h.each (λ j u apart e f. f)
            record { seen = tt; claimed = (fw.claimed.0, fv.claimed); few = omega arith; calls_left = (fw.calls_left.0, fv.calls_left); terms_is = λ _. fw.terms_is (omega arith) })
            (λ j u apart e f. f)
            record { seen = tt; claimed = tt; few = omega arith; calls_left = tt; terms_is = λ le. absurd (omega (arith, le)) };
      }

  -- a new seat, which keeps nothing
  pub comes_new : (numbers : List ℕ) (calls slots i : ℕ) → Enters (Ruled sets numbers calls) slots i (λ _ w. w ≡ keeping no_terms [])
  comes_new numbers calls slots i x h deep small' =
      let r = keeping no_terms [] in
      let views = x.views ++ r ∷ [] in
      let sums : (f : ShardView → ℕ) → total f views ≡ total f x.views + (f r + 0) = λ f. total-append f x.views (r ∷ []) in (
        r,
        record {
          log = h.log;
          serving = h.serving;
          next = h.next;
          wide = h.wide;
          drawn = h.drawn;
          served = h.served;
          counted = h.counted;
          lawful = h.lawful;
          few = h.few;
          small = h.small;
          distinct = h.distinct;
          places = λ f. omega (arith, sums (named f), h.places f);
          strangers = h.strangers;
          count = omega (arith, sums made, h.count);
          line = λ p b f. omega (arith, sums (waits p f), sums (has p f), h.line p b f);
          slot = λ p b. home_same sets (terms_of sets numbers calls) p x.homes h.log (h.serving p) x.views views (λ f. omega (arith, sums (has p f))) (h.slot p b);
          each = each_snoc calls (terms_of sets numbers calls) h.log x.views r h.each record { seen = tt; claimed = tt; few = omega arith; calls_left = tt; terms_is = λ le. absurd (omega (arith, le)) };
        },
        refl,
      )

  pub arrived : (m : Me (Option Quarter) ShardView) → m.1 ≡ [] → m.0 ≡ keeping no_terms [] → Gathers [] m
  arrived m a b = subst (Gathers []) {x = (keeping no_terms [], [])} (λ i. (sym b i, sym a i)) record { is = refl }

  absent : (n : ℕ) (xs : List ℕ) → ((j : ℕ) → j < length xs → get_or xs j 0 ≢ n) → total (is n) xs ≡ 0
  absent n [] h = refl
  absent n (x ∷ xs) h = let here = h 0 (omega arith) in omega (arith, is_none n x here, absent n xs (λ j b. h (suc j) (omega arith)))

  once : (xs : List ℕ) → AllPairs (λ m n. m ≢ n) xs → (n : ℕ) → total (is n) xs ≤ 1
  once [] h n = omega arith
  once (x ∷ xs) h n = dite (ℕ_discrete x n) (λ e. omega (arith, is_self n x e, absent n xs (λ j b s. h 0 (suc j) 0 (omega arith) (omega arith) (e ∙ sym s)))) (λ e. omega (arith, is_none n x e, once xs (λ i j d a b. h (suc i) (suc j) d (omega arith) (omega arith)) n))

  blank_total : (f : ℕ → ℕ) (ns : List ℕ) → total (λ (c : ℕ × List ClaimEntry). f c.0) (blank ns) ≡ total f ns
  blank_total f [] = refl
  blank_total f (n ∷ ns) = ap (λ k. f n + k) (blank_total f ns)

  blank_made : (ns : List ℕ) → total (λ (c : ℕ × List ClaimEntry). length c.1) (blank ns) ≡ 0
  blank_made [] = refl
  blank_made (n ∷ ns) = omega (arith, blank_made ns)

  blank_claimed : (ns : List ℕ) → Every (λ c. entries_of c.0 [] ≡ c.1) (blank ns)
  blank_claimed [] = tt
  blank_claimed (n ∷ ns) = (refl, blank_claimed ns)

  blank_calls : (calls : ℕ) (ns : List ℕ) → Every (λ c. length c.1 ≤ calls) (blank ns)
  blank_calls calls [] = tt
  blank_calls calls (n ∷ ns) = (omega arith, blank_calls calls ns)

  pub opens : (numbers : List ℕ) (calls : ℕ) (a b c d : Quarter) → total (λ _. 4) numbers < 2 ^ 60 → room_of numbers calls < 2 ^ 32 → AllPairs (λ m n. m ≢ n) numbers → Suits (terms_of sets numbers calls) 0 [] a → Suits (terms_of sets numbers calls) 1 [] b → Suits (terms_of sets numbers calls) 2 [] c → Suits (terms_of sets numbers calls) 3 [] d
      → Ruled sets numbers calls (opening (0 ∷ 0 ∷ 0 ∷ 0 ∷ 0 ∷ 0 ∷ 0 ∷ 0 ∷ 0 ∷ []) (Some a ∷ Some b ∷ Some c ∷ Some d ∷ []) (opening_view sets numbers calls))
  opens numbers calls a b c d few small distinct sa sb sc sd = record {
    log = [];
    serving = λ _. 0;
    next = λ _. 0;
    wide = refl;
    drawn = zeros;
    served = served;
    counted = refl;
    lawful = tt;
    few = few;
    small = small;
    distinct = once numbers distinct;
    places = λ f. omega (arith, blank_total f numbers);
    strangers = λ n e. refl;
    count = omega (arith, blank_made numbers);
    line = λ p lt f. refl;
    slot = homes;
    each = one;
  }
    where
      zeros : (q : ℕ) → q < 4 → slice_index (0 ∷ 0 ∷ 0 ∷ 0 ∷ 0 ∷ 0 ∷ 0 ∷ 0 ∷ 0 ∷ []) q ≡ 0 % 2 ^ 64
      zeros zero lt = refl
      zeros (suc zero) lt = refl
      zeros (suc (suc zero)) lt = refl
      zeros (suc (suc (suc zero))) lt = refl
      zeros (suc (suc (suc (suc q)))) lt = absurd (omega arith)

      served : (q : ℕ) → q < 4 → slice_index (0 ∷ 0 ∷ 0 ∷ 0 ∷ 0 ∷ 0 ∷ 0 ∷ 0 ∷ 0 ∷ []) (4 + q) ≡ 0 % 2 ^ 64
      served zero lt = refl
      served (suc zero) lt = refl
      served (suc (suc zero)) lt = refl
      served (suc (suc (suc zero))) lt = refl
      served (suc (suc (suc (suc q)))) lt = absurd (omega arith)

      homes : (q : ℕ) → q < 4 → Home (terms_of sets numbers calls) q (map some (Some a ∷ Some b ∷ Some c ∷ Some d ∷ [])) (opening_view sets numbers calls ∷ []) [] 0
      homes zero lt = inl (a, refl, sa, λ f. refl)
      homes (suc zero) lt = inl (b, refl, sb, λ f. refl)
      homes (suc (suc zero)) lt = inl (c, refl, sc, λ f. refl)
      homes (suc (suc (suc zero))) lt = inl (d, refl, sd, λ f. refl)
      homes (suc (suc (suc (suc q)))) lt = absurd (omega arith)

      one : (i : ℕ) (v : ShardView) → get_elem? (opening_view sets numbers calls ∷ []) i ≡ some v → Fits calls (terms_of sets numbers calls) [] v
      one zero v e = subst (Fits calls (terms_of sets numbers calls) []) (some-injective _ _ e) record { seen = tt; claimed = blank_claimed numbers; few = omega arith; calls_left = blank_calls calls numbers; terms_is = λ _. refl }
      one (suc i) v e = absurd (some-ne-none v (sym e))

  -- as many as there are numbers, each with so many calls
  pub room_is : (c : ℕ) (ns : List ℕ) → total (λ _. c) ns ≡ length ns * c
  room_is c [] = omega (arith, zero_mul c)
    where
      zero_mul : (c : ℕ) → 0 * c ≡ 0
      zero_mul c = omega arith
  room_is c (n ∷ ns) = ap (λ k. c + k) (room_is c ns) ∙ more (length ns)
    where
      more : (k : ℕ) → c + k * c ≡ suc k * c
      more k = omega (arith, suc-mul k c)

  pub small_product : (a b : ℕ) → a ≤ 64 → b ≤ 1024 → a * b ≤ 65536
  small_product a b le le' = let p : a * b ≤ 64 * b = mul-le-mul_right b le in omega (arith, p)

  pub opens_as : (sets' : List Quarters) (numbers numbers' : List ℕ) (calls room : ℕ) (slots : List (Option Quarter)) (a b c d : Quarter) → sets' ≡ sets → numbers' ≡ numbers → slots ≡ Some a ∷ Some b ∷ Some c ∷ Some d ∷ [] → length numbers ≤ 64 → calls ≤ 1024 → room ≡ length numbers * calls → AllPairs (λ m n. m ≢ n) numbers
      → ((q : ℕ) → q < 4 → Suits (record { room = room; sets = sets }) q [] a) → ((q : ℕ) → q < 4 → Suits (record { room = room; sets = sets }) q [] b) → ((q : ℕ) → q < 4 → Suits (record { room = room; sets = sets }) q [] c) → ((q : ℕ) → q < 4 → Suits (record { room = room; sets = sets }) q [] d)
      → Ruled sets' numbers' calls (opening (0 ∷ 0 ∷ 0 ∷ 0 ∷ 0 ∷ 0 ∷ 0 ∷ 0 ∷ 0 ∷ []) slots (opening_view sets' numbers' calls))
  opens_as sets' numbers numbers' calls room slots a b c d own same is' few few' r distinct sa sb sc sd =
      let e : room ≡ room_of numbers calls = r ∙ sym (room_is calls numbers) in
      let suits : (q : ℕ) (k : Quarter) → Suits (record { room = room; sets = sets }) q [] k → Suits (terms_of sets numbers calls) q [] k = λ q k s. subst (λ n. Suits (record { room = n; sets = sets }) q [] k) e s in
      subst (λ (t : List Quarters × (List ℕ × List (Option Quarter))). Ruled t.0 t.1.0 calls (opening (0 ∷ 0 ∷ 0 ∷ 0 ∷ 0 ∷ 0 ∷ 0 ∷ 0 ∷ 0 ∷ []) t.1.1 (opening_view t.0 t.1.0 calls))) (λ i. (sym own i, (sym same i, sym is' i)))
      (opens numbers calls a b c d (omega (arith, room_is 4 numbers)) (omega (arith, room_is calls numbers, small_product (length numbers) calls few few')) distinct (suits 0 a (sa 0 (omega arith))) (suits 1 b (sb 1 (omega arith))) (suits 2 c (sc 2 (omega arith))) (suits 3 d (sd 3 (omega arith))))

  -- the numbers from the i-th on are still to give, and the i-th is dealt
  pub front_number : (terms : Terms) (ns : List ℕ) (i : ℕ) (m : Me (Option Quarter) ShardView) → i < length ns → m ≡ (keeping terms (blank (drop i ns)), []) → m ≡ (keeping terms ((get_or ns i 0, []) ∷ blank (drop (i + 1) ns)), [])
  front_number terms ns i m b is' = is' ∙ ap (λ l. (keeping terms (blank l), [])) (drop-cons ns i 0 b ∙ ap (λ k. get_or ns i 0 ∷ drop k ns) (next i))
    where
      next : (k : ℕ) → suc k ≡ k + 1
      next k = omega arith

  pub deals_as : (numbers : List ℕ) (calls id : ℕ) (terms : Terms) (ns : List ℕ) (i : ℕ) (m : Me (Option Quarter) ShardView) → i < length ns → m ≡ (keeping terms (blank (drop i ns)), []) → Splits (Ruled sets numbers calls) id m.0 (rest_of m.0) (next_of m.0)
  deals_as numbers calls id terms ns i m b is' = subst (λ (v : ShardView). Splits (Ruled sets numbers calls) id v (rest_of v) (next_of v)) (sym (ap (λ (y : Me (Option Quarter) ShardView). y.0) (front_number terms ns i m b is'))) (deals numbers calls id terms (get_or ns i 0) (blank (drop (i + 1) ns)))

  pub root_dealt : (terms : Terms) (ns : List ℕ) (i : ℕ) (m m' : Me (Option Quarter) ShardView) → i < length ns → m ≡ (keeping terms (blank (drop i ns)), []) → m' ≡ (rest_of m.0, m.1) → m' ≡ (keeping terms (blank (drop (i + 1) ns)), [])
  root_dealt terms ns i m m' b is' e = e ∙ ap (λ (y : Me (Option Quarter) ShardView). (rest_of y.0, y.1)) (front_number terms ns i m b is')

  pub seat_dealt : (terms : Terms) (ns : List ℕ) (i : ℕ) (m w : Me (Option Quarter) ShardView) → i < length ns → m ≡ (keeping terms (blank (drop i ns)), []) → w ≡ (next_of m.0, []) → w ≡ (working terms (get_or ns i 0) [] [], [])
  seat_dealt terms ns i m w b is' e = e ∙ ap (λ (y : Me (Option Quarter) ShardView). (next_of y.0, [])) (front_number terms ns i m b is')

  pub gathers_as : (numbers : List ℕ) (calls id other : ℕ) (terms : Terms) (n : ℕ) (cs : List (ℕ × List ClaimEntry)) (mine : List ClaimEntry) (m w : Me (Option Quarter) ShardView) → m ≡ (keeping m.0.terms cs, []) → w ≡ (working terms n [] mine, []) → Joins (Ruled sets numbers calls) id m.0 other w.0 (gathered m.0 w.0) spent
  gathers_as numbers calls id other terms n cs mine m w is' whose = subst (λ (t : ShardView × ShardView). Joins (Ruled sets numbers calls) id t.0 other t.1 (gathered t.0 t.1) spent) (λ i. (sym (ap (λ (y : Me (Option Quarter) ShardView). y.0) is') i, sym (ap (λ (y : Me (Option Quarter) ShardView). y.0) whose) i)) (gathers numbers calls id m.0.terms other terms n cs mine)
