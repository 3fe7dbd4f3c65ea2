-- What is found when all passes have come together.
use Rattle.std.proofs.Common.{◌≡◌, ℕ, zero, suc, ◌+◌, ◌<◌, ◌≤◌, List, [], ◌∷◌, ◌++◌, length, map, get_or, refl, sym, ap, ◌∙◌, subst, inl, inr, arith, append_assoc, length-append, Some, None, Option}
use Rattle.std.specs.Prelude.{All}
use Rattle.std.proofs.lemmas.List.{get_or_append_left}
use Rattle.std.proofs.lemmas.List.Elements.{All-nil, All-cons}
use mathlib.Core.Option.{some, some-ne-none, some-injective}
use lib.ListN.{get_elem?}
use Rattle.atomic_table.specs.Table.{State, Me, Final, Seen}
use Rattle.aim_shards.specs.declared.claims.ClaimEntry.{ClaimEntry}
use Rattle.aim_shards.specs.declared.quarter.Quarter.{Quarter}
use Rattle.aim_shards.specs.declared.view.QuadrantTurn.{QuadrantTurn}
use Rattle.aim_shards.specs.declared.view.ShardView.{ShardView}
use Rattle.aim_shards.specs.Claims.{IsLegal, of_quadrant, entries_of}
use Rattle.aim_sheets.specs.Sheets.{Spans}
use Rattle.aim_shards.specs.Cuts.{AreCut}
use Rattle.aim_shards.specs.History.{IsHistory}
use Rattle.aim_shards.specs.Models.{PassModel, ShardsModel}
use Rattle.aim_shards.proofs.Wholes.{history_from}
use Rattle.aim_shards.specs.Closing.{Gathers, AreMade, LiesAt, Ends, Closes}
use Rattle.aim_shards.specs.declared.view.Terms.{Terms}
use Rattle.aim_shards.specs.Sets.{Quarters}
use Rattle.aim_shards.specs.Sums.{Every, total, at}
use Rattle.aim_shards.specs.Ruled.{terms_of, claims, named, made, has, working, keeping, gathered, Home, Ruled}
use Rattle.aim_shards.proofs.Totals.{one_le}
use Rattle.aim_shards.proofs.Lines.{at_le}

module _ {A : Type 0} where
  -- what g bounds, where one has all of g and none of f
  total_rest : (f g : A → ℕ) (l : List A) (i : ℕ) (v : A) → get_elem? l i ≡ some v → ((j : ℕ) (u : A) → get_elem? l j ≡ some u → f u ≤ g u) → f v ≡ 0 → total f l + g v ≤ total g l
  total_rest f g [] i v e h z = absurd (some-ne-none v (sym e))
  total_rest f g (x ∷ xs) zero v e h z = let s = ap g (some-injective _ _ e) in let r = ap f (some-injective _ _ e) in omega (arith, total_under f g xs (λ j u d. h (suc j) u d))
    where
      total_under : (f g : A → ℕ) (l : List A) → ((j : ℕ) (u : A) → get_elem? l j ≡ some u → f u ≤ g u) → total f l ≤ total g l
      total_under f g [] h = omega arith
      total_under f g (y ∷ ys) h = omega (arith, h 0 y refl, total_under f g ys (λ j u d. h (suc j) u d))
  total_rest f g (x ∷ xs) (suc i) v e h z = omega (arith, h 0 x refl, total_rest f g xs i v e (λ j u d. h (suc j) u d) z)

  total_zero : (f g : A → ℕ) (l : List A) → total f l ≡ 0 → ((x : A) → f x ≡ 0 → g x ≡ 0) → total g l ≡ 0
  total_zero f g [] z h = refl
  total_zero f g (x ∷ xs) z h = omega (arith, h x (omega arith), total_zero f g xs (omega arith) h)

  -- where one has all of f, it has all of what f bounds
  only_one : (f g : A → ℕ) (l : List A) (i : ℕ) (v : A) → get_elem? l i ≡ some v → total f l ≡ f v → ((x : A) → f x ≡ 0 → g x ≡ 0) → total g l ≡ g v
  only_one f g [] i v e t h = absurd (some-ne-none v (sym e))
  only_one f g (x ∷ xs) zero v e t h = let s = ap f (some-injective _ _ e) in let r = ap g (some-injective _ _ e) in omega (arith, total_zero f g xs (omega arith) h)
  only_one f g (x ∷ xs) (suc i) v e t h = let b = one_le f xs i v e in omega (arith, h x (omega arith), only_one f g xs i v e (omega arith) h)

-- as many numbers
same_total : {A B : Type 0} (k : ℕ) (xs : List A) (ys : List B) → length xs ≡ length ys → total (λ _. k) xs ≡ total (λ _. k) ys
same_total k [] [] e = refl
same_total k [] (y ∷ ys) e = absurd (omega arith)
same_total k (x ∷ xs) [] e = absurd (omega arith)
same_total k (x ∷ xs) (y ∷ ys) e = ap (λ n. k + n) (same_total k xs ys (omega arith))

total_map : {A B : Type 0} (f : B → ℕ) (m : A → B) (l : List A) → total f (map m l) ≡ total (λ x. f (m x)) l
total_map f m [] = refl
total_map f m (x ∷ xs) = ap (λ k. f (m x) + k) (total_map f m xs)

made_none : (cs : List (ℕ × List ClaimEntry)) → total (λ c. 1) cs ≡ 0 → total (λ c. length c.1) cs ≡ 0
made_none [] z = refl
made_none (c ∷ cs) z = absurd (omega arith)

no_claim : (f : ℕ → ℕ) (cs : List (ℕ × List ClaimEntry)) → total (λ c. 1) cs ≡ 0 → total (λ c. f c.0) cs ≡ 0
no_claim f [] z = refl
no_claim f (c ∷ cs) z = absurd (omega arith)

pass_claims : (log : List ClaimEntry) (ps : List PassModel) → Every (λ (c : ℕ × List ClaimEntry). entries_of c.0 log ≡ c.1) (map (λ (p : PassModel). (p.number, p.mine)) ps) → All (λ (p : PassModel). entries_of p.number log ≡ p.mine) ps
pass_claims log [] all = All-nil (λ (p : PassModel). entries_of p.number log ≡ p.mine)
pass_claims log (p ∷ ps) all = All-cons (λ (p : PassModel). entries_of p.number log ≡ p.mine) p ps all.0 (pass_claims log ps all.1)

module _ (sets : List Quarters) (numbers : List ℕ) (calls : ℕ) (x : State (Option Quarter) ShardView) (id : ℕ) (terms : Terms) (ps : List PassModel) where
  abbrev root : ShardView
  root = keeping terms (map (λ (p : PassModel). (p.number, p.mine)) ps)

  named_all : (k : ℕ) → length ps ≡ length numbers → named (λ _. k) root ≡ total (λ _. k) numbers
  named_all k e = total_map (λ (c : ℕ × List ClaimEntry). k) (λ (p : PassModel). (p.number, p.mine)) ps ∙ same_total k ps numbers e

  -- no view has a turn
  no_turn : (h : Ruled sets numbers calls x) → get_elem? x.views id ≡ some root → length ps ≡ length numbers → (q : ℕ) → total (has q (λ _. 1)) x.views ≡ 0
  no_turn h at' e q = omega (arith, total_rest (has q (λ _. 1)) (named (λ _. 4)) x.views id root at' (λ j u d. omega (arith, (h.each j u d).few, ones u.held)) refl, h.places (λ _. 4), named_all 4 e)
    where
      ones : (l : List QuadrantTurn) → total (λ t. at q t.quadrant 1) l ≤ length l
      ones [] = omega arith
      ones (y ∷ ys) = omega (arith, at_le q y.quadrant 1, ones ys)

  pub at_home : (h : Ruled sets numbers calls x) → get_elem? x.views id ≡ some root → length ps ≡ length numbers → (q : ℕ) → q < 4 → (k : Quarter) × (get_elem? x.homes q ≡ some (some (Some k))) × (k.entries.items ≡ of_quadrant sets q h.log)
  at_home h at' e q lt = pick (h.slot q lt)
    where
      pick : Home (terms_of sets numbers calls) q x.homes x.views h.log (h.serving q) → (k : Quarter) × (get_elem? x.homes q ≡ some (some (Some k))) × (k.entries.items ≡ of_quadrant sets q h.log)
      pick (inl home) = (home.0, home.1, home.2.entries)
      pick (inr out) = absurd (omega (arith, out.1 (λ _. 1), no_turn h at' e q))

  pub made_all : (h : Ruled sets numbers calls x) → get_elem? x.views id ≡ some root → length ps ≡ length numbers → AreMade numbers ps h.log
  made_all h at' e =
      let one : total (named (λ _. 1)) x.views ≡ named (λ _. 1) root = h.places (λ _. 1) ∙ sym (named_all 1 e) in
      record {
        passes = pass_claims h.log ps (h.each id root at').claimed;
        others = h.strangers;
        count = sym h.count ∙ (only_one (named (λ _. 1)) made x.views id root at' one (λ u z. made_none (claims u) z) ∙ total_map (λ (c : ℕ × List ClaimEntry). length c.1) (λ (p : PassModel). (p.number, p.mine)) ps);
        places = λ f. sym (total_map (λ (c : ℕ × List ClaimEntry). f c.0) (λ (p : PassModel). (p.number, p.mine)) ps) ∙ (sym (only_one (named (λ _. 1)) (named f) x.views id root at' one (λ u z. no_claim f (claims u) z)) ∙ h.places f);
      }

middle : {A : Type 0} (xs ys : List A) (x d : A) → get_or (xs ++ x ∷ ys) (length xs) d ≡ x
middle [] ys x d = refl
middle (y ∷ xs) ys x d = middle xs ys x d

-- what holds of each holds of the last one that is left
pub all_middle : {A : Type 0} (P : A → Type 0) (all xs ys : List A) (x : A) → All P all → all ≡ xs ++ x ∷ ys → P x
all_middle P all xs ys x h e = subst P (ap (λ l. get_or l (length xs) x) e ∙ middle xs ys x x) (h (length xs) x (omega (arith, ap length e ∙ length-append xs (x ∷ ys))))

-- and so it does of the ones before that
pub all_front : {A : Type 0} (P : A → Type 0) (all xs ys : List A) → All P all → all ≡ xs ++ ys → All P xs
all_front P all xs ys h e = λ k d less.
    let n = ap length e ∙ length-append xs ys in
    subst P (ap (λ l. get_or l k d) e ∙ get_or_append_left xs ys d k less) (h k d (omega (arith, n, less)))

pub popped : {A : Type 0} (all left gone rest : List A) (x : A) → all ≡ left ++ gone → left ≡ rest ++ x ∷ [] → all ≡ rest ++ x ∷ gone
popped all left gone rest x e f = e ∙ ap (λ l. l ++ gone) f ∙ append_assoc rest (x ∷ []) gone

-- what is found in the slots
pub closes : (sets : List Quarters) (numbers : List ℕ) (calls : ℕ) (ws : List ℕ) (xs : List (Option Quarter)) (id : ℕ) (ps : List PassModel) (m : Me (Option Quarter) ShardView) → Gathers ps m → length ps ≡ length numbers → Final (Seen (Ruled sets numbers calls) id m.0) ws xs
    → (log : List ClaimEntry) × (IsLegal sets log × AreMade numbers ps log) × ((q : ℕ) → q < 4 → LiesAt q xs (of_quadrant sets q log))
closes sets numbers calls ws xs id ps m had count f =
    let seen : get_elem? f.0.views id ≡ some (keeping m.0.terms (map (λ (p : PassModel). (p.number, p.mine)) ps)) = f.1.1 ∙ ap (λ (y : Me (Option Quarter) ShardView). some y.0) had.is in (
      f.1.0.log,
      (f.1.0.lawful, made_all sets numbers calls f.0 id m.0.terms ps f.1.0 seen count),
      λ q lt. let a = at_home sets numbers calls f.0 id m.0.terms ps f.1.0 seen count q lt in record { value = a.0; there = f.4 q (Some a.0) a.1; entries = a.2 },
    )

pub gathers_one : (gone : List PassModel) (p : PassModel) (n : ℕ) (terms : Terms) (mine : List ClaimEntry) (m m' w : Me (Option Quarter) ShardView) → Gathers gone m → w ≡ (working terms n [] mine, []) → m' ≡ (gathered m.0 w.0, m.1) → p.number ≡ n → p.mine ≡ mine → Gathers (p ∷ gone) m'
gathers_one gone p n terms mine m m' w had is' joined number own' =
    let e : m' ≡ (keeping terms ((n, mine) ∷ map (λ (q : PassModel). (q.number, q.mine)) gone), []) = joined ∙ (λ i. (gathered (had.is i).0 (is' i).0, (had.is i).1)) in
    record { is = e ∙ (λ i. (keeping (sym (ap (λ (y : Me (Option Quarter) ShardView). y.0.terms) e) i) ((sym number i, sym own' i) ∷ map (λ (q : PassModel). (q.number, q.mine)) gone), [])) }

-- it lies there still where another one was taken
pub still_at : {q : ℕ} {l : List ClaimEntry} {xs ys : List (Option Quarter)} → ys ≡ xs → LiesAt q xs l → LiesAt q ys l
still_at {q = q} same a = record { value = a.value; there = ap (λ (zs : List (Option Quarter)). get_elem? zs q) same ∙ a.there; entries = a.entries }

-- the quadrant's slot is not empty
pub not_empty : {q : ℕ} {l : List ClaimEntry} {xs : List (Option Quarter)} {r : Option Quarter} → LiesAt q xs l → get_elem? xs q ≡ some r → r ≡ None → ⊥
not_empty a found empty = differ (some-injective _ _ (sym a.there ∙ found) ∙ empty)
  where
    differ : {k : Quarter} → Some k ≡ None → ⊥
    differ e = cc

-- and has the quadrant's entries
pub entries_at : {q : ℕ} {l items : List ClaimEntry} {xs : List (Option Quarter)} {k' : Quarter} → LiesAt q xs l → get_elem? xs q ≡ some (Some k') → items ≡ k'.entries.items → items ≡ l
entries_at a found is' = is' ∙ (ap (λ (k : Quarter). k.entries.items) (sym (inside (some-injective _ _ (sym a.there ∙ found)))) ∙ a.entries)
  where
    inside : {a b : Quarter} → Some a ≡ Some b → a ≡ b
    inside e = cc

-- what is legal by the parts of the sets is so by their cells
pub closes_by : {half : ℕ} {sheets : List Spans} {sets sets' : List Quarters} {numbers : List ℕ} {s : ShardsModel} {ps : List PassModel} {log first second third fourth : List ClaimEntry} → AreCut half sheets sets → sheets ≡ s.sets → sets ≡ s.quarters → numbers ≡ s.numbers → sets' ≡ sets → Ends sets' numbers ps log first second third fourth → Closes s ps log first second third fourth
closes_by {half = half} {sheets = sheets} {sets = sets} {sets' = sets'} {numbers = numbers} {s = s} {ps = ps} {log = log} cut same own named' key e =
    let parts : sets' ≡ s.quarters = key ∙ own in
    record {
      history = subst (λ (x : List Spans). IsHistory x log) same (history_from half sheets sets cut [] log 0 (subst (λ (x : List Quarters). IsLegal x log) key e.lawful));
      made = subst (λ (x : List ℕ). AreMade x ps log) named' e.made;
      lists = record { first_is = e.lists.first_is ∙ ap (λ (x : List Quarters). of_quadrant x 0 log) parts; second_is = e.lists.second_is ∙ ap (λ (x : List Quarters). of_quadrant x 1 log) parts; third_is = e.lists.third_is ∙ ap (λ (x : List Quarters). of_quadrant x 2 log) parts; fourth_is = e.lists.fourth_is ∙ ap (λ (x : List Quarters). of_quadrant x 3 log) parts };
    }
