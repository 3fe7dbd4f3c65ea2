-- What a pass keeps.
use Rattle.std.proofs.Common.{◌≡◌, ◌≢◌, ℕ, ◌+◌, ◌<◌, ◌≤◌, List, [], ◌∷◌, ◌++◌, length, map, take, get_or, length-append, refl, subst, sym, ap, ◌∙◌, arith, Option}
use Rattle.std.proofs.lemmas.List.{get_or_default, map-append, take_more}
use Rattle.aim_sheets.specs.Sheets.{Spans}
use Rattle.aim_shards.specs.Sets.{Quarters, part, set_at, IsOf}
use Rattle.aim_shards.specs.Cuts.{AreCut}
use Rattle.atomic_table.specs.Table.{Me}
use Rattle.atomic_table.specs.Seated.{TableId}
use Rattle.aim_shards.specs.declared.claims.ClaimEntry.{ClaimEntry}
use Rattle.aim_shards.specs.declared.quarter.Quarter.{Quarter}
use Rattle.aim_shards.specs.declared.view.ShardView.{ShardView}
use Rattle.aim_shards.specs.Claims.{stands, stood}
use Rattle.aim_shards.specs.declared.view.Terms.{Terms}
use Rattle.aim_shards.specs.Ruled.{working}
use Rattle.aim_shards.specs.Working.{Works, Carries}
use Rattle.aim_shards.specs.Passes.{Keeps}
use Rattle.aim_shards.specs.Models.{PassModel, ShardsModel, new_pass}
use Rattle.aim_shards.proofs.Histories.{stands_more, stands_short}

-- a pass that is new
pub keeps_new : (n calls capacity : ℕ) (terms : Terms) (standing : List ClaimEntry) (m : Me (Option Quarter) ShardView) → m ≡ (working terms n [] [], []) → (standing ≡ []) × (calls ≤ capacity) → Keeps n calls 0 standing capacity m
keeps_new n calls capacity terms standing m new has = subst (Keeps n calls 0 standing capacity) (sym new) record { rests = record { is = refl }; made_is = refl; within = omega arith; stands_is = has.0; wide = has.1 }

-- one more number has its pass
pub passes_more : (s : ShardsModel) (terms : Terms) (numbers : List ℕ) (i n calls : ℕ) (table : TableId) (m : Me (Option Quarter) ShardView) (passes passes' : List PassModel) → i < length numbers → passes ≡ map (new_pass s) (take i numbers) → passes' ≡ passes ++ record { table = table; number = n; calls = calls; quarters = m.0.terms.sets; mine = m.0.mine } ∷ []
    → table ≡ s.table → n ≡ get_or numbers i 0 → calls ≡ s.calls → terms.sets ≡ s.quarters → m ≡ (working terms (get_or numbers i 0) [] [], []) → passes' ≡ map (new_pass s) (take (i + 1) numbers)
passes_more s terms numbers i n calls table m passes passes' lt before more table_is number_is calls_is sets_are is' =
    let sets : m.0.terms.sets ≡ s.quarters = ap (λ (y : Me (Option Quarter) ShardView). y.0.terms.sets) is' ∙ sets_are in
    let mine : m.0.mine ≡ [] = ap (λ (y : Me (Option Quarter) ShardView). y.0.mine) is' in
    more ∙ ((λ j. before j ++ record { table = table_is j; number = number_is j; calls = calls_is j; quarters = sets j; mine = mine j } ∷ [])
    ∙ sym (ap (map (new_pass s)) (take_more numbers i 0 lt) ∙ map-append (new_pass s) (take i numbers) (get_or numbers i 0 ∷ [])))

pub keeps_room : {n calls made capacity : ℕ} {standing : List ClaimEntry} {m : Me (Option Quarter) ShardView} → Keeps n calls made standing capacity m → made ≢ calls → length standing < capacity
keeps_room {m = m} k ne = omega (arith, ap length k.stands_is, stands_short m.0.mine, k.made_is, k.within, k.wide, ne)

pub keeps_more : {n calls made capacity capacity' : ℕ} {standing standing' : List ClaimEntry} {qs : List ℕ} (e : ClaimEntry) {m m1 m2 : Me (Option Quarter) ShardView} → Keeps n calls made standing capacity m → made ≢ calls → Works n m.0.terms m.0.mine qs m1
    → m2 ≡ (working m1.0.terms n [] (m1.0.mine ++ e ∷ []), []) → standing' ≡ stood standing e → capacity' ≡ capacity → Keeps n calls (made + 1) standing' capacity' m2
keeps_more {n = n} e {m = m} {m1 = m1} {m2 = m2} k ne w is' items cap =
    let mine : m2.0.mine ≡ m.0.mine ++ e ∷ [] = ap (λ (y : Me (Option Quarter) ShardView). y.0.mine) is' ∙ ap (λ (v : ShardView). v.mine ++ e ∷ []) w.is in
    let own : m2.0.mine ≡ m1.0.mine ++ e ∷ [] = ap (λ (y : Me (Option Quarter) ShardView). y.0.mine) is' in
    let terms : m2.0.terms ≡ m1.0.terms = ap (λ (y : Me (Option Quarter) ShardView). y.0.terms) is' in
    record {
      rests = record { is = is' ∙ (λ i. (working (sym terms i) n [] (sym own i), [])) };
      made_is = omega (arith, k.made_is, ap length mine, length-append m.0.mine (e ∷ []));
      within = omega (arith, k.within, ne);
      stands_is = items ∙ (ap (λ l. stood l e) k.stands_is ∙ (sym (stands_more [] m.0.mine e) ∙ ap (stands []) (sym mine)));
      wide = omega (arith, k.wide, cap);
    }

-- the set of this number, which is there
pub set_there : {half k : ℕ} {sheets sheets' : List Spans} {sets sets' : List Quarters} {set : Quarters} → AreCut half sheets sets → sheets ≡ sheets' → k < length sheets' → sets' ≡ sets → set ≡ get_or sets k set → set ≡ set_at sets' k
set_there {k = k} {sets = sets} {set = set} cut same lt own is' = is' ∙ (get_or_default sets k set [] (omega (arith, cut.count, ap length same, lt)) ∙ ap (λ (s : List Quarters). set_at s k) (sym own))

pub of_same : (sets : List Quarters) (k : ℕ) {set : Quarters} → set ≡ set_at sets k → IsOf sets set
of_same sets k e = record { number = k; same = λ q. ap (λ (s : Quarters). part s q) e }

-- with the terms and the entries that the seat's view has
pub works_own : {n : ℕ} {terms : Terms} {mine : List ClaimEntry} {qs : List ℕ} {m : Me (Option Quarter) ShardView} → Works n terms mine qs m → Works n m.0.terms m.0.mine qs m
works_own {n = n} {m = m} w = record {
  is = subst (λ (v : ShardView). m.0 ≡ working v.terms n m.0.held v.mine) (sym w.is) w.is;
  turns = w.turns;
  carries = subst (λ (v : ShardView). Carries v.terms m.0.held m.1) (sym w.is) w.carries;
}

pub calls_left : {n n' calls calls' made capacity : ℕ} {standing : List ClaimEntry} {terms : Terms} {qs : List ℕ} {m m' : Me (Option Quarter) ShardView} → Keeps n calls made standing capacity m → made ≢ calls → Works n' terms m.0.mine qs m' → calls ≡ calls' → length m'.0.mine < calls'
calls_left k ne w e = omega (arith, k.made_is, k.within, ne, ap (λ (v : ShardView). length v.mine) w.is, e)

pub moves_claim : (k : ℕ) {n : ℕ} {terms : Terms} {mine : List ClaimEntry} {qs : List ℕ} {m : Me (Option Quarter) ShardView} {set : Quarters} → Works n terms mine qs m → set ≡ set_at terms.sets k → (q : ℕ) → part set q ≡ part (set_at m.0.terms.sets k) q
moves_claim k w e q = ap (λ (s : Quarters). part s q) (e ∙ ap (λ (v : ShardView). set_at v.terms.sets k) (sym w.is))
