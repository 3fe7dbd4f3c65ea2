-- How passes come together, and what the kept value is then.
use Rattle.std.proofs.Common.{◌≡◌, ◌≢◌, ℕ, ◌+◌, ◌≤◌, List, [], ◌∷◌, ◌++◌, length, get_or, map, refl, sym, ap, ◌∙◌, subst, inl, inr, arith, append_assoc, append-nil, length-append, Some, None, Option}
use Rattle.std.specs.Prelude.{All, Contains}
use Rattle.std.proofs.lemmas.List.Elements.{Contains-get_or}
use mathlib.Core.Option.{some, some-injective}
use lib.ListN.{get_elem?}
use Rattle.atomic_table.specs.Table.{State, Me, Final, Seen}
use Rattle.atomic_table.specs.Seated.{TableId}
use Rattle.aim_turnstile.specs.declared.view.View.{View}
use Rattle.aim_turnstile.specs.History.{entries_of, Begins}
use Rattle.aim_turnstile.specs.Models.{PassModel}
use Rattle.aim_turnstile.specs.Turned.{Every, total, own, blank, named, is, claims, longer, seated, gathered, gathering, Gathers, Meaning, Home, Turned, Ends, Sits}
use Rattle.aim_turnstile.proofs.Totals.{two_le, total_ones}
use Rattle.aim_turnstile.proofs.Tallies.{only_one, total_map, tally}
use Rattle.aim_turnstile.proofs.Opens.{absent}
use Rattle.aim_turnstile.proofs.Steps.{same_view, off_on, inside}

middle : {A : Type 0} (xs ys : List A) (x d : A) → get_or (xs ++ x ∷ ys) (length xs) d ≡ x
middle [] ys x d = refl
middle (y ∷ xs) ys x d = middle xs ys x d

-- what holds of each holds of the last one that is left
pub all_middle : {A : Type 0} (P : A → Type 0) (all xs ys : List A) (x : A) → All P all → all ≡ xs ++ x ∷ ys → P x
all_middle P all xs ys x h e = subst P (ap (λ l. get_or l (length xs) x) e ∙ middle xs ys x x) (h (length xs) x (omega (arith, ap length e ∙ length-append xs (x ∷ ys))))

pub popped : {A : Type 0} (all left gone rest : List A) (x : A) → all ≡ left ++ gone → left ≡ rest ++ x ∷ [] → all ≡ rest ++ x ∷ gone
popped all left gone rest x e f = e ∙ ap (λ l. l ++ gone) f ∙ append_assoc rest (x ∷ []) gone

pub none_found : {K : Type 0} (xs : List (Option K)) (k : K) (r : Option K) → get_elem? xs 0 ≡ some (Some k) → get_elem? xs 0 ≡ some r → r ≡ None → ⊥
none_found xs k r a b c = differ (some-injective _ _ (sym a ∙ b) ∙ c)
  where
    differ : Some k ≡ None → ⊥
    differ e = cc

-- a number that is not among the numbers
pub stranger : (numbers : List ℕ) (n : ℕ) → (Contains numbers n → ⊥) → total (is n) numbers ≡ 0
stranger numbers n h = absent n numbers (λ j b e. h (subst (Contains numbers) e (Contains-get_or numbers j 0 b)))

-- a seat that has taken in a list of numbers, by an equation
gathering_as : {K S E : Type 0} (s : S) (ns : List ℕ) (seen : List E) (olds : List (List E)) (ended : List (ℕ × List E)) (m : Me (Option K) (View S E)) → m ≡ (gathering s ns seen olds ended, []) → m ≡ (gathering s ns m.0.seen m.0.olds ended, [])
gathering_as s ns seen olds ended m e = e ∙ (λ i. (gathering s ns (sym (ap (λ y. y.0.seen) e) i) (sym (ap (λ y. y.0.olds) e) i) ended, []))

-- one more pass has come in, of which p is what contracts see
pub one_more : {K S E : Type 0} {caller_of : E → ℕ} (s : S) (ns : List ℕ) (gone : List (PassModel S E)) (n : ℕ) (z : TableId) (p : PassModel S E) (m m' w : Me (Option K) (View S E)) → Gathers s ns gone m → Sits caller_of n w → m' ≡ (gathered m.0 w.0, m.1)
    → record { table = z; setting = w.0.setting; number = n; seen = w.0.seen; mine = w.0.mine } ≡ p → Gathers s ns (p ∷ gone) m'
one_more {K} {S} {E} s ns gone n z p m m' w had sits is seen_as =
    let ended : List (ℕ × List E) = (n, w.0.mine) ∷ map (λ (q : PassModel S E). (q.number, q.mine)) gone in
    let e : m' ≡ (gathering s ns (longer m.0.seen w.0.seen) (m.0.seen ∷ w.0.seen ∷ m.0.olds) ended, []) = is ∙ (λ i. (gathered (had.is i).0 (sits.is i).0, (had.is i).1)) in
    subst (λ q. Gathers s ns (q ∷ gone) m') seen_as
    record {
      is = gathering_as s ns (longer m.0.seen w.0.seen) (m.0.seen ∷ w.0.seen ∷ m.0.olds) ended m' e;
      shown = λ log all. let each = subst (λ (l : List (List E)). Every (λ xs. Begins xs log) l) (ap (λ (y : Me (Option K) (View S E)). y.0.olds) e) all in (each.1.0, had.shown log each.1.1);
    }

module _ {K S E : Type 0} (M : Meaning K S E) where
  named_all : (ps : List (PassModel S E)) → total (λ (c : ℕ × List E). 1) (map (λ (p : PassModel S E). (p.number, p.mine)) ps) ≡ length ps
  named_all [] = refl
  named_all (p ∷ ps) = omega (arith, named_all ps)

  told : (log : List E) (ps : List (PassModel S E)) → Every (λ (p : PassModel S E). Begins p.seen log) ps → Every (λ (c : ℕ × List E). entries_of M.caller_of c.0 log ≡ c.1) (map (λ (p : PassModel S E). (p.number, p.mine)) ps)
      → Every (λ (p : PassModel S E). Begins p.seen log × (entries_of M.caller_of p.number log ≡ p.mine)) ps
  told log [] a b = tt
  told log (p ∷ ps) a b = ((a.0, b.0), told log ps a.1 b.1)

  no_claim : (f : ℕ → ℕ) (cs : List (ℕ × List E)) → total (λ c. 1) cs ≡ 0 → total (λ c. f c.0) cs ≡ 0
  no_claim f [] z = refl
  no_claim f (c ∷ cs) z = absurd (omega arith)

  counts_all : (log : List E) (ps : List (PassModel S E)) → Every (λ (p : PassModel S E). Begins p.seen log × (entries_of M.caller_of p.number log ≡ p.mine)) ps → total (λ p. length (entries_of M.caller_of p.number log)) ps ≡ total (λ p. length p.mine) ps
  counts_all log [] h = refl
  counts_all log (p ∷ ps) h = let e = ap length h.0.1 in omega (arith, counts_all log ps h.1)

  module _ (s : S) (numbers : List ℕ) (x : State (Option K) (View S E)) (id : ℕ) (seen : List E) (olds : List (List E)) (ps : List (PassModel S E)) where
    abbrev main_view : View S E
    main_view = gathering s numbers seen olds (map (λ (p : PassModel S E). (p.number, p.mine)) ps)

    -- the passes have just the numbers
    exact : (h : Turned M s numbers x) → get_elem? x.views id ≡ some main_view → length ps ≡ length numbers → (f : ℕ → ℕ) → total (λ p. f p.number) ps ≡ total f numbers
    exact h at count f =
        let all : total (named (λ _. 1)) x.views ≡ named (λ _. 1) main_view = omega (arith, h.places (λ _. 1), total_ones numbers, named_all ps, count) in
        let mine = only_one (named (λ _. 1)) (named f) x.views id main_view at all (λ u z. no_claim f (claims u) z) in
        sym (total_map (λ (c : ℕ × List E). f c.0) (λ (p : PassModel S E). (p.number, p.mine)) ps) ∙ sym mine ∙ h.places f

    -- where one seat has taken in as many passes as there are numbers, the slot is at home
    ends : (h : Turned M s numbers x) → get_elem? x.views id ≡ some main_view → ((log : List E) → Every (λ xs. Begins xs log) olds → Every (λ p. Begins p.seen log) ps) → length ps ≡ length numbers
        → Home M s x.homes x.views h.log → (k : K) × (x.homes ≡ some (Some k) ∷ []) × Ends M s numbers ps k
    ends h at shown count (inl home) =
        let f = h.each id main_view at in
        let all = told h.log ps (shown h.log f.olds) f.claimed in
        let fill : h.log ≡ M.entries home.0 = sym home.3 in (
          home.0,
          home.1,
          record {
            setting = home.2;
            lawful = subst (M.is_lawful s) fill h.lawful;
            passes = subst (λ l. Every (λ (p : PassModel S E). Begins p.seen l × (entries_of M.caller_of p.number l ≡ p.mine)) ps) fill all;
            others = λ n z. ap (entries_of M.caller_of n) (sym fill) ∙ h.strangers n z;
            places = exact h at count;
            count = ap length (sym fill) ∙ sym (tally M.caller_of numbers h.distinct h.log h.strangers) ∙ sym (exact h at count (λ n. length (entries_of M.caller_of n h.log))) ∙ counts_all h.log ps all;
          },
        )
    ends h at shown count (inr out) =
        let j = out.1.0 in
        let u = out.1.1 in
        let fu = h.each j u out.1.2 in
        let named' = (fu.ticket h.serving (fu.turn out.1.3).0).2 in
        let apart : id ≢ j = λ e. off_on {b = u.turn} (sym (ap (λ (y : View S E). y.turn) (same_view x.views id main_view u at (subst (λ i. get_elem? x.views i ≡ some u) (sym e) out.1.2)))) out.1.3 in
        absurd (omega (arith, two_le (named (λ _. 1)) x.views id j main_view u at out.1.2 apart, h.places (λ _. 1), total_ones numbers, named_all ps, count, has u named'))
      where
        has : (y : View S E) → ((n : ℕ) × (y.number ≡ Some n)) → 1 ≤ named (λ _. 1) y
        has y p = subst (λ (o : Option ℕ). 1 ≤ total (λ (c : ℕ × List E). 1) (own o y.mine ++ (blank y.to_give ++ y.ended))) (sym p.1) (omega arith)

  -- what is then found in the slot
  pub found : (s : S) (numbers ws : List ℕ) (xs : List (Option K)) (id : ℕ) (ps : List (PassModel S E)) (m : Me (Option K) (View S E)) → Gathers s numbers ps m → length ps ≡ length numbers → Final (Seen (Turned M s numbers) id m.0) ws xs → (k : K) × (get_elem? xs 0 ≡ some (Some k)) × Ends M s numbers ps k
  found s numbers ws xs id ps m had count f =
      let e = ends s numbers f.0 id m.0.seen m.0.olds ps f.1.0 (f.1.1 ∙ ap (λ (y : Me (Option K) (View S E)). some y.0) had.is) had.shown count f.1.0.slot in
      (e.0, f.4 0 (Some e.0) (ap (λ hs. get_elem? hs 0) e.1), e.2)

  pub ends_with : {s : S} {numbers : List ℕ} {ps : List (PassModel S E)} (xs : List (Option K)) (k k' : K) → get_elem? xs 0 ≡ some (Some k) → Ends M s numbers ps k → get_elem? xs 0 ≡ some (Some k') → Ends M s numbers ps k'
  ends_with {s = s} {numbers = numbers} {ps = ps} xs k k' a e b = subst (Ends M s numbers ps) (inside k k' (some-injective _ _ (sym a ∙ b))) e

-- a seat that is new has taken in no pass
pub arrived : {K S E : Type 0} (s : S) (ns : List ℕ) (m : Me (Option K) (View S E)) → m.1 ≡ [] → m.0 ≡ seated (Some s) ns None [] [] → Gathers s ns [] m
arrived {K} {S} {E} s ns m a b = subst (Gathers s ns []) {x = (seated (Some s) ns None [] [], [])} (λ i. (sym b i, sym a i)) record { is = refl; shown = λ log all. tt }

-- what is gathered of a list with nothing behind it is gathered of the list
pub with_none : {K S E : Type 0} (s : S) (ns : List ℕ) (ps : List (PassModel S E)) (m : Me (Option K) (View S E)) → Gathers s ns (ps ++ []) m → Gathers s ns ps m
with_none s ns ps m had = subst (λ l. Gathers s ns l m) (append-nil ps) had

pub length-snoc : {A : Type 0} (xs : List A) (x : A) (n : ℕ) → length xs + 1 ≡ n → length (xs ++ x ∷ []) ≡ n
length-snoc xs x n e = omega (arith, e, length-append xs (x ∷ []))
