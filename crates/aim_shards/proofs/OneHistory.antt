-- The lists of the four quadrants merge to the history that they are of.
use Rattle.std.proofs.Common.{◌≡◌, ◌⊎◌, ℕ, zero, suc, ◌<◌, ◌≤◌, ◌==◌, Bool, true, false, ◌&&◌, ◌||◌, not, List, [], ◌∷◌, ◌++◌, refl, sym, ap, ◌∙◌, subst, ⊎_elim, inl, inr, arith}
use Rattle.std.specs.Prelude.{if◌then◌else◌}
use Rattle.std.specs.List.{list_any}
use Rattle.std.proofs.lemmas.Bool.{and_parts, and_from}
use Rattle.aim_sheets.specs.Sheets.{Spans}
use Rattle.aim_shards.specs.declared.claims.ClaimAct.{ClaimAct}
use Rattle.aim_shards.specs.declared.claims.ClaimAct.TheVariants as act
use Rattle.aim_shards.specs.declared.claims.ClaimEntry.{ClaimEntry}
use Rattle.aim_shards.specs.Sets.{Quarters, set_at, has_cells, is_empty, lies_in}
use Rattle.aim_shards.specs.Claims.{claimed, is_in, stood, touches, touching, of_quadrant}
use Rattle.aim_shards.specs.History.{IsAnswer, IsHistoryFrom}
use Rattle.aim_shards.specs.Merging.{IsIn, IsRising, AreOne, IsMerge}
use Rattle.aim_shards.proofs.Sharing.{differ, or_either, or_left, or_right}
use Rattle.aim_shards.proofs.Merged.{in_left, in_right, in_parts, above_at, above_from}

-- tickets of a history
at_least : (sheets : List Spans) (standing log : List ClaimEntry) (n : ℕ) (e : ClaimEntry) → IsHistoryFrom sheets standing n log → IsIn e log → n ≤ e.ticket
at_least sheets standing [] n e h i = absurd i
at_least sheets standing (x ∷ xs) n e h (inl i) = omega (arith, h.0, ap (λ (y : ClaimEntry). y.ticket) i)
at_least sheets standing (x ∷ xs) n e h (inr i) = omega (arith, at_least sheets (stood standing x) xs (suc n) e h.2 i)

history_rises : (sheets : List Spans) (standing log : List ClaimEntry) (n : ℕ) → IsHistoryFrom sheets standing n log → IsRising log
history_rises sheets standing [] n h = tt
history_rises sheets standing (x ∷ xs) n h = (above_from x.ticket xs (λ e i. omega (arith, h.0, at_least sheets (stood standing x) xs (suc n) e h.2 i)), history_rises sheets (stood standing x) xs (suc n) h.2)

-- in a list that rises entries with one ticket are equal
rising_one : (xs : List ClaimEntry) → IsRising xs → AreOne xs
rising_one [] r e f i j t = absurd i
rising_one (x ∷ xs) r e f (inl i) (inl j) t = i ∙ sym j
rising_one (x ∷ xs) r e f (inl i) (inr j) t = absurd (omega (arith, t, ap (λ (y : ClaimEntry). y.ticket) i, above_at x.ticket f xs r.0 j))
rising_one (x ∷ xs) r e f (inr i) (inl j) t = absurd (omega (arith, t, ap (λ (y : ClaimEntry). y.ticket) j, above_at x.ticket e xs r.0 i))
rising_one (x ∷ xs) r e f (inr i) (inr j) t = rising_one xs r.1 e f i j t

-- two lists that rise and have the same entries
one_list : (xs ys : List ClaimEntry) → IsRising xs → IsRising ys → ((e : ClaimEntry) → IsIn e xs → IsIn e ys) → ((e : ClaimEntry) → IsIn e ys → IsIn e xs) → xs ≡ ys
one_list [] [] a b to from = refl
one_list [] (y ∷ ys) a b to from = absurd (from y (inl refl))
one_list (x ∷ xs) [] a b to from = absurd (to x (inl refl))
one_list (x ∷ xs) (y ∷ ys) a b to from = λ i. heads i ∷ one_list xs ys a.1 b.1 (λ e h. tail e (above_at x.ticket e xs a.0 h) (to e (inr h))) (λ e h. tail' e (above_at y.ticket e ys b.0 h) (from e (inr h))) i
  where
    heads : x ≡ y
    heads = at (to x (inl refl)) (from y (inl refl))
      where
        at : IsIn x (y ∷ ys) → IsIn y (x ∷ xs) → x ≡ y
        at (inl h) k = h
        at (inr h) (inl k) = sym k
        at (inr h) (inr k) = absurd (omega (arith, above_at y.ticket x ys b.0 h, above_at x.ticket y xs a.0 k))

    tail : (e : ClaimEntry) → x.ticket < e.ticket → IsIn e (y ∷ ys) → IsIn e ys
    tail e lt (inl h) = absurd (omega (arith, lt, ap (λ (z : ClaimEntry). z.ticket) (h ∙ sym heads)))
    tail e lt (inr h) = h

    tail' : (e : ClaimEntry) → y.ticket < e.ticket → IsIn e (x ∷ xs) → IsIn e xs
    tail' e lt (inl h) = absurd (omega (arith, lt, ap (λ (z : ClaimEntry). z.ticket) (h ∙ heads)))
    tail' e lt (inr h) = h

-- each set lies in a quadrant
lies_some : (set : Quarters) → (q : ℕ) × (q < 4) × (lies_in set q ≡ true)
lies_some set = three (has_cells set 3) refl
  where
    none : has_cells set 1 ≡ false → has_cells set 2 ≡ false → has_cells set 3 ≡ false → (b : Bool) → has_cells set 0 ≡ b → lies_in set 0 ≡ true
    none a b c true h = or_left (is_empty set && (0 == 0)) h
    none a b c false h = or_right (has_cells set 0) (λ i. not (((h i || a i) || b i) || c i) && (0 == 0))

    one : has_cells set 2 ≡ false → has_cells set 3 ≡ false → (b : Bool) → has_cells set 1 ≡ b → (q : ℕ) × (q < 4) × (lies_in set q ≡ true)
    one b c true h = (1, omega arith, or_left (is_empty set && (1 == 0)) h)
    one b c false h = (0, omega arith, none h b c (has_cells set 0) refl)

    two : has_cells set 3 ≡ false → (b : Bool) → has_cells set 2 ≡ b → (q : ℕ) × (q < 4) × (lies_in set q ≡ true)
    two c true h = (2, omega arith, or_left (is_empty set && (2 == 0)) h)
    two c false h = one h c (has_cells set 1) refl

    three : (b : Bool) → has_cells set 3 ≡ b → (q : ℕ) × (q < 4) × (lies_in set q ≡ true)
    three true h = (3, omega arith, or_left (is_empty set && (3 == 0)) h)
    three false h = two h (has_cells set 2) refl

module _ (sheets : List Spans) (sets : List Quarters) where
  freed_some : (t n : ℕ) (standing : List ClaimEntry) → list_any (λ f. (f.ticket == t) && (f.caller == n)) standing ≡ true → (q : ℕ) × (q < 4) × (list_any (λ f. (f.ticket == t) && is_in sets q f) standing ≡ true)
  freed_some t n [] h = absurd (differ (sym h))
  freed_some t n (f ∷ fs) h = at (or_either ((f.ticket == t) && (f.caller == n)) (list_any (λ g. (g.ticket == t) && (g.caller == n)) fs) h) (λ r. freed_some t n fs r)
    where
      at : (((f.ticket == t) && (f.caller == n)) ≡ true) ⊎ (list_any (λ g. (g.ticket == t) && (g.caller == n)) fs ≡ true) → (list_any (λ g. (g.ticket == t) && (g.caller == n)) fs ≡ true → (q : ℕ) × (q < 4) × (list_any (λ g. (g.ticket == t) && is_in sets q g) fs ≡ true))
          → (q : ℕ) × (q < 4) × (list_any (λ g. (g.ticket == t) && is_in sets q g) (f ∷ fs) ≡ true)
      at (inl e) r = let l = lies_some (claimed sets f.act) in (l.0, l.1, or_left (list_any (λ g. (g.ticket == t) && is_in sets l.0 g) fs) (and_from (f.ticket == t) (is_in sets l.0 f) (and_parts (f.ticket == t) (f.caller == n) e).0 l.2))
      at (inr e) r = let l = r e in (l.0, l.1, or_right ((f.ticket == t) && is_in sets l.0 f) l.2)

  -- each answered call touches a quadrant
  touch_some : (standing : List ClaimEntry) (n : ℕ) (a : ClaimAct) (b : Bool) → IsAnswer sheets standing n a b → (q : ℕ) × (q < 4) × (touches sets standing a b q ≡ true)
  touch_some standing n (act.Claim k) b h = lies_some (set_at sets k)
  touch_some standing n (act.Free t) true h = freed_some t n standing (sym h)
  touch_some standing n (act.Free t) false h = (0, omega arith, refl)

  -- the entries that touch a quadrant are entries
  touching_in : (q : ℕ) (standing log : List ClaimEntry) (e : ClaimEntry) → IsIn e (touching sets q standing log) → IsIn e log
  touching_in q standing [] e i = absurd i
  touching_in q standing (x ∷ xs) e i = at (touches sets standing x.act x.yes q) i (λ j. touching_in q (stood standing x) xs e j)
    where
      at : (b : Bool) → IsIn e (if b then x ∷ touching sets q (stood standing x) xs else touching sets q (stood standing x) xs) → (IsIn e (touching sets q (stood standing x) xs) → IsIn e xs) → IsIn e (x ∷ xs)
      at true (inl h) r = inl h
      at true (inr h) r = inr (r h)
      at false h r = inr (r h)

  touching_rises : (q : ℕ) (standing log : List ClaimEntry) → IsRising log → IsRising (touching sets q standing log)
  touching_rises q standing [] r = tt
  touching_rises q standing (x ∷ xs) r = at (touches sets standing x.act x.yes q) (touching_rises q (stood standing x) xs r.1)
    where
      at : (b : Bool) → IsRising (touching sets q (stood standing x) xs) → IsRising (if b then x ∷ touching sets q (stood standing x) xs else touching sets q (stood standing x) xs)
      at true rest = (above_from x.ticket (touching sets q (stood standing x) xs) (λ e i. above_at x.ticket e xs r.0 (touching_in q (stood standing x) xs e i)), rest)
      at false rest = rest

  -- and each entry touches one
  touching_all : (standing log : List ClaimEntry) (n : ℕ) (e : ClaimEntry) → IsHistoryFrom sheets standing n log → IsIn e log → (q : ℕ) × (q < 4) × IsIn e (touching sets q standing log)
  touching_all standing [] n e h i = absurd i
  touching_all standing (x ∷ xs) n e h (inl i) = let t = touch_some standing x.caller x.act x.yes h.1 in (t.0, t.1, subst (λ (b : Bool). IsIn e (if b then x ∷ touching sets t.0 (stood standing x) xs else touching sets t.0 (stood standing x) xs)) (sym t.2) (inl i))
  touching_all standing (x ∷ xs) n e h (inr i) = let r = touching_all (stood standing x) xs (suc n) e h.2 i in (r.0, r.1, at r.0 (touches sets standing x.act x.yes r.0) r.2)
    where
      at : (q : ℕ) (b : Bool) → IsIn e (touching sets q (stood standing x) xs) → IsIn e (if b then x ∷ touching sets q (stood standing x) xs else touching sets q (stood standing x) xs)
      at q true j = inr j
      at q false j = j

  module _ (log a b c d : List ClaimEntry) (first : a ≡ of_quadrant sets 0 log) (second : b ≡ of_quadrant sets 1 log) (third : c ≡ of_quadrant sets 2 log) (fourth : d ≡ of_quadrant sets 3 log) (h : IsHistoryFrom sheets [] 0 log) where
    rises : IsRising log
    rises = history_rises sheets [] log 0 h

    pub list_rises : (q : ℕ) (l : List ClaimEntry) → l ≡ of_quadrant sets q log → IsRising l
    list_rises q l e = subst IsRising (sym e) (touching_rises q [] log rises)

    list_in : (q : ℕ) (l : List ClaimEntry) → l ≡ of_quadrant sets q log → (e : ClaimEntry) → IsIn e l → IsIn e log
    list_in q l is' e i = touching_in q [] log e (subst (IsIn e) is' i)

    four_in : (e : ClaimEntry) → IsIn e ((a ++ b) ++ (c ++ d)) → IsIn e log
    four_in e i =
        ⊎_elim (λ l. ⊎_elim (λ k. list_in 0 a first e k) (λ k. list_in 1 b second e k) (in_parts e a b l))
        (λ l. ⊎_elim (λ k. list_in 2 c third e k) (λ k. list_in 3 d fourth e k) (in_parts e c d l)) (in_parts e (a ++ b) (c ++ d) i)

    in_four : (e : ClaimEntry) → IsIn e log → IsIn e ((a ++ b) ++ (c ++ d))
    in_four e i = let t = touching_all [] log 0 e h i in at t.0 t.1 t.2
      where
        at : (q : ℕ) → q < 4 → IsIn e (of_quadrant sets q log) → IsIn e ((a ++ b) ++ (c ++ d))
        at zero lt j = in_left e (a ++ b) (c ++ d) (in_left e a b (subst (IsIn e) (sym first) j))
        at (suc zero) lt j = in_left e (a ++ b) (c ++ d) (in_right e a b (subst (IsIn e) (sym second) j))
        at (suc (suc zero)) lt j = in_right e (a ++ b) (c ++ d) (in_left e c d (subst (IsIn e) (sym third) j))
        at (suc (suc (suc zero))) lt j = in_right e (a ++ b) (c ++ d) (in_right e c d (subst (IsIn e) (sym fourth) j))
        at (suc (suc (suc (suc q)))) lt j = absurd (omega (arith, lt))

    pub four_one : AreOne ((a ++ b) ++ (c ++ d))
    four_one e f i j t = rising_one log rises e f (four_in e i) (four_in f j) t

    pub merged_is : (m : List ClaimEntry) → IsMerge ((a ++ b) ++ (c ++ d)) m → m ≡ log
    merged_is m r = one_list m log r.rising rises (λ e i. four_in e (r.none_else e i)) (λ e i. r.all e (in_four e i))
