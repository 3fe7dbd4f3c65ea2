-- Merging two lists of entries.
use Rattle.std.proofs.Common.{◌-◌, take, ◌≡◌, ◌⊎◌, ℕ, zero, suc, ◌+◌, ◌<◌, ◌≤◌, List, [], ◌∷◌, ◌++◌, length, drop, drop-cons, get_or, refl, sym, ap, ◌∙◌, subst, ⊎_elim, inl, inr, arith, append_assoc}
use Rattle.std.proofs.lemmas.List.{append-nil}
use Rattle.aim_shards.specs.declared.claims.ClaimEntry.{ClaimEntry}
use Rattle.aim_shards.specs.Merging.{IsIn, AreAbove, IsRising, AreOne, IsMerge}
use Rattle.aim_shards.specs.Left.{IsLeft}
use Rattle.aim_shards.proofs.Lines.{next_of_suc}

pub in_left : (e : ClaimEntry) (xs ys : List ClaimEntry) → IsIn e xs → IsIn e (xs ++ ys)
in_left e [] ys h = absurd h
in_left e (x ∷ xs) ys (inl h) = inl h
in_left e (x ∷ xs) ys (inr h) = inr (in_left e xs ys h)

pub in_right : (e : ClaimEntry) (xs ys : List ClaimEntry) → IsIn e ys → IsIn e (xs ++ ys)
in_right e [] ys h = h
in_right e (x ∷ xs) ys h = inr (in_right e xs ys h)

pub in_parts : (e : ClaimEntry) (xs ys : List ClaimEntry) → IsIn e (xs ++ ys) → IsIn e xs ⊎ IsIn e ys
in_parts e [] ys h = inr h
in_parts e (x ∷ xs) ys (inl h) = inl (inl h)
in_parts e (x ∷ xs) ys (inr h) = ⊎_elim (λ a. inl (inr a)) (λ b. inr b) (in_parts e xs ys h)

pub above_at : (t : ℕ) (e : ClaimEntry) (xs : List ClaimEntry) → AreAbove t xs → IsIn e xs → t < e.ticket
above_at t e [] a h = absurd h
above_at t e (x ∷ xs) a (inl h) = subst (λ (y : ClaimEntry). t < y.ticket) (sym h) a.0
above_at t e (x ∷ xs) a (inr h) = above_at t e xs a.1 h

pub above_from : (t : ℕ) (xs : List ClaimEntry) → ((e : ClaimEntry) → IsIn e xs → t < e.ticket) → AreAbove t xs
above_from t [] h = tt
above_from t (x ∷ xs) h = (h x (inl refl), above_from t xs (λ e i. h e (inr i)))

-- two lists that rise, the second above the first
rising_join : (xs ys : List ClaimEntry) → IsRising xs → IsRising ys → ((e f : ClaimEntry) → IsIn e xs → IsIn f ys → e.ticket < f.ticket) → IsRising (xs ++ ys)
rising_join [] ys a b h = b
rising_join (x ∷ xs) ys a b h = (above_from x.ticket (xs ++ ys) (λ e i. ⊎_elim (λ l. above_at x.ticket e xs a.0 l) (λ r. h x e (inl refl) r) (in_parts e xs ys i)), rising_join xs ys a.1 b (λ e f i j. h e f (inr i) j))

one_in : (e x : ClaimEntry) → IsIn e (x ∷ []) → e ≡ x
one_in e x (inl h) = h
one_in e x (inr h) = absurd h

-- one entry more
step : (all m xs ys xs' ys' : List ClaimEntry) (x : ClaimEntry) → IsLeft all m xs ys → IsIn x (xs ++ ys) → ((e : ClaimEntry) → IsIn e (xs' ++ ys') → x.ticket < e.ticket) → ((e : ClaimEntry) → IsIn e (xs ++ ys) → (e ≡ x) ⊎ IsIn e (xs' ++ ys')) → ((e : ClaimEntry) → IsIn e (xs' ++ ys') → IsIn e (xs ++ ys)) → IsRising xs' → IsRising ys' → IsLeft all (m ++ x ∷ []) xs' ys'
step all m xs ys xs' ys' x l there lower gone within rx ry = record {
  rising = rising_join m (x ∷ []) l.rising (tt, tt) (λ e f i j. l.above e f i (subst (λ (y : ClaimEntry). IsIn y (xs ++ ys)) (sym (one_in f x j)) there));
  rising_xs = rx;
  rising_ys = ry;
  above = λ e f i j. ⊎_elim (λ a. l.above e f a (within f j)) (λ b. subst (λ (y : ClaimEntry). y.ticket < f.ticket) (sym (one_in e x b)) (lower f j)) (in_parts e m (x ∷ []) i);
  each = λ e i. ⊎_elim (λ a. inl (in_left e m (x ∷ []) a)) (λ b. ⊎_elim (λ s. inl (in_right e m (x ∷ []) (inl s))) (λ r. inr r) (gone e b)) (l.each e i);
  merged_in = λ e i. ⊎_elim (λ a. l.merged_in e a) (λ b. l.rest_in e (subst (λ (y : ClaimEntry). IsIn y (xs ++ ys)) (sym (one_in e x b)) there)) (in_parts e m (x ∷ []) i);
  rest_in = λ e i. l.rest_in e (within e i);
}

-- the first entry of the first list comes
step_left : (all m xs ys : List ClaimEntry) (x y : ClaimEntry) → IsLeft all m (x ∷ xs) (y ∷ ys) → x.ticket < y.ticket → IsLeft all (m ++ x ∷ []) xs (y ∷ ys)
step_left all m xs ys x y l lt =
    step all m (x ∷ xs) (y ∷ ys) xs (y ∷ ys) x l (inl refl)
    (λ e i. ⊎_elim (λ a. above_at x.ticket e xs l.rising_xs.0 a) (λ b. lower e b) (in_parts e xs (y ∷ ys) i))
    (λ e i. i) (λ e i. inr i) l.rising_xs.1 l.rising_ys
  where
    lower : (e : ClaimEntry) → IsIn e (y ∷ ys) → x.ticket < e.ticket
    lower e (inl h) = subst (λ (z : ClaimEntry). x.ticket < z.ticket) (sym h) lt
    lower e (inr h) = omega (arith, lt, above_at y.ticket e ys l.rising_ys.0 h)

step_right : (all m xs ys : List ClaimEntry) (x y : ClaimEntry) → IsLeft all m (x ∷ xs) (y ∷ ys) → y.ticket < x.ticket → IsLeft all (m ++ y ∷ []) (x ∷ xs) ys
step_right all m xs ys x y l lt =
    step all m (x ∷ xs) (y ∷ ys) (x ∷ xs) ys y l (in_right y (x ∷ xs) (y ∷ ys) (inl refl))
    (λ e i. ⊎_elim (λ a. lower e a) (λ b. above_at y.ticket e ys l.rising_ys.0 b) (in_parts e (x ∷ xs) ys i))
    (λ e i. ⊎_elim (λ a. inr (in_left e (x ∷ xs) ys a)) (λ b. second e b) (in_parts e (x ∷ xs) (y ∷ ys) i))
    (λ e i. ⊎_elim (λ a. in_left e (x ∷ xs) (y ∷ ys) a) (λ b. in_right e (x ∷ xs) (y ∷ ys) (inr b)) (in_parts e (x ∷ xs) ys i))
    l.rising_xs l.rising_ys.1
  where
    lower : (e : ClaimEntry) → IsIn e (x ∷ xs) → y.ticket < e.ticket
    lower e (inl h) = subst (λ (z : ClaimEntry). y.ticket < z.ticket) (sym h) lt
    lower e (inr h) = omega (arith, lt, above_at x.ticket e xs l.rising_xs.0 h)

    second : (e : ClaimEntry) → IsIn e (y ∷ ys) → (e ≡ y) ⊎ IsIn e ((x ∷ xs) ++ ys)
    second e (inl h) = inl h
    second e (inr h) = inr (in_right e (x ∷ xs) ys h)

-- one entry that both lists have
step_both : (all m xs ys : List ClaimEntry) (x y : ClaimEntry) → IsLeft all m (x ∷ xs) (y ∷ ys) → y ≡ x → IsLeft all (m ++ x ∷ []) xs ys
step_both all m xs ys x y l same =
    step all m (x ∷ xs) (y ∷ ys) xs ys x l (inl refl)
    (λ e i. ⊎_elim (λ a. above_at x.ticket e xs l.rising_xs.0 a) (λ b. subst (λ (z : ClaimEntry). z.ticket < e.ticket) same (above_at y.ticket e ys l.rising_ys.0 b)) (in_parts e xs ys i))
    (λ e i. ⊎_elim (λ a. first e a) (λ b. second e b) (in_parts e (x ∷ xs) (y ∷ ys) i))
    (λ e i. ⊎_elim (λ a. in_left e (x ∷ xs) (y ∷ ys) (inr a)) (λ b. in_right e (x ∷ xs) (y ∷ ys) (inr b)) (in_parts e xs ys i))
    l.rising_xs.1 l.rising_ys.1
  where
    first : (e : ClaimEntry) → IsIn e (x ∷ xs) → (e ≡ x) ⊎ IsIn e (xs ++ ys)
    first e (inl h) = inl h
    first e (inr h) = inr (in_left e xs ys h)

    second : (e : ClaimEntry) → IsIn e (y ∷ ys) → (e ≡ x) ⊎ IsIn e (xs ++ ys)
    second e (inl h) = inl (h ∙ same)
    second e (inr h) = inr (in_right e xs ys h)

pub left_all : (xs ys : List ClaimEntry) → IsRising xs → IsRising ys → IsLeft (xs ++ ys) [] xs ys
left_all xs ys a b = record { rising = tt; rising_xs = a; rising_ys = b; above = λ e f i j. absurd i; each = λ e i. inr i; merged_in = λ e i. absurd i; rest_in = λ e i. i }

-- where nothing is left of one list, the other's rest ends it
pub merge_ends : (all m m' xs ys : List ClaimEntry) → IsLeft all m xs ys → (xs ≡ []) ⊎ (ys ≡ []) → m' ≡ (m ++ xs) ++ ys → IsMerge all m'
merge_ends all m m' xs ys l none e = subst (IsMerge all) (sym (e ∙ append_assoc m xs ys)) record {
  rising = rising_join m (xs ++ ys) l.rising (rest none) l.above;
  all = λ x i. ⊎_elim (λ a. in_left x m (xs ++ ys) a) (λ b. in_right x m (xs ++ ys) b) (l.each x i);
  none_else = λ x i. ⊎_elim (λ a. l.merged_in x a) (λ b. l.rest_in x b) (in_parts x m (xs ++ ys) i);
}
  where
    rest : (xs ≡ []) ⊎ (ys ≡ []) → IsRising (xs ++ ys)
    rest (inl h) = subst (λ (l : List ClaimEntry). IsRising (l ++ ys)) (sym h) l.rising_ys
    rest (inr h) = subst (λ (l : List ClaimEntry). IsRising (xs ++ l)) (sym h) (subst IsRising (sym (append-nil xs)) l.rising_xs)

-- the steps, at places in the lists
module _ (all left right : List ClaimEntry) (m m' : List ClaimEntry) (i j : ℕ) (d : ClaimEntry) (li : i < length left) (lj : j < length right) (l : IsLeft all m (drop i left) (drop j right)) where
  abbrev x : ClaimEntry
  x = get_or left i d

  abbrev y : ClaimEntry
  y = get_or right j d

  heads_left : drop i left ≡ x ∷ drop (i + 1) left
  heads_left = drop-cons left i d li ∙ ap (λ k. x ∷ drop k left) (sym (next_of_suc i))

  heads_right : drop j right ≡ y ∷ drop (j + 1) right
  heads_right = drop-cons right j d lj ∙ ap (λ k. y ∷ drop k right) (sym (next_of_suc j))

  both : IsLeft all m (x ∷ drop (i + 1) left) (y ∷ drop (j + 1) right)
  both = subst (λ (p : List ClaimEntry × List ClaimEntry). IsLeft all m p.0 p.1) (λ k. (heads_left k, heads_right k)) l

  pub goes_left : x.ticket < y.ticket → m' ≡ m ++ x ∷ [] → IsLeft all m' (drop (i + 1) left) (drop j right)
  goes_left lt e = subst (λ (p : List ClaimEntry × List ClaimEntry). IsLeft all p.0 (drop (i + 1) left) p.1) (λ k. (sym e k, sym heads_right k)) (step_left all m (drop (i + 1) left) (drop (j + 1) right) x y both lt)

  pub goes_right : y.ticket < x.ticket → m' ≡ m ++ y ∷ [] → IsLeft all m' (drop i left) (drop (j + 1) right)
  goes_right lt e = subst (λ (p : List ClaimEntry × List ClaimEntry). IsLeft all p.0 p.1 (drop (j + 1) right)) (λ k. (sym e k, sym heads_left k)) (step_right all m (drop (i + 1) left) (drop (j + 1) right) x y both lt)

  pub goes_both : AreOne all → x.ticket ≡ y.ticket → m' ≡ m ++ x ∷ [] → IsLeft all m' (drop (i + 1) left) (drop (j + 1) right)
  goes_both one t e =
      let same : y ≡ x = one y x (both.rest_in y (in_right y (x ∷ drop (i + 1) left) (y ∷ drop (j + 1) right) (inl refl))) (both.rest_in x (inl refl)) (sym t) in
      subst (λ (p : List ClaimEntry). IsLeft all p (drop (i + 1) left) (drop (j + 1) right)) (sym e) (step_both all m (drop (i + 1) left) (drop (j + 1) right) x y both same)

pub drop_past : (xs : List ClaimEntry) (i : ℕ) → length xs ≤ i → drop i xs ≡ []
drop_past [] zero le = refl
drop_past [] (suc i) le = refl
drop_past (x ∷ xs) zero le = absurd (omega arith)
drop_past (x ∷ xs) (suc i) le = drop_past xs i (omega arith)

-- lists of which the parts are merged
pub merge_parts : (a b m n all : List ClaimEntry) → IsMerge a m → IsMerge b n → IsMerge (m ++ n) all → IsMerge (a ++ b) all
merge_parts a b m n all p q r = record {
  rising = r.rising;
  all = λ e i. r.all e (⊎_elim (λ h. in_left e m n (p.all e h)) (λ h. in_right e m n (q.all e h)) (in_parts e a b i));
  none_else = λ e i. ⊎_elim (λ h. in_left e a b (p.none_else e h)) (λ h. in_right e a b (q.none_else e h)) (in_parts e m n (r.none_else e i));
}

pub one_left : (a b : List ClaimEntry) → AreOne (a ++ b) → AreOne a
one_left a b one e f i j t = one e f (in_left e a b i) (in_left f a b j) t

pub one_right : (a b : List ClaimEntry) → AreOne (a ++ b) → AreOne b
one_right a b one e f i j t = one e f (in_right e a b i) (in_right f a b j) t

pub one_parts : (a b m n : List ClaimEntry) → IsMerge a m → IsMerge b n → AreOne (a ++ b) → AreOne (m ++ n)
one_parts a b m n p q one e f i j t = one e f (within e i) (within f j) t
  where
    within : (e : ClaimEntry) → IsIn e (m ++ n) → IsIn e (a ++ b)
    within e i = ⊎_elim (λ h. in_left e a b (p.none_else e h)) (λ h. in_right e a b (q.none_else e h)) (in_parts e m n i)

take_whole : (xs : List ClaimEntry) (n : ℕ) → length xs ≤ n → take n xs ≡ xs
take_whole [] zero le = refl
take_whole [] (suc n) le = refl
take_whole (x ∷ xs) zero le = absurd (omega arith)
take_whole (x ∷ xs) (suc n) le = ap (λ l. x ∷ l) (take_whole xs n (omega arith))

drop_length : (xs : List ClaimEntry) (i : ℕ) → length (drop i xs) ≤ length xs - i
drop_length [] zero = omega arith
drop_length [] (suc i) = omega arith
drop_length (x ∷ xs) zero = omega arith
drop_length (x ∷ xs) (suc i) = omega (arith, drop_length xs i)

pub rest_all : (xs : List ClaimEntry) (i : ℕ) → take (length xs - i) (drop i xs) ≡ drop i xs
rest_all xs i = take_whole (drop i xs) (length xs - i) (drop_length xs i)

-- four lists, read through slices
pub one_of_four : {a b c d a' b' c' d' m n : List ClaimEntry} → a' ≡ a → b' ≡ b → c' ≡ c → d' ≡ d → IsMerge (a' ++ b') m → IsMerge (c' ++ d') n → AreOne ((a ++ b) ++ (c ++ d)) → AreOne (m ++ n)
one_of_four {a = a} {b = b} {c = c} {d = d} {m = m} {n = n} ea eb ec ed p q one = one_parts (a ++ b) (c ++ d) m n (subst (λ l. IsMerge l m) (λ i. ea i ++ eb i) p) (subst (λ l. IsMerge l n) (λ i. ec i ++ ed i) q) one

pub merge_four : {a b c d a' b' c' d' m n m' n' all : List ClaimEntry} → a' ≡ a → b' ≡ b → c' ≡ c → d' ≡ d → IsMerge (a' ++ b') m → IsMerge (c' ++ d') n → m' ≡ m → n' ≡ n → IsMerge (m' ++ n') all → IsMerge ((a ++ b) ++ (c ++ d)) all
merge_four {a = a} {b = b} {c = c} {d = d} {m = m} {n = n} {all = all} ea eb ec ed p q em en r =
    merge_parts (a ++ b) (c ++ d) m n all (subst (λ l. IsMerge l m) (λ i. ea i ++ eb i) p) (subst (λ l. IsMerge l n) (λ i. ec i ++ ed i) q) (subst (λ l. IsMerge l all) (λ i. em i ++ en i) r)
