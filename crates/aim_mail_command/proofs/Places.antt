-- Lists whose elements belong to one another, place by place.
use Rattle.std.proofs.Common.{◌≡◌, ℕ, zero, suc, ◌+◌, ◌<◌, ◌≤◌, inl, inr, List, [], ◌∷◌, length, map, get_or, refl, sym, ◌∙◌, subst, arith}
use Rattle.std.specs.Prelude.{All}
use Rattle.std.proofs.Math.ListN.{set}
use Rattle.std.proofs.lemmas.Bool.{cases_eq}
use Rattle.std.proofs.lemmas.List.{get_or-map, get_or-set_other, get_or-set_same, get_or_default, get_or_read, length-map, length-set}
use Rattle.aim_mail_command.specs.Calling.{AllByPlace}

module _ {A : Type 0} where
  -- an element of a list of which all have it
  pub one_of : (P : A → Type 0) (xs : List A) (k : ℕ) (x : A) → All P xs → k < length xs → x ≡ get_or xs k x → P x
  one_of P xs k x all lt is = subst P (sym is) (all k x lt)

  -- there is an element at each place within
  pub element : (xs : List A) (k : ℕ) → k < length xs → (x : A) × (get_or xs k x ≡ x)
  element [] k lt = absurd (omega (arith, lt))
  element (x ∷ xs) zero lt = (x, refl)
  element (x ∷ xs) (suc k) lt = element xs k (omega (arith, lt))

  -- R holds of the first n elements, before and after, and the others are as before
  pub record Done (R : A → A → Type 0) (n : ℕ) (xs ys : List A) : Type 0 where
    pub len : length ys ≡ length xs
    pub each : (k : ℕ) (d e : A) → k < n → R (get_or xs k d) (get_or ys k e)
    pub others : (k : ℕ) (d : A) → n ≤ k → get_or ys k d ≡ get_or xs k d

  pub done_none : (R : A → A → Type 0) (xs : List A) → Done R 0 xs xs
  done_none R xs = record { len = refl; each = λ k d e lt. absurd (omega (arith, lt)); others = λ k d le. refl }

  -- the element at n, which is as before
  pub item_is : (R : A → A → Type 0) (n : ℕ) (xs ys : List A) (a : A) → Done R n xs ys → n < length ys → a ≡ get_or ys n a → (d : A) → a ≡ get_or xs n d
  item_is R n xs ys a p lt is d = get_or_read ys n a lt is d ∙ p.others n d (omega arith)

  pub done_more : (R : A → A → Type 0) (n : ℕ) (xs ys : List A) (a v : A) → Done R n xs ys → n < length ys → a ≡ get_or ys n a → R a v → Done R (n + 1) xs (set ys n v)
  done_more R n xs ys a v p lt is r =
      record {
        len = length-set ys n v ∙ p.len;
        each = λ k d e l.
            elim (cases_eq k n) [
              | inl same ↦
                  subst (λ m. R (get_or xs m d) (get_or (set ys n v) m e)) (sym same)
                  (subst (λ b. R (get_or xs n d) b) (sym (get_or-set_same ys n v e lt))
                  (subst (λ x. R x v) (item_is R n xs ys a p lt is d) r))
              | inr ne ↦ subst (λ b. R (get_or xs k d) b) (sym (get_or-set_other ys n k v e ne)) (p.each k d e (omega arith))
            ];
        others = λ k d le. get_or-set_other ys n k v d (λ e. absurd (omega arith)) ∙ p.others k d (omega arith);
      }

  -- with what is said less
  pub done_as : (R S : A → A → Type 0) (n : ℕ) (xs ys : List A) → Done R n xs ys → ((a b : A) → R a b → S a b) → Done S n xs ys
  done_as R S n xs ys p f = record { len = p.len; each = λ k d e lt. f (get_or xs k d) (get_or ys k e) (p.each k d e lt); others = p.others }

  pub done_all : (R : A → A → Type 0) (n : ℕ) (xs ys : List A) → Done R n xs ys → length xs ≤ n → AllByPlace R xs ys
  done_all R n xs ys p le = record { len = p.len; each = λ k d e lt. p.each k d e (omega (arith, le, lt)) }

  -- one default is enough
  pub by_default : (R : A → A → Type 0) (xs ys : List A) → length ys ≡ length xs → ((k : ℕ) (d : A) → k < length xs → R (get_or xs k d) (get_or ys k d)) → AllByPlace R xs ys
  by_default R xs ys len each = record {
    len = len;
    each = λ k d e lt. subst (λ y. R (get_or xs k d) y) (get_or_default ys k d e (omega (arith, len, lt))) (each k d lt);
  }

  pub by_place_self : (R : A → A → Type 0) (P : A → Type 0) (xs : List A) → All P xs → ((a : A) → P a → R a a) → AllByPlace R xs xs
  by_place_self R P xs all f = by_default R xs xs refl (λ k d lt. f (get_or xs k d) (all k d lt))

  -- what comes of the second list
  pub all_second : (R : A → A → Type 0) (P : A → Type 0) (xs ys : List A) → AllByPlace R xs ys → ((a b : A) → R a b → P b) → All P ys
  all_second R P xs ys r f k d lt =
      let n : length ys ≡ length xs = r.len in
      f (get_or xs k d) (get_or ys k d) (r.each k d d (omega (arith, n, lt)))

  pub by_place_then : (R S T : A → A → Type 0) (xs ys zs : List A) → AllByPlace R xs ys → AllByPlace S ys zs → ((a b c : A) → R a b → S b c → T a c) → AllByPlace T xs zs
  by_place_then R S T xs ys zs r s f = record {
    len = s.len ∙ r.len;
    each = λ k d e lt.
        let n : length ys ≡ length xs = r.len in
        f (get_or xs k d) (get_or ys k d) (get_or zs k e) (r.each k d d lt) (s.each k d e (omega (arith, n, lt)));
  }

-- of the second list a value is taken of each element
pub by_place_map : {A B C : Type 0} (R : A → B → Type 0) (S : A → C → Type 0) (f : B → C) (xs : List A) (ys : List B) (zs : List C) → AllByPlace R xs ys → zs ≡ map f ys → ((a : A) (b : B) → R a b → S a (f b)) → AllByPlace S xs zs
by_place_map R S f xs ys zs r is g = subst (λ l. AllByPlace S xs l) (sym is) (record {
  len = length-map ys f ∙ r.len;
  each = λ k d e lt.
      let n : length ys ≡ length xs = r.len in
      let at : k < length ys = omega (arith, n, lt) in
      let y = element ys k at in
      subst (λ z. S (get_or xs k d) z) (sym (get_or-map f ys k y.0 e at)) (g (get_or xs k d) (get_or ys k y.0) (r.each k d y.0 lt));
})
