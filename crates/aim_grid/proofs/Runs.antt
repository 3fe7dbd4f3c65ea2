-- The turns of many travellers, put together.
use Rattle.std.proofs.Common.{◌≡◌, ℕ, ◌+◌, ◌-◌, ◌*◌, ◌/◌, ◌%◌, ◌<◌, ◌≤◌, inl, inr, List, length, take, drop, get_or, refl, sym, ap, ◌∙◌, subst, arith}
use Rattle.std.specs.Fork.{slice_chunk}
use Rattle.std.specs.Prelude.{All, min}
use Rattle.std.proofs.Math.ListN.{set}
use Rattle.std.proofs.Math.Nat.{mul_comm}
use Rattle.std.proofs.lemmas.Bool.{cases_eq}
use Rattle.std.proofs.lemmas.List.{length-set, get_or-set_same, get_or-set_other, get_or-take, get_or-drop, get_or_read, length-take, length-drop}
use Rattle.aim_grid.specs.Models.{TravellerModel}
use Rattle.aim_grid.specs.Rode.{Managers}
use Rattle.aim_grid.specs.Travels.{IsReady, Moves, Travels}

module _ (ms : Managers) where
  moves_none : (step : ℕ) (t : TravellerModel) → IsReady ms step t → Moves ms step step t t
  moves_none step t r = record { vehicle = refl; ready = r; rode = λ first legs h. h }

  moves_then : (first mid last : ℕ) (t u v : TravellerModel) → Moves ms first mid t u → Moves ms mid last u v → Moves ms first last t v
  moves_then first mid last t u v p q = record { vehicle = q.vehicle ∙ p.vehicle; ready = q.ready; rode = λ from legs h. q.rode from legs (p.rode from legs h) }

  pub travels_none : (step : ℕ) (ts : List TravellerModel) → All (IsReady ms step) ts → Travels ms step step ts ts
  travels_none step ts ready = record { len = refl; each = λ k d lt. moves_none step (get_or ts k d) (ready k d lt) }

  pub travels_then : (first mid last : ℕ) (ts us vs : List TravellerModel) → Travels ms first mid ts us → Travels ms mid last us vs → Travels ms first last ts vs
  travels_then first mid last ts us vs p q =
      let a : length us ≡ length ts = p.len in
      record {
        len = q.len ∙ p.len;
        each = λ k d lt. moves_then first mid last (get_or ts k d) (get_or us k d) (get_or vs k d) (p.each k d lt) (q.each k d (omega arith));
      }

  pub all_ready : (first last : ℕ) (ts us : List TravellerModel) → Travels ms first last ts us → All (IsReady ms last) us
  all_ready first last ts us p k d lt = let a : length us ≡ length ts = p.len in (p.each k d (omega arith)).ready

  pub no_travellers : (first last : ℕ) (ts : List TravellerModel) → length ts ≡ 0 → Travels ms first last ts ts
  no_travellers first last ts none = record { len = refl; each = λ k d lt. absurd (omega arith) }

  -- the first n of a run took their turns, and the others are as before
  pub record Turned (step n : ℕ) (xs ys : List TravellerModel) : Type 0 where
    pub len : length ys ≡ length xs
    pub each : (k : ℕ) (d : TravellerModel) → k < n → Moves ms step (step + 1) (get_or xs k d) (get_or ys k d)
    pub others : (k : ℕ) (d : TravellerModel) → n ≤ k → get_or ys k d ≡ get_or xs k d

  pub turned_none : (step : ℕ) (xs : List TravellerModel) → Turned step 0 xs xs
  turned_none step xs = record { len = refl; each = λ k d lt. absurd (omega arith); others = λ k d le. refl }

  -- the one at n, which is as before
  item_is : (step n : ℕ) (xs ys : List TravellerModel) (a : TravellerModel) → Turned step n xs ys → n < length ys → a ≡ get_or ys n a → (d : TravellerModel) → a ≡ get_or xs n d
  item_is step n xs ys a p lt is d = get_or_read ys n a lt is d ∙ p.others n d (omega arith)

  pub item_ready : (step n : ℕ) (xs ys : List TravellerModel) (a : TravellerModel) → All (IsReady ms step) xs → Turned step n xs ys → n < length ys → a ≡ get_or ys n a → IsReady ms step a
  item_ready step n xs ys a ready p lt is =
      subst (λ (x : TravellerModel). IsReady ms step x) (sym (item_is step n xs ys a p lt is a)) (ready n a (subst (λ m. n < m) p.len lt))

  pub turned_more : (step n : ℕ) (xs ys : List TravellerModel) (a v : TravellerModel) → Turned step n xs ys → n < length ys → a ≡ get_or ys n a → Moves ms step (step + 1) a v → Turned step (n + 1) xs (set ys n v)
  turned_more step n xs ys a v p lt is r =
      record {
        len = length-set ys n v ∙ p.len;
        each = λ k d l.
            elim (cases_eq k n) [
              | inl e ↦
                  subst (λ m. Moves ms step (step + 1) (get_or xs m d) (get_or (set ys n v) m d)) (sym e)
                  (subst (λ (b : TravellerModel). Moves ms step (step + 1) (get_or xs n d) b) (sym (get_or-set_same ys n v d lt))
                  (subst (λ (x : TravellerModel). Moves ms step (step + 1) x v) (item_is step n xs ys a p lt is d) r))
              | inr ne ↦ subst (λ (b : TravellerModel). Moves ms step (step + 1) (get_or xs k d) b) (sym (get_or-set_other ys n k v d ne)) (p.each k d (omega arith))
            ];
        others = λ k d le. get_or-set_other ys n k v d (λ e. absurd (omega arith)) ∙ p.others k d (omega arith);
      }

  pub all_turned : (step n : ℕ) (xs ys : List TravellerModel) → length xs ≤ n → Turned step n xs ys → Travels ms step (step + 1) xs ys
  all_turned step n xs ys le p = record { len = p.len; each = λ k d lt. p.each k d (omega arith) }

  chunk_at : (xs : List TravellerModel) (size n i : ℕ) (d : TravellerModel) → i < size → get_or (slice_chunk xs size n) i d ≡ get_or xs (n * size + i) d
  chunk_at xs size n i d lt = get_or-take size (drop (n * size) xs) i d lt ∙ get_or-drop (n * size) xs i d

  chunk_length : (xs : List TravellerModel) (size n i : ℕ) → i < size → n * size + i < length xs → i < length (slice_chunk xs size n)
  chunk_length xs size n i small lt =
      let p = n * size in
      let e = length-take size (drop p xs) in
      let f = length-drop p xs in
      chunk_room p size i (length xs) (length (take size (drop p xs))) (e ∙ ap (λ m. min size m) f) small lt
    where
      chunk_room : (p size i whole len : ℕ) → len ≡ min size (whole - p) → i < size → p + i < whole → i < len
      chunk_room p size i whole len is small lt = omega (arith, is)

  -- the runs of `size` neighbours, put together
  pub chunks_turned : (step size : ℕ) (xs ys : List TravellerModel) → 0 < size → length ys ≡ length xs
      → ((n : ℕ) → n * size < length xs → Travels ms step (step + 1) (slice_chunk xs size n) (slice_chunk ys size n)) → Travels ms step (step + 1) xs ys
  chunks_turned step size xs ys some len went =
      record {
        len = len;
        each = λ k d l.
            let n = k / size in
            let i = k % size in
            let small : i < size = omega arith in
            let whole : size * n + i ≡ k = omega arith in
            let at : n * size + i ≡ k = ap (λ m. m + i) (mul_comm n size) ∙ whole in
            let low : n * size < length xs = below (n * size) i k (length xs) at l in
            subst (λ m. Moves ms step (step + 1) (get_or xs m d) (get_or ys m d)) at
            (subst (λ (x : TravellerModel). Moves ms step (step + 1) x (get_or ys (n * size + i) d)) (chunk_at xs size n i d small)
            (subst (λ (y : TravellerModel). Moves ms step (step + 1) (get_or (slice_chunk xs size n) i d) y) (chunk_at ys size n i d small)
            ((went n low).each i d (chunk_length xs size n i small (subst (λ m. m < length xs) (sym at) l)))));
      }
    where
      below : (p i k whole : ℕ) → p + i ≡ k → k < whole → p < whole
      below p i k whole at l = omega (arith, at)

  -- parts of travellers that are ready are ready
  pub chunk_ready : (step size : ℕ) (xs : List TravellerModel) → All (IsReady ms step) xs → (n : ℕ) → n * size < length xs → All (IsReady ms step) (slice_chunk xs size n)
  chunk_ready step size xs ready n low k d lt =
      let p = n * size in
      let e = length-take size (drop p xs) in
      let f = length-drop p xs in
      let m = inside p size k (length xs) (length (take size (drop p xs))) (e ∙ ap (λ m. min size m) f) lt in
      subst (λ (x : TravellerModel). IsReady ms step x) (sym (chunk_at xs size n k d m.0)) (ready (n * size + k) d m.1)
    where
      inside : (p size i whole len : ℕ) → len ≡ min size (whole - p) → i < len → (i < size) × (p + i < whole)
      inside p size i whole len is lt = (omega (arith, is), omega (arith, is))
