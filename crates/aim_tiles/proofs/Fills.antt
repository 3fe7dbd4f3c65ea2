-- What a list of words has after some of them are set to 0.
use Rattle.std.proofs.Common.{◌≡◌, ℕ, ◌+◌, ◌-◌, ◌<◌, ◌≤◌, List, ◌++◌, length, get_or, take, drop, replicate, refl, sym, ap, ◌∙◌, arith}
use Rattle.std.proofs.lemmas.List.{get_or-take, get_or-drop, get_or_append_left, get_or-append_right, get_or-replicate, length-take, length-drop, length-append, length-replicate, take-append-le, take_all}
use Rattle.std.proofs.lemmas.Slice.{put_mid-paste}
use Rattle.std.proofs.lemmas.List.Edits.{length-paste}
use borrow.Rule.Slice.PartMut.{put_mid}

-- the words of a vector, as many as len, where those of a page are now part
module _ (items now part : List ℕ) (len page size : ℕ) (same : now ≡ items) (is_len : length now ≡ len) (within : page + size ≤ length items)
    (is_part : part ≡ replicate (length (take (page + size - page) (drop page now))) 0) where
  abbrev put : List ℕ
  put = put_mid page (page + size - page) now part

  abbrev after : List ℕ
  after = take len (put ++ drop (length put) items)

  many : length now ≡ length items
  many = ap length same

  count : length (take (page + size - page) (drop page now)) ≡ size
  count = omega (arith, many, length-take (page + size - page) (drop page now), length-drop page now)

  fits : length part ≡ size
  fits = ap length is_part ∙ length-replicate (length (take (page + size - page) (drop page now))) 0 ∙ count

  abbrev pasted : List ℕ
  pasted = (take page now ++ take size part) ++ drop (page + size) now

  is_pasted : put ≡ pasted
  is_pasted = put_mid-paste page (page + size - page) now part part size refl (omega arith) (sym fits)

  length_put : length put ≡ len
  length_put = ap length is_pasted ∙ length-paste now page part size (omega (arith, many)) (omega (arith, fits)) ∙ is_len

  is_after : after ≡ pasted
  is_after = take-append-le len put (drop (length put) items) (omega (arith, length_put)) ∙ take_all len put (omega (arith, length_put)) ∙ is_pasted

  front : length (take page now) ≡ page
  front = omega (arith, many, length-take page now)

  length_part : length (take size part) ≡ size
  length_part = omega (arith, fits, length-take size part)

  middle : length (take page now ++ take size part) ≡ page + size
  middle = omega (arith, front, length_part, length-append (take page now) (take size part))

  pub filled_within : (k : ℕ) → page ≤ k → k < page + size → get_or after k 0 ≡ 0
  filled_within k from to =
      ap (λ ws. get_or ws k 0) is_after
      ∙ get_or_append_left (take page now ++ take size part) (drop (page + size) now) 0 k (omega (arith, middle))
      ∙ get_or-append_right (take page now) (take size part) page k 0 front from
      ∙ get_or-take size part (k - page) 0 (omega arith)
      ∙ ap (λ ws. get_or ws (k - page) 0) is_part
      ∙ get_or-replicate (length (take (page + size - page) (drop page now))) (k - page) 0 0 (omega (arith, count))

  pub filled_below : (k : ℕ) → k < page → get_or after k 0 ≡ get_or items k 0
  filled_below k to =
      ap (λ ws. get_or ws k 0) is_after
      ∙ get_or_append_left (take page now ++ take size part) (drop (page + size) now) 0 k (omega (arith, middle))
      ∙ get_or_append_left (take page now) (take size part) 0 k (omega (arith, front))
      ∙ get_or-take page now k 0 to
      ∙ ap (λ ws. get_or ws k 0) same

  pub filled_above : (k : ℕ) → page + size ≤ k → get_or after k 0 ≡ get_or items k 0
  filled_above k from =
      let e : page + size + (k - (page + size)) ≡ k = omega arith in
      ap (λ ws. get_or ws k 0) is_after
      ∙ get_or-append_right (take page now ++ take size part) (drop (page + size) now) (page + size) k 0 middle from
      ∙ get_or-drop (page + size) now (k - (page + size)) 0
      ∙ ap (λ m. get_or now m 0) e
      ∙ ap (λ ws. get_or ws k 0) same
