-- The first line of the bytes that are held.
use Rattle.std.proofs.Common.{◌≡◌, ℕ, ◌+◌, ◌<◌, ◌≤◌, List, [], ◌∷◌, ◌++◌, length, take, drop, min, sym, ap, ◌∙◌, subst, arith, get_or, suc, zero, add-one, drop-cons, Some, None, ◌≢◌}
use Rattle.std.proofs.Math.Seq.{take-add}
use Rattle.std.proofs.lemmas.List.{length-take, length-append, length-drop, take-append-drop, take-take, take_at, drop_at, append_assoc}
use Rattle.std.specs.Prelude.{IfSome, IfNone}
use Rattle.std.specs.List.{AllWithin, HoldsAt}
use Rattle.std.specs.Option.{MatchOption}
use Rattle.std.specs.declared.option.Option.{Option}
use Rattle.aim_io.specs.Lines.{HasNoEnd, EndsAt, ShowsBytes}

-- a byte 10 behind so many bytes stands there
pub split_at : (bytes front tail : List ℕ) (at : ℕ) → bytes ≡ front ++ 10 ∷ tail → length front ≡ at → bytes ≡ take at bytes ++ 10 ∷ drop (at + 1) bytes
split_at bytes front tail at is size =
    let first : take at bytes ≡ front = ap (take at) is ∙ take_at front (10 ∷ tail) at size in
    let joined : bytes ≡ (front ++ 10 ∷ []) ++ tail = is ∙ sym (append_assoc front (10 ∷ []) tail) in
    let behind : drop (at + 1) bytes ≡ tail = ap (drop (at + 1)) joined ∙ drop_at (front ++ 10 ∷ []) tail (at + 1) (length-append front (10 ∷ []) ∙ ap (λ n. n + 1) size) in
    rw (first, behind) is

-- a line that ends among the first bytes ends there among all
pub ends_in : (bytes : List ℕ) (size at : ℕ) → EndsAt (take size bytes) at → EndsAt bytes at
ends_in bytes size at ends =
    let fits : at < min size (length bytes) = omega (arith, ends.fits, length-take size bytes) in
    let same : take at (take size bytes) ≡ take at bytes = take-take at size bytes (omega arith) in
    let tail : List ℕ = drop (at + 1) (take size bytes) ++ drop size bytes in
    let whole : bytes ≡ take at bytes ++ 10 ∷ tail =
    sym (take-append-drop size bytes) ∙ ap (λ (l : List ℕ). l ++ drop size bytes) ends.split
    ∙ append_assoc (take at (take size bytes)) (10 ∷ drop (at + 1) (take size bytes)) (drop size bytes) ∙ ap (λ (l : List ℕ). l ++ 10 ∷ tail) same in
    record {
      fits = omega (arith, fits);
      no_end = subst HasNoEnd same ends.no_end;
      split = split_at bytes (take at bytes) tail at whole (length-take at bytes ∙ omega arith);
    }

-- no end and no 401st byte up to the last byte that is taken, and a further one
pub past_bytes : (given place size : ℕ) (bytes : List ℕ) → given < 262144 → place + size ≡ 67108864 → size ≤ 400 → size < length bytes
    → HasNoEnd (take size bytes) → ShowsBytes given place bytes
past_bytes given place size bytes few last short further no_end =
    let size_is : length (take size bytes) ≡ size = length-take size bytes ∙ omega arith in record {
      few = few;
      front = take size bytes;
      rest = drop size bytes;
      split = sym (take-append-drop size bytes);
      no_end = no_end;
      last = omega (arith, size_is);
      short = omega (arith, size_is);
      further = omega (arith, length-drop size bytes);
    }

no_end_append : (xs ys : List ℕ) → HasNoEnd xs → HasNoEnd ys → HasNoEnd (xs ++ ys)
no_end_append [] ys p q = q
no_end_append (x ∷ xs) ys p q = (p.0, no_end_append xs ys p.1 q)

pub no_end_past : (bytes : List ℕ) (seen more : ℕ) → HasNoEnd (take seen bytes) → HasNoEnd (take more (drop seen bytes)) → HasNoEnd (take (seen + more) bytes)
no_end_past bytes seen more p q = subst HasNoEnd (sym (take-add seen more bytes)) (no_end_append (take seen bytes) (take more (drop seen bytes)) p q)

pub no_end_whole : (bytes : List ℕ) (seen : ℕ) → HasNoEnd (take seen bytes) → HasNoEnd (drop seen bytes) → HasNoEnd bytes
no_end_whole bytes seen p q = subst HasNoEnd (take-append-drop seen bytes) (no_end_append (take seen bytes) (drop seen bytes) p q)

-- a line that ends behind bytes without an end
pub ends_past : (bytes : List ℕ) (seen at : ℕ) → seen ≤ length bytes → HasNoEnd (take seen bytes) → EndsAt (drop seen bytes) at → EndsAt bytes (seen + at)
ends_past bytes seen at fits none ends =
    let rest = drop seen bytes in
    let front = take seen bytes ++ take at rest in
    let tail = drop (at + 1) rest in
    let size : length front ≡ seen + at =
    length-append (take seen bytes) (take at rest) ∙ omega (arith, length-take seen bytes, length-take at rest, ends.fits, fits) in
    let whole : bytes ≡ front ++ 10 ∷ tail =
    sym (take-append-drop seen bytes) ∙ ap (λ (l : List ℕ). take seen bytes ++ l) ends.split ∙ sym (append_assoc (take seen bytes) (take at rest) (10 ∷ tail)) in
    record {
      fits = omega (arith, ends.fits, length-drop seen bytes);
      no_end = no_end_past bytes seen at none ends.no_end;
      split = split_at bytes front tail (seen + at) whole size;
    }

-- ---- what a search for the first byte 10 says

no_end_within : (bytes : List ℕ) (n : ℕ) → AllWithin (λ b. b ≢ 10) bytes 0 n → n ≤ length bytes → HasNoEnd (take n bytes)
no_end_within bytes zero within fits = tt
no_end_within [] (suc n) within fits = tt
no_end_within (b ∷ bytes) (suc n) within fits =
    (within 0 b (omega arith) (omega arith), no_end_within bytes n (λ k d low high. within (suc k) d (omega arith) (omega arith)) (omega arith))

no_end_all : (bytes : List ℕ) → AllWithin (λ b. b ≢ 10) bytes 0 (length bytes) → HasNoEnd bytes
no_end_all [] within = tt
no_end_all (b ∷ bytes) within = (within 0 b (omega arith) (omega arith), no_end_all bytes (λ k d low high. within (suc k) d (omega arith) (omega arith)))

split_first : (bytes : List ℕ) (at : ℕ) → at < length bytes → get_or bytes at 10 ≡ 10 → bytes ≡ take at bytes ++ 10 ∷ drop (at + 1) bytes
split_first bytes at fits is =
    let rest : drop at bytes ≡ 10 ∷ drop (suc at) bytes = drop-cons bytes at 10 fits ∙ ap (λ (b : ℕ). b ∷ drop (suc at) bytes) is in
    sym (take-append-drop at bytes) ∙ ap (λ (l : List ℕ). take at bytes ++ l) (rest ∙ ap (λ (n : ℕ). 10 ∷ drop n bytes) (sym (add-one at)))

pub ends_first : (bytes : List ℕ) (r : Option ℕ)
    → MatchOption r (AllWithin (λ b. b ≢ 10) bytes 0 (length bytes)) (λ i. (i < length bytes) × HoldsAt (λ b. b ≡ 10) bytes i × AllWithin (λ b. b ≢ 10) bytes 0 i)
    → IfSome r (EndsAt bytes) × IfNone r (HasNoEnd bytes)
ends_first bytes None within = (tt, no_end_all bytes within)
ends_first bytes (Some at) first =
    (record { fits = first.0; no_end = no_end_within bytes at first.2 (omega (arith, first.0)); split = split_first bytes at first.0 (first.1 10) }, tt)
