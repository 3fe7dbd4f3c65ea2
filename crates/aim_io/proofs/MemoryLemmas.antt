-- Bytes that are copied out of a list and into one.
use Rattle.std.proofs.Common.{◌≡◌, ℕ, ◌+◌, ◌-◌, ◌<◌, ◌≤◌, List, [], ◌++◌, length, take, drop, min, Ok, Result, sym, ap, ◌∙◌, subst, arith}
use Rattle.std.proofs.lemmas.List.{length-take, length-append, length-drop, take-append-drop, take-append-le, take-take, take_at, drop_at, drop-drop, drop_all, append_assoc}
use Rattle.std.specs.declared.option.Option.{Option}
use Rattle.std.specs.Io.KnownBytes.{Consumes}
use borrow.Rule.Slice.PartMut.{put_mid, post_of, take_put}
use Rattle.aim_io.specs.Causes.{HasCause}
use Rattle.aim_io.specs.declared.source.Failed.{Failed}

-- ---- what is written over some bytes

pub front_kept : (bytes piece : List ℕ) (at size : ℕ) → at < length bytes → take at (put_mid at size bytes piece) ≡ take at bytes
front_kept bytes piece at size fits = take_put at size bytes piece (omega arith)

piece_at : (bytes piece : List ℕ) (at size n : ℕ) → at < length bytes → n ≤ length piece → take n (drop at (put_mid at size bytes piece)) ≡ take n piece
piece_at bytes piece at size n fits most =
    let rest : List ℕ = post_of at size bytes in
    let front : length (take at bytes) ≡ at = length-take at bytes ∙ omega arith in
    ap (take n) (drop_at (take at bytes) (piece ++ rest) at front) ∙ take-append-le n piece rest most

pub piece_read : (before after : Option (List ℕ)) (bytes piece : List ℕ) (at size n : ℕ) → at < length bytes → n ≤ length piece → Consumes before after (take n piece)
    → Consumes before after (take n (drop at (put_mid at size bytes piece)))
piece_read before after bytes piece at size n fits most read = subst (Consumes before after) (sym (piece_at bytes piece at size n fits most)) read

pub written : (bytes new piece : List ℕ) (at size : ℕ) → at + length piece ≤ length bytes → new ≡ piece
    → take (at + length piece) (put_mid at size bytes new) ≡ take at bytes ++ piece
written bytes new piece at size fits is =
    let rest : List ℕ = post_of at size bytes in
    let len : length new ≡ length piece = ap (λ (l : List ℕ). length l) is in
    let front : length (take at bytes ++ new) ≡ at + length piece = length-append (take at bytes) new ∙ omega (arith, length-take at bytes) in
    ap (take (at + length piece)) (sym (append_assoc (take at bytes) new rest)) ∙ take_at (take at bytes ++ new) rest (at + length piece) front
    ∙ ap (λ (l : List ℕ). take at bytes ++ l) is

-- what was copied to the front of a buffer
pub copied_front : (bytes buf front : List ℕ) (at n : ℕ) → at ≤ length bytes → n ≡ min (length bytes - at) (length buf)
    → front ≡ take (at + n - at) (drop at bytes) → drop at bytes ≡ take n (front ++ drop n buf) ++ drop (at + n) bytes
copied_front bytes buf front at n fits most after =
    let count : at + n - at ≡ n = omega arith in
    let is : front ≡ take n (drop at bytes) = after ∙ ap (λ (m : ℕ). take m (drop at bytes)) count in
    let len : length front ≡ n = ap (λ (l : List ℕ). length l) is ∙ length-take n (drop at bytes) ∙ omega (arith, length-drop at bytes) in
    let first : take n (front ++ drop n buf) ≡ take n (drop at bytes) = take_at front (drop n buf) n len ∙ is in
    sym (take-append-drop n (drop at bytes)) ∙ ap (λ (l : List ℕ). l ++ drop n (drop at bytes)) (sym first)
    ∙ ap (λ (l : List ℕ). take n (front ++ drop n buf) ++ l) (drop-drop n at bytes)

-- ---- a source's bytes, of which those from `at` on are left

pub reads_left : (left bytes told buf : List ℕ) (at n : ℕ) → told ≡ bytes → drop at bytes ≡ left → n ≡ min (length told - at) (length buf)
    → drop at told ≡ take n buf ++ drop (at + n) told
    → (left ≡ take n buf ++ drop (at + n) bytes) × (n ≡ 0 → 0 < length buf → drop (at + n) bytes ≡ [])
reads_left left bytes told buf at n is from most copied =
    let room : n ≡ min (length bytes - at) (length buf) = most ∙ ap (λ (l : List ℕ). min (length l - at) (length buf)) is in
    (sym from ∙ subst (λ (l : List ℕ). drop at l ≡ take n buf ++ drop (at + n) l) is copied, λ none some. drop_all (at + n) bytes (omega (arith, room)))

pub reads_most : (left bytes told buf : List ℕ) (at n : ℕ) → told ≡ bytes → drop at bytes ≡ left → n ≡ min (length told - at) (length buf)
    → n ≡ min (length left) (length buf)
reads_most left bytes told buf at n is from most =
    let size : length told - at ≡ length left =
    ap (λ (l : List ℕ). length l - at) is ∙ sym (length-drop at bytes) ∙ ap (λ (l : List ℕ). length l) from in
    most ∙ ap (λ (m : ℕ). min m (length buf)) size

pub reads_ok : (left bytes told buf : List ℕ) (at n : ℕ) → told ≡ bytes → drop at bytes ≡ left → n ≡ min (length told - at) (length buf)
    → ◌≡◌ {A = Result ℕ Failed} (Ok n) (Ok (min (length left) (length buf)))
reads_ok left bytes told buf at n is from most =
    let count : n ≡ min (length left) (length buf) = reads_most left bytes told buf at n is from most in
    cc

-- so many of the first bytes of a buffer
pub reads_bound : (buf : List ℕ) (room n : ℕ) → n ≡ min room (length buf) → (n ≤ length buf) × (n ≡ length (take n buf))
reads_bound buf room n most = (omega arith, omega (arith, length-take n buf))

-- no fault
pub fine : (before now n : ℕ) → now ≡ before → HasCause {T = ℕ} {E = Failed} before now (Ok n)
fine before now n same = record { later = omega arith; failed = tt }

-- ---- a sink's bytes, of which the first `len` are held

pub fits_store : (piece told : List ℕ) (len size total n : ℕ) → n ≡ min (size - len) (length piece) → size ≡ total → len ≤ total → length told ≡ total
    → len + length (take n piece) ≤ length told
fits_store piece told len size total n most is held whole = omega (arith, length-take n piece)

pub stored : (held bytes told new piece : List ℕ) (len size total n : ℕ) → told ≡ bytes → take len bytes ≡ held → n ≡ min (size - len) (length piece) → size ≡ total
    → len ≤ total → length told ≡ total → length new ≡ length told → take (len + length (take n piece)) new ≡ take len told ++ take n piece
    → take (len + n) (take total (new ++ drop (length new) bytes)) ≡ held ++ take n piece
stored held bytes told new piece len size total n is from most whole fits told_is new_is put =
    let count : length (take n piece) ≡ n = length-take n piece ∙ omega arith in
    let put_n : take (len + n) new ≡ take len told ++ take n piece = subst (λ (m : ℕ). take (len + m) new ≡ take len told ++ take n piece) count put in
    take-take (len + n) total (new ++ drop (length new) bytes) (omega arith) ∙ take-append-le (len + n) new (drop (length new) bytes) (omega arith)
    ∙ put_n ∙ ap (λ (l : List ℕ). l ++ take n piece) (ap (take len) is ∙ from)

pub stores_most : (held bytes told piece : List ℕ) (len size total room n : ℕ) → told ≡ bytes → take len bytes ≡ held → n ≡ min (size - len) (length piece)
    → size ≡ total → total ≡ room → len ≤ total → length told ≡ total → n ≡ min (room - length held) (length piece)
stores_most held bytes told piece len size total room n is from most whole room_is fits told_is =
    let known : length bytes ≡ total = sym (ap (λ (l : List ℕ). length l) is) ∙ told_is in
    let size_held : length held ≡ len = sym (ap (λ (l : List ℕ). length l) from) ∙ length-take len bytes ∙ omega arith in
    omega arith
