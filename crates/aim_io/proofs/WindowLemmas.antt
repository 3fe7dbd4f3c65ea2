-- A window of a list: what stands from a start up to an end.
use Rattle.std.proofs.Common.{◌≡◌, ℕ, ◌+◌, ◌-◌, ◌≤◌, List, [], ◌++◌, length, take, drop, ap, ◌∙◌, sym, subst, true, false, nat_lt, arith}
use Rattle.std.proofs.lemmas.Bool.{lt-ltb}
use Rattle.std.proofs.Math.Seq.{take-add}
use Rattle.std.proofs.lemmas.List.{length-take, length-drop, drop-take, take-take, drop-append-le, drop_all}

pub window : (bytes : List ℕ) (start stop : ℕ) → start ≤ stop → drop start (take stop bytes) ≡ take (stop - start) (drop start bytes)
window bytes start stop ordered =
    let parts : stop ≡ start + (stop - start) = omega arith in
    ap (λ (n : ℕ). drop start (take n bytes)) parts ∙ drop-take start (stop - start) bytes

pub length_window : (bytes : List ℕ) (start stop : ℕ) → stop ≤ length bytes → length (drop start (take stop bytes)) ≡ stop - start
length_window bytes start stop fits =
    length-drop start (take stop bytes) ∙ ap (λ (n : ℕ). n - start) (length-take stop bytes ∙ omega arith)

-- the first of its elements
pub take_window : (bytes : List ℕ) (start stop len : ℕ) → start + len ≤ stop → take len (drop start (take stop bytes)) ≡ take len (drop start bytes)
take_window bytes start stop len fits =
    ap (take len) (window bytes start stop (omega arith)) ∙ take-take len (stop - start) (drop start bytes) (omega arith)

-- an empty one
pub window_empty : (bytes : List ℕ) (stop : ℕ) → drop stop (take stop bytes) ≡ []
window_empty bytes stop = drop_all stop (take stop bytes) (omega (arith, length-take stop bytes))

-- what was written behind it makes it longer
pub window_grows : (old new : List ℕ) (start stop n : ℕ) → start ≤ stop → stop ≤ length new → take stop new ≡ take stop old
    → drop start (take (stop + n) new) ≡ drop start (take stop old) ++ take n (drop stop new)
window_grows old new start stop n ordered fits same =
    let short : start ≤ length (take stop new) = omega (arith, length-take stop new) in
    ap (drop start) (take-add stop n new) ∙ drop-append-le start (take stop new) (take n (drop stop new)) short
    ∙ ap (λ (l : List ℕ). drop start l ++ take n (drop stop new)) same

-- one that ends where it starts
pub window_none : (bytes : List ℕ) (start stop : ℕ) → start ≡ stop → drop start (take stop bytes) ≡ []
window_none bytes start stop same = rw same (window_empty bytes stop)

-- one that is known by another name
pub in_window : (bytes held : List ℕ) (start stop n : ℕ) → drop start (take stop bytes) ≡ held → start ≤ stop → n ≤ length held
    → n ≤ length (take (stop - start) (drop start bytes))
in_window bytes held start stop n is ordered fits =
    subst (λ (l : List ℕ). n ≤ length l) (sym is ∙ window bytes start stop ordered) fits

size_held : (bytes held : List ℕ) (start stop : ℕ) → length bytes ≡ 65536 → stop ≤ 65536 → drop start (take stop bytes) ≡ held → length held ≡ stop - start
size_held bytes held start stop size fits is = sym (ap (λ (l : List ℕ). length l) is) ∙ length_window bytes start stop (omega arith)

pub none_held : (bytes held : List ℕ) (start stop : ℕ) → length bytes ≡ 65536 → stop ≤ 65536 → drop start (take stop bytes) ≡ held → stop - start ≡ 0
    → false ≡ nat_lt 0 (length held)
none_held bytes held start stop size fits is none = sym (ap (nat_lt 0) (size_held bytes held start stop size fits is ∙ none))

pub some_held : (bytes held : List ℕ) (start stop : ℕ) → length bytes ≡ 65536 → stop ≤ 65536 → drop start (take stop bytes) ≡ held → (stop - start ≡ 0 → ⊥)
    → true ≡ nat_lt 0 (length held)
some_held bytes held start stop size fits is some =
    sym (lt-ltb 0 (length held) (omega (arith, size_held bytes held start stop size fits is)))
