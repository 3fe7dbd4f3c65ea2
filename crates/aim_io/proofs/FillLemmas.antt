-- A piece that was read behind what a reader holds.
use Rattle.std.proofs.Common.{◌≡◌, ℕ, zero, suc, ◌+◌, ◌-◌, ◌<◌, ◌≤◌, Bool, true, false, List, ◌++◌, length, take, drop, nat_lt, Some, None, Ok, Err, Result, IfOk, OnErr, IfSome, refl, sym, ap, ◌∙◌, arith}
use Rattle.std.proofs.lemmas.Bool.{lt-ltb, false≢true}
use Rattle.std.proofs.lemmas.List.{append-nil, length-append, length-take, length-drop, nil_from_length}
use Rattle.std.specs.Bool.{OnFalse, OnTrue}
use Rattle.std.specs.Result.{IsErr}
use Rattle.std.specs.declared.option.Option.{Option}
use Rattle.std.specs.Io.KnownBytes.{Keeps, prepend_known}
use Rattle.aim_io.specs.declared.source.Failed.{Failed}
use Rattle.aim_io.proofs.WindowLemmas.{window_grows, length_window}

-- how many bytes a reader holds
pub held_size : (bytes held : List ℕ) (start stop : ℕ) → stop ≤ 65536 → length bytes ≡ 65536 → drop start (take stop bytes) ≡ held → length held ≡ stop - start
held_size bytes held start stop fits size is = sym (ap (λ (l : List ℕ). length l) is) ∙ length_window bytes start stop (omega (arith, fits, size))

-- what a reader holds after so many bytes more
pub grown : (room new held : List ℕ) (start stop n : ℕ) → start ≤ stop → stop + n ≤ length new → take stop new ≡ take stop room → drop start (take stop room) ≡ held
    → drop start (take (stop + n) new) ≡ held ++ take n (drop stop new)
grown room new held start stop n ordered fits front was =
    window_grows room new start stop n ordered (omega (arith, fits)) front ∙ ap (λ (l : List ℕ). l ++ take n (drop stop new)) was

pub grown_length : (new held all : List ℕ) (stop n : ℕ) → stop + n ≤ length new → all ≡ held ++ take n (drop stop new) → length all ≡ length held + n
grown_length new held all stop n fits is =
    ap (λ (l : List ℕ). length l) is ∙ length-append held (take n (drop stop new)) ∙ omega (arith, fits, length-take n (drop stop new), length-drop stop new)

-- the bytes held, where the source loses none
pub keeps_same : (a b : Option (List ℕ)) (old new : List ℕ) → Keeps a b → new ≡ old → Keeps (prepend_known old a) (prepend_known new b)
keeps_same None b old new keeps same = tt
keeps_same (Some xs) None old new keeps same = absurd keeps
keeps_same (Some xs) (Some ys) old new keeps same = ap (λ (l : List ℕ). l ++ ys) same ∙ ap (λ (l : List ℕ). old ++ l) keeps

-- bytes came, or none
pub some_came : (n old new : ℕ) → new ≡ old + n → OnTrue (nat_lt 0 n) (old < new)
some_came zero old new size = tt
some_came (suc n) old new size =
    let more : old < new = omega (arith, size) in rw (lt-ltb 0 (suc n) (omega arith)) more

pub none_came : (n : ℕ) (P : Type 0) → (n ≡ 0 → P) → OnFalse (nat_lt 0 n) P
none_came zero P none = none refl
none_came (suc n) P none = rw (lt-ltb 0 (suc n) (omega arith)) tt

pub same_length : (old new : List ℕ) (piece : List ℕ) (n : ℕ) → new ≡ old ++ piece → length new ≡ length old + n → n ≡ 0 → new ≡ old
same_length old new piece n is size none =
    let short : length piece ≡ 0 = omega (arith, ap (λ (l : List ℕ). length l) is, length-append old piece, size, none) in
    is ∙ ap (λ (l : List ℕ). old ++ l) (nil_from_length piece short) ∙ append-nil old

-- the last read gave so many bytes, if the source tells it
pub told_more : (last : Option ℕ) (old new n : ℕ) → new ≡ old + n → IfSome last (λ m. m ≡ n) → IfSome last (λ m. new ≡ old + m)
told_more None old new n size told = tt
told_more (Some m) old new n size told = omega (arith, size, told)

-- what is said of an answer that is a fault
pub if_ok_err : (result : Result Bool Failed) (P : Bool → Type 0) → IsErr result → IfOk result P
if_ok_err (Ok more) P is = absurd (false≢true is)
if_ok_err (Err e) P is = tt

pub on_err : (result : Result Bool Failed) (P : Type 0) → P → OnErr result P
on_err (Ok more) P p = tt
on_err (Err e) P p = p

pub not_both : {P : Type 0} (ended : Bool) → ended ≡ false → ended ≡ true → P
not_both ended going over = let no : ⊥ = cc in absurd no
