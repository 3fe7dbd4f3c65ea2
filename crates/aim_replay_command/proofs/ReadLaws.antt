-- What was read before the last read, or before the source failed, decides nothing.
use Rattle.std.proofs.Common.{◌≡◌, ℕ, ◌+◌, List, [], ◌∷◌, ◌++◌, length, Some, length-append, append_assoc, refl, sym, ap, ◌∙◌, subst, arith}
use Rattle.std.specs.List.{AllByRecursion}
use Rattle.aim_io.specs.Lines.{HasNoEnd, IsOpen, joined_lines, whole_lines}
use Rattle.aim_io.proofs.LoopLemmas.{whole_joined}
use Rattle.aim_messages.specs.declared.script.Line.{Line}
use Rattle.aim_script.specs.Spellings.{Spelled}
use Rattle.aim_replay_command.specs.Replays.{AreWhole, LastNeededBy, StopsShortBy, WroteEntriesOf}

-- of two equal texts the fronts of one length are equal
same_front : (xs ys more others : List ℕ) → length xs ≡ length ys → xs ++ more ≡ ys ++ others → xs ≡ ys
same_front [] [] more others l e = refl
same_front [] (y ∷ ys) more others l e = absurd (omega (arith, l))
same_front (x ∷ xs) [] more others l e = absurd (omega (arith, l))
same_front (x ∷ xs) (y ∷ ys) more others l e =
    let head : x ≡ y = cc in
    let tails : xs ++ more ≡ ys ++ others = cc in
    let shorter : length xs ≡ length ys = omega (arith, l) in
    let rest = same_front xs ys more others shorter tails in
    λ i. head i ∷ rest i

no_ends : (lines : List (List ℕ)) → AllByRecursion IsOpen lines → AllByRecursion HasNoEnd lines
no_ends [] each = tt
no_ends (line ∷ lines) each = (each.0.no_end, no_ends lines each.1)

-- the whole lines of a text are those of which it is made
lines_are : (bytes : List ℕ) (lines : List (List ℕ)) (part : List ℕ) → AllByRecursion IsOpen lines → IsOpen part → bytes ≡ joined_lines lines ++ part → whole_lines bytes ≡ lines
lines_are bytes lines part each unended is = ap whole_lines is ∙ whole_joined lines part (no_ends lines each) unended.no_end

pub last_needed : (w : Spelled) (front piece rest : List ℕ) → LastNeededBy w (Some (front ++ (piece ++ rest))) (Some rest) (Some (length piece)) → (before : List Line) × AreWhole w.reads (whole_lines front) before
last_needed w front piece rest x =
    let whole : front ++ (piece ++ rest) ≡ (joined_lines x.lines ++ x.part) ++ (x.piece ++ rest) =
    x.taken ∙ ap (λ l. l ++ rest) (sym (append_assoc (joined_lines x.lines) x.part x.piece)) ∙ append_assoc (joined_lines x.lines ++ x.part) x.piece rest in
    let told : length piece ≡ length x.piece = x.told in
    let a : length (front ++ (piece ++ rest)) ≡ length front + length (piece ++ rest) = length-append front (piece ++ rest) in
    let b : length (piece ++ rest) ≡ length piece + length rest = length-append piece rest in
    let c : length ((joined_lines x.lines ++ x.part) ++ (x.piece ++ rest)) ≡ length (joined_lines x.lines ++ x.part) + length (x.piece ++ rest) = length-append (joined_lines x.lines ++ x.part) (x.piece ++ rest) in
    let d : length (x.piece ++ rest) ≡ length x.piece + length rest = length-append x.piece rest in
    let long : length (front ++ (piece ++ rest)) ≡ length ((joined_lines x.lines ++ x.part) ++ (x.piece ++ rest)) = ap (λ (l : List ℕ). length l) whole in
    let size : length front ≡ length (joined_lines x.lines ++ x.part) = omega (arith, told, a, b, c, d, long) in
    let front_is : front ≡ joined_lines x.lines ++ x.part = same_front front (joined_lines x.lines ++ x.part) (piece ++ rest) (x.piece ++ rest) size whole in
    (x.before, subst (λ ls. AreWhole w.reads ls x.before) (sym (lines_are front x.lines x.part x.whole.each x.is_open front_is)) x.whole)

pub stops_short : (w : Spelled) (bytes rest old new : List ℕ) → StopsShortBy w (Some (bytes ++ rest)) (Some rest) (Some old) (Some new)
    → (before : List Line) × AreWhole w.reads (whole_lines bytes) before × WroteEntriesOf w before old new
stops_short w bytes rest old new x =
    let a : length (bytes ++ rest) ≡ length bytes + length rest = length-append bytes rest in
    let b : length ((joined_lines x.lines ++ x.part) ++ rest) ≡ length (joined_lines x.lines ++ x.part) + length rest = length-append (joined_lines x.lines ++ x.part) rest in
    let long : length (bytes ++ rest) ≡ length ((joined_lines x.lines ++ x.part) ++ rest) = ap (λ (l : List ℕ). length l) x.taken in
    let size : length bytes ≡ length (joined_lines x.lines ++ x.part) = omega (arith, a, b, long) in
    let is : bytes ≡ joined_lines x.lines ++ x.part = same_front bytes (joined_lines x.lines ++ x.part) rest rest size x.taken in
    (x.before, subst (λ ls. AreWhole w.reads ls x.before) (sym (lines_are bytes x.lines x.part x.whole.each x.is_open is)) x.whole, x.written)
