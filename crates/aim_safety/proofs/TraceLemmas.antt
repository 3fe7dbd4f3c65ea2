-- Lists of tiles, one more at a time.
use Rattle.std.proofs.Common.{◌≡◌, ℕ, zero, suc, ◌+◌, ◌-◌, ◌<◌, ◌≤◌, Bool, true, false, cond, List, [], ◌∷◌, ◌++◌, get_or, filter, length, map, arith, refl, sym, ap, subst, ◌∙◌, append_assoc}
use Rattle.std.specs.Prelude.{bit_or, flat_map}
use Rattle.std.specs.List.{range_with_len}
use Rattle.std.proofs.lemmas.Grind.{flat_map-append}
use Rattle.std.proofs.lemmas.List.{append-nil, map-append, get_or-set_other, get_or-set_same}
use Rattle.std.proofs.Math.ListN.{set}
use Rattle.std.proofs.lemmas.List.Elements.{filter-append}
use Rattle.std.proofs.lemmas.List.FromFn.{filter_of_map_range_with_len_more}
use Rattle.std.proofs.Math.Decide.{dec_lt}
use Rattle.std.proofs.lemmas.Bool.{or_parts}
use Rattle.aim_geometry.specs.Rects.{has_bit}
use Rattle.aim_geometry.proofs.Bits.{has_bit_or}
use Rattle.aim_geometry.specs.Cells as rules
use Rattle.aim_safety.specs.declared.cells.Cell.{Cell}
use Rattle.aim_safety.specs.Tiles.{cell_of, of_tile}
use Rattle.aim_safety.specs.Traces.{is_traced, IsNeverShown}

range_more : (a n : ℕ) → range_with_len a (n + 1) ≡ range_with_len a n ++ (a + n) ∷ []
range_more a zero = let e : a ≡ a + 0 = omega arith in ap (λ n. n ∷ []) e
range_more a (suc n) =
    let s : suc n + 1 ≡ suc (n + 1) = omega arith in
    let e : (a + 1) + n ≡ a + suc n = omega arith in
    ap (range_with_len a) s ∙ ap (λ xs. a ∷ xs) (range_more (a + 1) n ∙ ap (λ k. range_with_len (a + 1) n ++ k ∷ []) e)

-- one more part of a list of lists
pub parts_more : {X : Type 0} (f : ℕ → List X) (p : X → Bool) (n : ℕ) → filter p (flat_map f (range_with_len 0 (n + 1))) ≡ filter p (flat_map f (range_with_len 0 n)) ++ filter p (f n)
parts_more f p n =
    let e : 0 + n ≡ n = omega arith in
    ap (λ ns. filter p (flat_map f ns)) (range_more 0 n ∙ ap (λ k. range_with_len 0 n ++ k ∷ []) e)
    ∙ ap (filter p) (flat_map-append f (range_with_len 0 n) (n ∷ []) ∙ ap (λ xs. flat_map f (range_with_len 0 n) ++ xs) (append-nil (f n)))
    ∙ filter-append p (flat_map f (range_with_len 0 n)) (f n)

-- a list of cells goes on with a part
pub goes_on : (old new : List rules.Cell) (front part both : List rules.Cell) (initial : List rules.Cell) → old ≡ initial ++ front → new ≡ old ++ part → both ≡ front ++ part → new ≡ initial ++ both
goes_on old new front part both initial a b c = b ∙ ap (λ xs. xs ++ part) a ∙ append_assoc initial front part ∙ ap (λ xs. initial ++ xs) (sym c)

-- one more step of a tile
shown_at : (steps : List (List ℕ)) (first k row col : ℕ) → is_traced steps first (record { row = row; col = col; step = first + k }) ≡ has_bit (get_or (get_or steps k []) row 0) col
shown_at steps first k row col = let e : (first + k) - first ≡ k = omega arith in ap (λ j. has_bit (get_or (get_or steps j []) row 0) col) e

pub step_more : (steps : List (List ℕ)) (first k row col : ℕ) (old new : List Cell) (initial : List rules.Cell) (b : Bool) → b ≡ has_bit (get_or (get_or steps k []) row 0) col →
    map cell_of old ≡ initial ++ filter (is_traced steps first) (of_tile first k row col) → new ≡ cond b (old ++ record { row = row; col = col; step = first + k } ∷ []) old →
    map cell_of new ≡ initial ++ filter (is_traced steps first) (of_tile first (k + 1) row col)
step_more steps first k row col old new initial b shown before pushed =
    goes_on (map cell_of old) (map cell_of new) (filter p (of_tile first k row col)) (cond b (one ∷ []) []) (filter p (of_tile first (k + 1) row col)) initial before (mapped b new pushed)
    (filter_of_map_range_with_len_more p (λ s. record { row = row; col = col; step = s }) first k (first + k) refl ∙ ap (λ t. filter p (of_tile first k row col) ++ cond t (one ∷ []) []) (shown_at steps first k row col ∙ sym shown))
  where
    p : rules.Cell → Bool
    p = is_traced steps first

    one : rules.Cell
    one = record { row = row; col = col; step = first + k }

    mapped : (b : Bool) (new : List Cell) → new ≡ cond b (old ++ record { row = row; col = col; step = first + k } ∷ []) old → map cell_of new ≡ map cell_of old ++ cond b (one ∷ []) []
    mapped true new e = ap (map cell_of) e ∙ map-append cell_of old (record { row = row; col = col; step = first + k } ∷ [])
    mapped false new e = ap (map cell_of) e ∙ sym (append-nil (map cell_of old))

-- a tile that no masks show is in no step
pub none_traced : (steps : List (List ℕ)) (first count row col : ℕ) → count ≤ length steps → IsNeverShown steps row col → filter (is_traced steps first) (of_tile first count row col) ≡ []
none_traced steps first zero row col l never = refl
none_traced steps first (suc k) row col l never =
    let s : suc k ≡ k + 1 = omega arith in
    let p = is_traced steps first in
    let before = filter p (of_tile first k row col) in
    ap (λ n. filter p (of_tile first n row col)) s
    ∙ filter_of_map_range_with_len_more p (λ s. record { row = row; col = col; step = s }) first k (first + k) refl
    ∙ ap (λ t. before ++ cond t (record { row = row; col = col; step = first + k } ∷ []) []) (shown_at steps first k row col ∙ never k (omega arith))
    ∙ append-nil before
    ∙ none_traced steps first k row col (omega arith) never

-- what is unset in the tiles shown by one step more is shown by none of these
pub unset_more : (steps : List (List ℕ)) (k row shown col : ℕ) → ((j : ℕ) → j < k → has_bit shown col ≡ false → has_bit (get_or (get_or steps j []) row 0) col ≡ false) →
    (j : ℕ) → j < k + 1 → has_bit (bit_or shown (get_or (get_or steps k []) row 0)) col ≡ false → has_bit (get_or (get_or steps j []) row 0) col ≡ false
unset_more steps k row shown col before j l unset =
    let m = get_or (get_or steps k []) row 0 in
    let parts = or_parts (has_bit shown col) (has_bit m col) (sym (has_bit_or shown m col) ∙ unset) in
    elim (dec_lt j k) [
      | yes below ↦ before j below parts.0
      | no above ↦ (let e : j ≡ k = omega arith in ap (λ j. has_bit (get_or (get_or steps j []) row 0) col) e ∙ parts.1)
    ]

-- the mask of one step more stands behind those of the steps before it
pub gathered_more : (steps : List (List ℕ)) (masks : List ℕ) (k row : ℕ) → k < length masks → ((j : ℕ) → j < k → get_or masks j 0 ≡ get_or (get_or steps j []) row 0) →
    (j : ℕ) → j < k + 1 → get_or (set masks k (get_or (get_or steps k []) row 0)) j 0 ≡ get_or (get_or steps j []) row 0
gathered_more steps masks k row fits before j l =
    let m = get_or (get_or steps k []) row 0 in
    elim (dec_lt j k) [
      | yes below ↦ get_or-set_other masks k j m 0 (λ is. absurd (omega (arith, is, below))) ∙ before j below
      | no above ↦ (let e : k ≡ j = omega arith in subst (λ i. get_or (set masks k m) i 0 ≡ get_or (get_or steps i []) row 0) e (get_or-set_same masks k m 0 fits))
    ]
