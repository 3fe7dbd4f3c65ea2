-- The rows of several lanes.
use Rattle.std.proofs.Common.{◌≡◌, ℕ, ◌+◌, ◌<◌, ◌≤◌, Bool, true, false, ◌&&◌, ◌||◌, List, length, get_or, set, replicate, Fits, w8, w64, ◌*◌, arith, refl, sym, ◌∙◌, ap, inl, inr, nat_lt, lt-ltb, le-ltb, add-one}
use Rattle.std.specs.Prelude.{bit_or, if◌then◌else◌}
use Rattle.std.proofs.Math.Decide.{dec_lt}
use Rattle.std.proofs.lemmas.Bool.{cases_eq}
use Rattle.std.proofs.lemmas.List.{get_or-set_same, get_or-set_other, get_or-replicate}
use Rattle.std.proofs.lemmas.Nat.Bits.{bit_at-zero}
use Rattle.aim_geometry.specs.Bounded.{some_below}
use Rattle.aim_geometry.specs.Rects.{tile_at}
use Rattle.aim_geometry.proofs.Bits.{has_bit_or}
use Rattle.aim_layout.specs.Intersection.{Intersection}
use Rattle.aim_layout.specs.Valid.{IsValid}

lt_more : (r k : ℕ) → (r ≡ k → ⊥) → nat_lt r (k + 1) ≡ nat_lt r k
lt_more r k n = elim (dec_lt r k) [
  | yes l ↦ rw (lt-ltb r (k + 1) (omega arith), lt-ltb r k l) refl
  | no l ↦ rw (le-ltb r (k + 1) (omega arith), le-ltb r k (omega arith)) refl
]

-- one row more, in a loop over rows
pub row_united : (rows was more : List ℕ) (k r c : ℕ) → k < length rows → ((r : ℕ) → r ≤ k → tile_at rows r c ≡ (if nat_lt r k then tile_at was r c || tile_at more r c else tile_at was r c)) →
    tile_at rows r c ≡ (if nat_lt r k then tile_at was r c || tile_at more r c else tile_at was r c) →
    tile_at (set rows k (bit_or (get_or rows k 0) (get_or more k 0))) r c ≡ (if nat_lt r (k + 1) then tile_at was r c || tile_at more r c else tile_at was r c)
row_united rows was more k r c l here there = elim (cases_eq r k) [
  | inl e ↦ (let x = bit_or (get_or rows k 0) (get_or more k 0) in
      let now : nat_lt r (k + 1) ≡ true = lt-ltb r (k + 1) (omega arith) in
      let old : tile_at rows k c ≡ tile_at was k c = here k (omega arith) ∙ rw (le-ltb k k (omega arith)) refl in
      rw (now, e, get_or-set_same rows k x 0 l, has_bit_or (get_or rows k 0) (get_or more k 0) c, old) refl)
  | inr n ↦ (let x = bit_or (get_or rows k 0) (get_or more k 0) in
      rw (get_or-set_other rows k r x 0 n, lt_more r k n) there)
]

-- one lane more
pub counted_more : (n : ℕ) (f : ℕ → Bool) (was now b : Bool) → was ≡ some_below n f → f n ≡ b → now ≡ (was || b) → now ≡ some_below (n + 1) f
counted_more n f was now b s e g = rw (add-one, g, s, e) refl

pub or_false : (b : Bool) → (b || false) ≡ b
or_false true = refl
or_false false = refl

-- the rows before the loop over rows, and after it
pub none_united : (was more : List ℕ) (r c : ℕ) → tile_at was r c ≡ (if nat_lt r 0 then tile_at was r c || tile_at more r c else tile_at was r c)
none_united was more r c = rw (le-ltb r 0 (omega arith)) refl

pub all_united : (rows was more : List ℕ) (k r c : ℕ) → 64 ≤ k → r < 64 → tile_at rows r c ≡ (if nat_lt r k then tile_at was r c || tile_at more r c else tile_at was r c) →
    tile_at rows r c ≡ (tile_at was r c || tile_at more r c)
all_united rows was more k r c past l h = h ∙ rw (lt-ltb r k (omega arith)) refl

-- a row's place
pub row_offset : (k : ℕ) → k < 64 → Fits w64 (k * 8)
row_offset k l = omega arith

-- the lanes are few
pub lanes_fit : (i : Intersection) (n : ℕ) → IsValid i → n ≡ length i.lanes → Fits w8 n
lanes_fit i n valid e = let few = valid.sound.lanes in omega arith

pub lane_few : (i : Intersection) (n k : ℕ) → IsValid i → n ≡ length i.lanes → k < n → k < 16
lane_few i n k valid e l = let few = valid.sound.lanes in omega arith

pub lane_there : (i : Intersection) (n k : ℕ) → n ≡ length i.lanes → k < n → k < length i.lanes
lane_there i n k e l = omega arith

-- the rows before the loop over lanes, and after it
pub none_counted : (row col : ℕ) → row < 64 → tile_at (replicate 64 0) row col ≡ false
none_counted row col r = rw (get_or-replicate {A = ℕ} 64 row 0 0 r, bit_at-zero col) refl

pub all_counted : (f : ℕ → Bool) (n k lanes : ℕ) (b : Bool) → k ≤ n → n ≤ k → n ≡ lanes → b ≡ some_below k f → b ≡ some_below lanes f
all_counted f n k lanes b l m e h = let same : k ≡ lanes = omega arith in h ∙ ap (λ x. some_below x f) same

-- a tile of a lane that counts, and of one that does not
pub is_united : (new old more tile counted here : Bool) → here ≡ counted → here ≡ true → new ≡ (old || more) → more ≡ tile → new ≡ (old || (counted && tile))
is_united new old more tile counted here e h n m = n ∙ rw (m, ← e, h) refl

pub is_left : (old tile counted here : Bool) → here ≡ counted → here ≡ false → old ≡ (old || (counted && tile))
is_left old tile counted here e h = rw (← e, h) (sym (or_false old))
