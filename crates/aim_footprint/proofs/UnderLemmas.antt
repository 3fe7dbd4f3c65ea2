-- The tiles of a window that moves on.
use Rattle.std.proofs.Common.{◌≡◌, ℕ, ◌+◌, ◌-◌, ◌<◌, ◌≤◌, Bool, true, false, ◌||◌, ◌&&◌, not, List, length, get_or, drop, take, arith, refl, suc, ◌∙◌, length-take, get_or-drop, get_or-take}
use Rattle.std.specs.List.{slice_range}
use Rattle.std.proofs.lemmas.List.Folds.{Any-from_list_any}
use Rattle.std.proofs.Math.Seq.{drop-cons}
use Rattle.std.proofs.lemmas.List.{get_or_default, get_or-replicate}
use Rattle.std.proofs.lemmas.Nat.Bits.{bit_at-zero}
use Rattle.std.proofs.Math.ListN.{replicate}
use Rattle.aim_rules.proofs.Ranges.{list_any-slice_range_more, list_any-slice_range_at}
use Rattle.aim_geometry.specs.declared.tiles.TileRect.{TileRect}
use Rattle.aim_geometry.specs.Rects.{in_rect, tile_at}
use Rattle.std.specs.Prelude.{◌≢◌, slice_index}
use Rattle.std.proofs.lemmas.Bool.{le-leb}
use Rattle.aim_footprint.specs.declared.windows.TileWindow.{TileWindow}
use Rattle.aim_footprint.specs.Windows.{rect_at, is_under, AreRects, AreSteady, IsWindow}

abbrev none : TileRect
none = record { row0 = 0; row1 = 0; col0 = 0; col1 = 0 }

-- one rectangle more
pub under_more : (rects : List TileRect) (low next r c : ℕ) → low ≤ next → next < length rects → is_under rects low (next + 1) r c ≡ (is_under rects low next r c || in_rect (rect_at rects next) r c)
under_more rects low next r c a b = list_any-slice_range_more (λ q. in_rect q r c) rects low next none a b

-- one rectangle settles it
pub under_at : (rects : List TileRect) (low next j r c : ℕ) → low ≤ j → j < next → j < length rects → in_rect (rect_at rects j) r c ≡ true → is_under rects low next r c ≡ true
under_at rects low next j r c a b d h = list_any-slice_range_at (λ q. in_rect q r c) rects low next j none a b d h

-- the first rectangle and the others
pub under_less : (rects : List TileRect) (low next r c : ℕ) → low < next → low < length rects → is_under rects low next r c ≡ (in_rect (rect_at rects low) r c || is_under rects (low + 1) next r c)
under_less rects low next r c a b =
    let e : next - low ≡ suc (next - (low + 1)) = omega arith in
    let f : suc low ≡ low + 1 = omega arith in
    rw (e, drop-cons rects low none b, f) refl

-- where a tile is in the window it is in one of its rectangles
pub under_found : (rects : List TileRect) (low next r c : ℕ) → next ≤ length rects → is_under rects low next r c ≡ true → (j : ℕ) × (low ≤ j) × (j < next) × (in_rect (rect_at rects j) r c ≡ true)
under_found rects low next r c b h = go next refl
  where
    go : (top : ℕ) → top ≡ next → (j : ℕ) × (low ≤ j) × (j < next) × (in_rect (rect_at rects j) r c ≡ true)
    go top e =
        let any = Any-from_list_any (λ q. in_rect q r c) (slice_range rects low next) h in
        let k = any.0 in
        let l : k < length (take (next - low) (drop low rects)) = any.2 in
        let m : k < next - low = omega (arith, length-take (next - low) (drop low rects)) in
        let t : in_rect (get_or (take (next - low) (drop low rects)) k any.1) r c ≡ true = rw any.3 any.4 in (
          low + k,
          omega arith,
          omega arith,
          rw (get_or_default rects (low + k) none any.1 (omega arith), ← get_or-drop low rects k any.1, ← get_or-take (next - low) (drop low rects) k any.1 m) t,
        )

-- the first rectangle goes: what only it had is cleared
pub under_left : (rects : List TileRect) (low next r c : ℕ) → AreSteady rects → low + 1 < next → next ≤ length rects →
    (is_under rects low next r c && not (in_rect (rect_at rects low) r c && not (in_rect (rect_at rects (low + 1)) r c))) ≡ is_under rects (low + 1) next r c
under_left rects low next r c steady a b =
    rw (under_less rects low next r c (omega arith) (omega arith))
    (go (in_rect (rect_at rects low) r c) (in_rect (rect_at rects (low + 1)) r c) (is_under rects (low + 1) next r c) refl refl refl
    (λ k. under_at rects (low + 1) next (low + 1) r c (omega arith) (omega arith) (omega arith) k)
    (λ g u. let f = under_found rects (low + 1) next r c b u in steady.between low (low + 1) f.0 r c (omega arith) f.1 (let s = f.2 in omega arith) g f.3))
  where
    go : (g k u : Bool) → in_rect (rect_at rects low) r c ≡ g → in_rect (rect_at rects (low + 1)) r c ≡ k → is_under rects (low + 1) next r c ≡ u →
        (in_rect (rect_at rects (low + 1)) r c ≡ true → is_under rects (low + 1) next r c ≡ true) →
        (in_rect (rect_at rects low) r c ≡ true → is_under rects (low + 1) next r c ≡ true → in_rect (rect_at rects (low + 1)) r c ≡ true) →
        ((g || u) && not (g && not k)) ≡ u
    go true true true _ _ _ _ _ = refl
    go true true false eg ek eu up down = absurd (let t = up ek in cc)
    go true false true eg ek eu up down = absurd (let t = down eg eu in cc)
    go true false false _ _ _ _ _ = refl
    go false k true _ _ _ _ _ = refl
    go false k false _ _ _ _ _ = refl

-- the first rectangle alone
pub under_one : (rects : List TileRect) (r c : ℕ) → 0 < length rects → is_under rects 0 1 r c ≡ in_rect (rect_at rects 0) r c
under_one rects r c h = under_more rects 0 0 r c (omega arith) h

-- no bit is set
pub empty_at : (r c : ℕ) → r < 64 → tile_at (replicate 64 0) r c ≡ false
empty_at r c h = rw (get_or-replicate {A = ℕ} 64 r 0 0 h, bit_at-zero c) refl

-- no rectangle
pub under_none : (rects : List TileRect) (low r c : ℕ) → false ≡ is_under rects low low r c
under_none rects low r c = let e : low - low ≡ 0 = omega arith in rw e refl

-- a window has a tile
pub window_some : (rects : List TileRect) (w : TileWindow) → AreRects rects → IsWindow rects w → (row : ℕ) × (row < 64) × (slice_index w.rows row ≢ 0)
window_some rects w whole i =
    let o = i.order in
    let n = i.within in
    let q = whole w.low (omega arith) in
    let r = (rect_at rects w.low).row0 in
    let c = (rect_at rects w.low).col0 in
    let a = q.rows in let b = q.last_row in let d = q.columns in let e = q.last_column in
    let low : r < 64 = omega arith in
    let left : c < 64 = omega arith in
    let in_it : in_rect (rect_at rects w.low) r c ≡ true = rw (le-leb r r (omega arith), le-leb r (rect_at rects w.low).row1 a, le-leb c c (omega arith), le-leb c (rect_at rects w.low).col1 d) refl in
    let shown : tile_at w.rows r c ≡ true = i.shows r c low left ∙ under_at rects w.low w.next w.low r c (omega arith) o (omega arith) in_it in
    (r, low, λ z. absurd (let none : tile_at w.rows r c ≡ false = rw (z, bit_at-zero c) refl in cc))
