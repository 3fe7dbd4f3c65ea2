-- A window of rectangles has the tiles under the vehicle in its step.
use Rattle.std.proofs.Common.{◌≡◌, ℕ, ◌+◌, ◌-◌, ◌/◌, ◌<◌, ◌≤◌, Bool, true, List, length, get_or, drop, take, min, arith, sym, ◌∙◌, length-drop, length-take, get_or-drop, get_or-take}
use Rattle.std.specs.List.{list_any, slice_range}
use Rattle.std.proofs.lemmas.List.{get_or_default}
use Rattle.std.proofs.lemmas.List.Folds.{Any-from_list_any}
use Rattle.aim_messages.specs.declared.messages.Params.{Params}
use Rattle.aim_geometry.specs.Bounded.{ceil_div}
use Rattle.aim_geometry.specs.declared.tiles.TileRect.{TileRect}
use Rattle.aim_geometry.specs.Rects.{in_rect}
use Rattle.aim_geometry.specs.Ground.{is_touched}
use Rattle.aim_layout.specs.Intersection.{Intersection, stations}
use Rattle.aim_rules.specs.Motion.{front}
use Rattle.aim_rules.specs.Footprint.{in_footprint}
use Rattle.aim_rules.proofs.Ranges.{list_any-slice_range_at}
use Rattle.aim_footprint.specs.declared.reaches.Reach.{Reach}
use Rattle.aim_footprint.specs.Reaches.{AreReachesOf}
use Rattle.aim_footprint.specs.Fills.{AreRectsOf}
use Rattle.aim_footprint.proofs.Unions.{is_reached, alike}

-- where a part of a list passes, one of its elements does
any_found : {X : Type 0} (p : X → Bool) (xs : List X) (low next : ℕ) (d : X) → list_any p (slice_range xs low next) ≡ true → (j : ℕ) × (low ≤ j) × (j < next) × (j < length xs) × (p (get_or xs j d) ≡ true)
any_found p xs low next d h =
    let any = Any-from_list_any p (slice_range xs low next) h in
    let k = any.0 in
    let l : k < length (take (next - low) (drop low xs)) = any.2 in
    let m : k < next - low = omega (arith, length-take (next - low) (drop low xs)) in
    let n : k < length (drop low xs) = omega (arith, length-take (next - low) (drop low xs)) in
    let o : low + k < length xs = omega (arith, length-drop low xs) in
    let t : p (get_or (take (next - low) (drop low xs)) k any.1) ≡ true = rw any.3 any.4 in
    (low + k, omega arith, omega arith, o, rw (get_or_default xs (low + k) d any.1 o, ← get_or-drop low xs k any.1, ← get_or-take (next - low) (drop low xs) k any.1 m) t)

-- Tests that agree element by element agree on a part, which the end of the list may cut.
any_alike : {X Y : Type 0} (p : X → Bool) (q : Y → Bool) (xs : List X) (ys : List Y) (d : X) (e : Y) (low a b : ℕ) → length xs ≡ length ys →
    ((j : ℕ) → j < length xs → p (get_or xs j d) ≡ q (get_or ys j e)) → ((j : ℕ) → j < length xs → j < a → j < b) → ((j : ℕ) → j < length xs → j < b → j < a) →
    list_any p (slice_range xs low a) ≡ list_any q (slice_range ys low b)
any_alike p q xs ys d e low a b same each there back = alike _ _
    (λ h. let f = any_found p xs low a d h in
    list_any-slice_range_at q ys low b f.0 e f.1 (there f.0 f.3 f.2) (let l = f.3 in omega arith) (sym (each f.0 f.3) ∙ f.4))
    (λ h. let f = any_found q ys low b e h in
    let l : f.0 < length xs = let m = f.3 in omega arith in
    list_any-slice_range_at p xs low a f.0 d f.1 (back f.0 l f.2) l (each f.0 l ∙ f.4))

-- The tiles of step k are those under the vehicle.
pub reached_footprint : (i : Intersection) (p : Params) (fast : Bool) (extra : ℕ) (rects : List TileRect) (reaches : List Reach) (k row col : ℕ) →
    AreRectsOf i.grid (ceil_div p.width 2 + i.grid.spacing + extra) (stations i p.lane p.turn) rects → AreReachesOf i p fast reaches → 0 < length rects → k < length reaches →
    is_reached rects reaches k row col ≡ in_footprint i p fast extra k row col
reached_footprint i p fast extra rects reaches k row col round reach some l =
    let same = round.count in
    rw (reach.each k l)
    (any_alike (λ q. in_rect q row col) (λ s. is_touched i.grid (ceil_div p.width 2 + i.grid.spacing + extra) s row col) rects (stations i p.lane p.turn)
    (record { row0 = 0; row1 = 0; col0 = 0; col1 = 0 }) (record { x = 0; y = 0 }) ((front p fast k - p.length) / i.grid.spacing)
    (min (ceil_div (front p fast (k + 1)) i.grid.spacing) (length (stations i p.lane p.turn) - 1) + 1) (ceil_div (front p fast (k + 1)) i.grid.spacing + 1) same
    (λ j m. round.exact j row col (omega arith))
    (λ j m n. omega arith) (λ j m n. omega arith))
