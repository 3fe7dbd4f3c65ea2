-- The cells of a step are the tiles of two windows: a wide one at the border, and a narrow one inside.
use Rattle.std.proofs.Common.{◌≡◌, ℕ, ◌+◌, ◌-◌, ◌*◌, ◌<◌, ◌≤◌, Bool, true, false, ◌&&◌, List, length, min, arith, refl, nat_le, ◌∙◌, inl, inr, ◌⊎◌}
use Rattle.std.proofs.lemmas.Bool.{lt-leb}
use Rattle.aim_messages.specs.declared.messages.Params.{Params}
use Rattle.aim_geometry.specs.declared.tiles.TileRect.{TileRect}
use Rattle.aim_geometry.specs.Ground.{is_edge}
use Rattle.aim_geometry.proofs.BoundedLemmas.{some_below_none}
use Rattle.aim_layout.specs.Intersection.{Intersection}
use Rattle.aim_rules.specs.Cells.{in_cells}
use Rattle.aim_footprint.specs.declared.reaches.Reach.{Reach}
use Rattle.aim_footprint.specs.Windows.{is_under}
use Rattle.aim_footprint.specs.Reaches.{reach_at}
use Rattle.aim_footprint.proofs.Unions.{window_cells}
use Rattle.aim_footprint.proofs.Footprints.{reached_footprint}
use Rattle.aim_requests.specs.Moves.{IsTrial}
use Rattle.aim_requests.proofs.CountLemmas.{some_alike}

-- the window of the steps from which a tile is kept in the step t, counted from `edge` steps before the arrival on
abbrev pub window_at : List TileRect → List Reach → ℕ → ℕ → ℕ → ℕ → ℕ → ℕ → Bool
window_at rects reaches edge before after t row col =
    is_under rects (reach_at reaches (t - (edge + after))).low ((reach_at reaches (min (t + before - edge) (length reaches - 1))).high + 1) row col

-- a tile at the border
pub cells_border : (i : Intersection) (p : Params) (fast : Bool) (rects : List TileRect) (reaches : List Reach) (s t row col : ℕ) → IsTrial i p fast rects reaches →
    s + i.times.edge ≡ p.arrive + t → t < length reaches + 2 * i.times.edge → is_edge i.grid row col ≡ true →
    in_cells i p fast (record { row = row; col = col; step = s }) ≡ window_at rects reaches i.times.edge i.times.edge i.times.edge t row col
cells_border i p fast rects reaches s t row col r e few edge =
    let reach = r.reach in
    let count = reach.count in
    let order = reach.order in
    let same = r.round.count in
    rw (← count)
    (some_alike (length reaches) _ _ (λ k l. rw (edge, reached_footprint i p fast i.grid.fixed rects reaches k row col r.round reach r.some l) refl)
    ∙ window_cells rects reaches p.arrive s t i.times.edge i.times.edge i.times.edge row col (rw (← same) at order) e r.some_steps (let s = r.some_steps in omega arith) (let s = r.some_steps in omega arith))

-- another tile, where the step is near enough to the crossing
pub cells_inside : (i : Intersection) (p : Params) (fast : Bool) (rects : List TileRect) (reaches : List Reach) (s t row col : ℕ) → IsTrial i p fast rects reaches →
    s + i.times.edge ≡ p.arrive + t → i.times.edge ≤ t + i.times.early → t ≤ length reaches - 1 + i.times.edge + i.times.late → is_edge i.grid row col ≡ false →
    in_cells i p fast (record { row = row; col = col; step = s }) ≡ window_at rects reaches i.times.edge i.times.early i.times.late t row col
cells_inside i p fast rects reaches s t row col r e from to edge =
    let reach = r.reach in
    let count = reach.count in
    let order = reach.order in
    let same = r.round.count in
    rw (← count)
    (some_alike (length reaches) _ _ (λ k l. rw (edge, reached_footprint i p fast i.grid.fixed rects reaches k row col r.round reach r.some l) refl)
    ∙ window_cells rects reaches p.arrive s t i.times.edge i.times.early i.times.late row col (rw (← same) at order) e r.some_steps from to)

far_off : (arrive s t edge before after k count : ℕ) → s + edge ≡ arrive + t → k < count → (t + before < edge) ⊎ (count - 1 + edge + after < t) → (nat_le (arrive + k) (s + before) && nat_le s (arrive + k + after)) ≡ false
far_off arrive s t edge before after k count e l (inl early) = let z : nat_le (arrive + k) (s + before) ≡ false = lt-leb (arrive + k) (s + before) (omega arith) in rw z refl
far_off arrive s t edge before after k count e l (inr late) = let z : nat_le s (arrive + k + after) ≡ false = lt-leb s (arrive + k + after) (omega arith) in rw z (and_false (nat_le (arrive + k) (s + before)))
  where
    and_false : (b : Bool) → (b && false) ≡ false
    and_false true = refl
    and_false false = refl

-- and no such tile where it is not
pub cells_none : (i : Intersection) (p : Params) (fast : Bool) (rects : List TileRect) (reaches : List Reach) (s t row col : ℕ) → IsTrial i p fast rects reaches →
    s + i.times.edge ≡ p.arrive + t → (t + i.times.early < i.times.edge) ⊎ (length reaches - 1 + i.times.edge + i.times.late < t) → is_edge i.grid row col ≡ false →
    in_cells i p fast (record { row = row; col = col; step = s }) ≡ false
cells_none i p fast rects reaches s t row col r e far edge =
    let count = r.reach.count in
    rw (← count) (some_below_none (length reaches) _ (λ k l. rw (edge, far_off p.arrive s t i.times.edge i.times.early i.times.late k (length reaches) e l far) refl))
