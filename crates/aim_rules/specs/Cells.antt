-- The pairs of a tile of the grid and a step that a crossing needs. Steps count from 0 on.
use Rattle.std.specs.Prelude.{◌≡◌, ◌⊎◌, ℕ, [], ◌∷◌, ◌+◌, ◌-◌, ◌*◌, Bool, ◌&&◌, nat_le, List, map, filter, flat_map, if◌then◌else◌}
use Rattle.std.specs.List.{range_with_len}
use Rattle.aim_messages.specs.declared.messages.Params.{Params}
use Rattle.aim_geometry.specs.Bounded.{some_below}
use Rattle.aim_geometry.specs.Cells.{Cell}
use Rattle.aim_geometry.specs.Ground.{is_edge}
use Rattle.aim_layout.specs.Intersection.{Intersection}
use Rattle.aim_rules.specs.Footprint.{in_footprint, crossing_steps}

-- whether a tile that the vehicle needs at the step `at` is kept in the step s
abbrev pub is_buffered : Intersection → ℕ → ℕ → ℕ → ℕ → Bool
is_buffered i row col at s =
    if is_edge i.grid row col then nat_le at (s + i.times.edge) && nat_le s (at + i.times.edge)
    else nat_le at (s + i.times.early) && nat_le s (at + i.times.late)

-- whether the crossing needs the cell
abbrev pub in_cells : Intersection → Params → Bool → Cell → Bool
in_cells i p fast c =
    some_below (crossing_steps i p fast) (λ k. is_buffered i c.row c.col (p.arrive + k) c.step && in_footprint i p fast i.grid.fixed k c.row c.col)

-- the cells of an n by n grid in the given steps, by step, row and column
abbrev pub block : ℕ → List ℕ → List Cell
block n steps =
    flat_map (λ s. flat_map (λ r. map (λ c. record { row = r; col = c; step = s }) (range_with_len 0 n)) (range_with_len 0 n)) steps

-- the steps in which the crossing can need a cell, from 0 on
abbrev pub steps_of : Intersection → Params → Bool → List ℕ
steps_of i p fast = range_with_len (p.arrive - i.times.edge) (crossing_steps i p fast + 2 * i.times.edge)

-- whether a list has an element
abbrev pub IsIn : {X : Type 0} → X → List X → Type 0
IsIn c [] = ⊥
IsIn c (x ∷ xs) = (c ≡ x) ⊎ IsIn c xs

-- the cells that the crossing needs, by step, row and column
abbrev pub cells : Intersection → Params → Bool → List Cell
cells i p fast = filter (in_cells i p fast) (block i.grid.n (steps_of i p fast))
