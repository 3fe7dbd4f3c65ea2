-- Tiles that meet a square are the grid's.
use Rattle.std.proofs.Common.{◌≡◌, ℕ, ◌<◌, inl, inr, ◌⊎◌, Bool, true, false, ◌&&◌, ◌||◌, List, [], ◌∷◌, refl, nat_lt}
use Rattle.std.specs.List.{list_any}
use Rattle.std.proofs.lemmas.Bool.{and_parts, ltb-true}
use Rattle.aim_geometry.specs.declared.ground.Grid.{Grid}
use Rattle.aim_geometry.specs.declared.stations.Station.{Station}
use Rattle.aim_geometry.specs.Ground.{is_touched, meets, tile_of}

pub either : (x y : Bool) → (x || y) ≡ true → (x ≡ true) ⊎ (y ≡ true)
either true y h = inl refl
either false y h = inr h

pub touched_inside : (g : Grid) (half : ℕ) (s : Station) (row col : ℕ) → is_touched g half s row col ≡ true → (row < g.n) × (col < g.n)
touched_inside g half s row col h =
    let p = and_parts (nat_lt row g.n && nat_lt col g.n && meets (tile_of g) half col s.x) (meets (tile_of g) half row s.y) h in
    let q = and_parts (nat_lt row g.n && nat_lt col g.n) (meets (tile_of g) half col s.x) p.0 in
    let r = and_parts (nat_lt row g.n) (nat_lt col g.n) q.0 in
    (ltb-true row g.n r.0, ltb-true col g.n r.1)

pub any_touched_inside : (g : Grid) (half : ℕ) (ss : List Station) (row col : ℕ) → list_any (λ s. is_touched g half s row col) ss ≡ true → (row < g.n) × (col < g.n)
any_touched_inside g half [] row col h = absurd (cc)
any_touched_inside g half (s ∷ ss) row col h = elim (either (is_touched g half s row col) (list_any (λ t. is_touched g half t row col) ss) h) [
  | inl e ↦ touched_inside g half s row col e
  | inr e ↦ any_touched_inside g half ss row col e
]
