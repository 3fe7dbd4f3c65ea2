-- The cells of a crossing depend on nothing but the ground, the stations of its path, and the vehicle.
use Rattle.std.proofs.Common.{◌≡◌, Bool, refl, sym, ap, ◌∙◌}
use Rattle.aim_messages.specs.declared.messages.Params.{Params}
use Rattle.aim_geometry.specs.Cells.{Cell}
use Rattle.aim_layout.specs.Intersection.{Intersection, stations}
use Rattle.aim_rules.specs.Footprint.{crossing_steps}
use Rattle.aim_rules.specs.Cells.{in_cells}
use Rattle.aim_rules.specs.Bad.{span_count}
use Rattle.aim_requests.specs.Grounds.{alone, on_it}

pub cells_alone : (i : Intersection) (p : Params) (fast : Bool) (c : Cell) → in_cells i p fast c ≡ in_cells (alone i.grid i.times (stations i p.lane p.turn)) (on_it p) fast c
cells_alone i p fast c = refl

pub count_alone : (i : Intersection) (p : Params) (fast : Bool) → span_count i p fast ≡ span_count (alone i.grid i.times (stations i p.lane p.turn)) (on_it p) fast
count_alone i p fast = refl

pub steps_alone : (i : Intersection) (p : Params) (fast : Bool) → crossing_steps i p fast ≡ crossing_steps (alone i.grid i.times (stations i p.lane p.turn)) (on_it p) fast
steps_alone i p fast = refl

-- So crossings of two intersections with one ground, of one vehicle on paths with one list of stations, need the same cells.
module _ (i j : Intersection) (p q : Params) (grid : i.grid ≡ j.grid) (times : i.times ≡ j.times) (path : stations i p.lane p.turn ≡ stations j q.lane q.turn) (vehicle : on_it p ≡ on_it q) (fast : Bool) where
  same : {X : Type 0} (f : Intersection → Params → X) → f (alone i.grid i.times (stations i p.lane p.turn)) (on_it p) ≡ f (alone j.grid j.times (stations j q.lane q.turn)) (on_it q)
  same f =
      ap (λ g. f (alone g i.times (stations i p.lane p.turn)) (on_it p)) grid
      ∙ ap (λ t. f (alone j.grid t (stations i p.lane p.turn)) (on_it p)) times
      ∙ ap (λ s. f (alone j.grid j.times s) (on_it p)) path
      ∙ ap (λ v. f (alone j.grid j.times (stations j q.lane q.turn)) v) vehicle

  pub cells_same : (c : Cell) → in_cells i p fast c ≡ in_cells j q fast c
  cells_same c = cells_alone i p fast c ∙ same (λ k v. in_cells k v fast c) ∙ sym (cells_alone j q fast c)

  pub count_same : span_count i p fast ≡ span_count j q fast
  count_same = count_alone i p fast ∙ same (λ k v. span_count k v fast) ∙ sym (count_alone j q fast)

  pub steps_same : crossing_steps i p fast ≡ crossing_steps j q fast
  steps_same = steps_alone i p fast ∙ same (λ k v. crossing_steps k v fast) ∙ sym (steps_alone j q fast)
