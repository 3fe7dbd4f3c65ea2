-- The stations of shapes.
use Rattle.std.specs.Prelude.{ℕ, ◌+◌, ◌-◌, Bool, ◌||◌, nat_lt, List, [], ◌∷◌, length, Option}
use Rattle.std.specs.List.{list_any, slice_index_or}
use Rattle.aim_geometry.specs.declared.stations.Station.{Station}
use Rattle.aim_geometry.specs.Bounded.{is_outside, least_below}
use Rattle.aim_geometry.specs.Stations.{line, curve}
use Rattle.aim_layout.specs.declared.shapes.Shape.{Shape}
use Rattle.aim_layout.specs.declared.shapes.Shape.TheVariants.{Line, Curve}

abbrev pub stations_of : Shape → List Station
stations_of (Line x0 y0 x1 y1 m) = line x0 y0 x1 y1 m
stations_of (Curve x0 y0 x1 y1 x2 y2 m) = curve x0 y0 x1 y1 x2 y2 m

-- the number of parts
abbrev pub parts_of : Shape → ℕ
parts_of (Line x0 y0 x1 y1 m) = m
parts_of (Curve x0 y0 x1 y1 x2 y2 m) = m

abbrev pub coordinates : Shape → List ℕ
coordinates (Line x0 y0 x1 y1 m) = x0 ∷ y0 ∷ x1 ∷ y1 ∷ []
coordinates (Curve x0 y0 x1 y1 x2 y2 m) = x0 ∷ y0 ∷ x1 ∷ y1 ∷ x2 ∷ y2 ∷ []

-- whether the number of parts isn't 1 to 4096, or a coordinate exceeds the side
abbrev pub is_bad_shape : ℕ → Shape → Bool
is_bad_shape side s = is_outside (parts_of s) 4096 || list_any (nat_lt side) (coordinates s)

-- how far two places on an axis are apart
abbrev pub apart : ℕ → ℕ → ℕ
apart a b = (a - b) + (b - a)

-- whether two stations are more than the spacing apart, in x or in y
abbrev pub are_wide : ℕ → Station → Station → Bool
are_wide spacing a b = nat_lt spacing (apart a.x b.x) || nat_lt spacing (apart a.y b.y)

abbrev pub origin : Station
origin = record { x = 0; y = 0 }

-- the least station that is more than the spacing away from the next one
abbrev pub wide_step : ℕ → List Station → Option ℕ
wide_step spacing ss = least_below (length ss - 1) (λ j. are_wide spacing (slice_index_or ss j origin) (slice_index_or ss (j + 1) origin))
