-- The stations of shapes, one by one.
use Rattle.std.proofs.Common.{◌≡◌, ℕ, ◌+◌, ◌<◌, ◌≤◌, false, List, [], ◌∷◌, length, get_or, arith, nat_lt}
use Rattle.std.specs.List.{list_any}
use Rattle.std.proofs.lemmas.Bool.{or_parts, ltb-false}
use Rattle.std.proofs.lemmas.Bool.Decides.{nat_tests}
use Rattle.std.proofs.lemmas.List.FromFn.{length-map-range_with_len, get_or-map-range_with_len}
use Rattle.aim_geometry.specs.declared.stations.Station.{Station}
use Rattle.aim_geometry.specs.Stations.{on_line, on_curve}
use Rattle.aim_geometry.specs.Bounded.{is_outside}
use Rattle.aim_geometry.proofs.StationLemmas.{on_line_le, on_curve_le}
use Rattle.aim_layout.specs.declared.shapes.Shape.{Shape}
use Rattle.aim_layout.specs.declared.shapes.Shape.TheVariants.{Line, Curve}
use Rattle.aim_layout.specs.Shapes.{stations_of, parts_of, coordinates, is_bad_shape}

-- station j, by its formula
abbrev pub place : Shape → ℕ → Station
place (Line x0 y0 x1 y1 m) j = record { x = on_line x0 x1 m j; y = on_line y0 y1 m j }
place (Curve x0 y0 x1 y1 x2 y2 m) j = record { x = on_curve x0 x1 x2 m j; y = on_curve y0 y1 y2 m j }

pub length-stations_of : (s : Shape) → length (stations_of s) ≡ parts_of s + 1
length-stations_of (Line x0 y0 x1 y1 m) = length-map-range_with_len (place (Line x0 y0 x1 y1 m)) 0 (m + 1)
length-stations_of (Curve x0 y0 x1 y1 x2 y2 m) = length-map-range_with_len (place (Curve x0 y0 x1 y1 x2 y2 m)) 0 (m + 1)

pub get_or-stations_of : (s : Shape) (j : ℕ) (d : Station) → j ≤ parts_of s → get_or (stations_of s) j d ≡ place s j
get_or-stations_of (Line x0 y0 x1 y1 m) j d h = get_or-map-range_with_len (place (Line x0 y0 x1 y1 m)) 0 (m + 1) j j d (omega arith) (omega arith)
get_or-stations_of (Curve x0 y0 x1 y1 x2 y2 m) j d h = get_or-map-range_with_len (place (Curve x0 y0 x1 y1 x2 y2 m)) 0 (m + 1) j j d (omega arith) (omega arith)

pub parts_most : (s : Shape) (side : ℕ) → is_bad_shape side s ≡ false → (0 < parts_of s) × (parts_of s ≤ 4096)
parts_most s side h = grind (arith, nat_tests)

-- a shape on a ground is one on the largest ground
pub is_bad_shape-largest : (s : Shape) (side : ℕ) → side ≤ 1000000 → is_bad_shape side s ≡ false → is_bad_shape 1000000 s ≡ false
is_bad_shape-largest (Line x0 y0 x1 y1 m) side l h = grind (arith, nat_tests)
is_bad_shape-largest (Curve x0 y0 x1 y1 x2 y2 m) side l h = grind (arith, nat_tests)

-- no number exceeds the side
abbrev EachMost : ℕ → List ℕ → Type 0
EachMost side [] = Unit {0}
EachMost side (x ∷ xs) = (x ≤ side) × EachMost side xs

each_most : (side : ℕ) (xs : List ℕ) → list_any (nat_lt side) xs ≡ false → EachMost side xs
each_most side [] h = tt
each_most side (x ∷ xs) h =
    let e = or_parts (nat_lt side x) (list_any (nat_lt side) xs) h in
    (ltb-false side x e.0, each_most side xs e.1)

inside : (s : Shape) (side : ℕ) → is_bad_shape side s ≡ false → EachMost side (coordinates s)
inside s side h = each_most side (coordinates s) (or_parts (is_outside (parts_of s) 4096) (list_any (nat_lt side) (coordinates s)) h).1

pub place_inside : (s : Shape) (side j : ℕ) → is_bad_shape side s ≡ false → j ≤ parts_of s → ((place s j).x ≤ side) × ((place s j).y ≤ side)
place_inside (Line x0 y0 x1 y1 m) side j h l =
    let e = inside (Line x0 y0 x1 y1 m) side h in
    (on_line_le x0 x1 m j side l e.0 e.1.1.0, on_line_le y0 y1 m j side l e.1.0 e.1.1.1.0)
place_inside (Curve x0 y0 x1 y1 x2 y2 m) side j h l =
    let e = inside (Curve x0 y0 x1 y1 x2 y2 m) side h in
    (on_curve_le x0 x1 x2 m j side l e.0 e.1.1.0 e.1.1.1.1.0, on_curve_le y0 y1 y2 m j side l e.1.0 e.1.1.1.0 e.1.1.1.1.1.0)

-- the numbers of a line and of a curve within their ranges, and one of their stations
pub record IsLine (side x0 y0 x1 y1 m j : ℕ) : Type 0 where
  pub parts : 0 < m
  pub most : m ≤ 4096
  pub place : j ≤ m
  pub from_x : x0 ≤ side
  pub from_y : y0 ≤ side
  pub to_x : x1 ≤ side
  pub to_y : y1 ≤ side

pub record IsCurve (side x0 y0 x1 y1 x2 y2 m j : ℕ) : Type 0 where
  pub parts : 0 < m
  pub most : m ≤ 4096
  pub place : j ≤ m
  pub from_x : x0 ≤ side
  pub from_y : y0 ≤ side
  pub by_x : x1 ≤ side
  pub by_y : y1 ≤ side
  pub to_x : x2 ≤ side
  pub to_y : y2 ≤ side

pub line_numbers : (s : Shape) (side x0 y0 x1 y1 m j : ℕ) → s ≡ Line x0 y0 x1 y1 m → is_bad_shape side s ≡ false → j ≤ parts_of s → IsLine side x0 y0 x1 y1 m j
line_numbers s side x0 y0 x1 y1 m j is h l =
    let b : is_bad_shape side (Line x0 y0 x1 y1 m) ≡ false = rw is at h in
    let k : j ≤ m = rw is at l in
    let p = parts_most (Line x0 y0 x1 y1 m) side b in
    let e = inside (Line x0 y0 x1 y1 m) side b in
    record { parts = p.0; most = p.1; place = k; from_x = e.0; from_y = e.1.0; to_x = e.1.1.0; to_y = e.1.1.1.0 }

pub curve_numbers : (s : Shape) (side x0 y0 x1 y1 x2 y2 m j : ℕ) → s ≡ Curve x0 y0 x1 y1 x2 y2 m → is_bad_shape side s ≡ false → j ≤ parts_of s → IsCurve side x0 y0 x1 y1 x2 y2 m j
curve_numbers s side x0 y0 x1 y1 x2 y2 m j is h l =
    let b : is_bad_shape side (Curve x0 y0 x1 y1 x2 y2 m) ≡ false = rw is at h in
    let k : j ≤ m = rw is at l in
    let p = parts_most (Curve x0 y0 x1 y1 x2 y2 m) side b in
    let e = inside (Curve x0 y0 x1 y1 x2 y2 m) side b in
    record { parts = p.0; most = p.1; place = k; from_x = e.0; from_y = e.1.0; by_x = e.1.1.0; by_y = e.1.1.1.0; to_x = e.1.1.1.1.0; to_y = e.1.1.1.1.1.0 }
