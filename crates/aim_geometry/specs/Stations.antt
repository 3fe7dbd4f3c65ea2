-- The stations of a path: m + 1 places, from its start to its end.
use Rattle.std.specs.Prelude.{ℕ, ◌+◌, ◌-◌, ◌*◌, ◌/◌, ◌^◌, List, map}
use Rattle.std.specs.List.{range_with_len}
use Rattle.aim_geometry.specs.declared.stations.Station.{Station}

-- x0 + floor (j * (x1 - x0) / m)
abbrev pub on_line : ℕ → ℕ → ℕ → ℕ → ℕ
on_line x0 x1 m j = ((m - j) * x0 + j * x1) / m

-- the mean of the three places, by the weights (m - j) ^ 2, 2 * j * (m - j) and j ^ 2, rounded down
abbrev pub on_curve : ℕ → ℕ → ℕ → ℕ → ℕ → ℕ
on_curve x0 x1 x2 m j = ((m - j) ^ 2 * x0 + 2 * j * (m - j) * x1 + j ^ 2 * x2) / m ^ 2

abbrev pub line : ℕ → ℕ → ℕ → ℕ → ℕ → List Station
line x0 y0 x1 y1 m = map (λ j. record { x = on_line x0 x1 m j; y = on_line y0 y1 m j }) (range_with_len 0 (m + 1))

abbrev pub curve : ℕ → ℕ → ℕ → ℕ → ℕ → ℕ → ℕ → List Station
curve x0 y0 x1 y1 x2 y2 m =
    map (λ j. record { x = on_curve x0 x1 x2 m j; y = on_curve y0 y1 y2 m j }) (range_with_len 0 (m + 1))
