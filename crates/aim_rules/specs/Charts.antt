-- The chart of a step.
use Rattle.std.specs.Prelude.{ℕ, nat_lt, List, [], ◌∷◌, ◌++◌, map, reverse, flat_map, length, if◌then◌else◌}
use Rattle.std.specs.List.{list_any, range_with_len}
use Rattle.aim_messages.specs.declared.entries.Entry.{Entry}
use Rattle.aim_geometry.specs.Bounded.{some_below}
use Rattle.aim_layout.specs.Intersection.{Intersection}
use Rattle.aim_geometry.specs.Cells.{Cell}
use Rattle.aim_rules.specs.History.{Fresh, fresh, now_of}
use Rattle.aim_rules.specs.Holds.{reservations, is_granted}
use Rattle.aim_rules.specs.Claims.{is_claimed}

-- `#` for a cell that a vehicle holds, else `g` for one that a lane claims, else `.`
abbrev pub mark : Intersection → List Entry → List Fresh → Cell → ℕ
mark i h rs c =
    if list_any (λ x. is_granted i x c) rs then 35
    else if some_below (length i.lanes) (λ lane. is_claimed i h lane c) then 103
    else 46

-- a line, with byte 10 at its end
abbrev pub chart_row : Intersection → List Entry → List Fresh → ℕ → ℕ → List ℕ
chart_row i h rs step row =
    map (λ col. mark i h rs (record { row = row; col = col; step = step })) (range_with_len 0 i.grid.n) ++ 10 ∷ []

abbrev pub blank_row : Intersection → List ℕ
blank_row i = map (λ col. 46) (range_with_len 0 i.grid.n) ++ 10 ∷ []

-- the north row first; a step that is past at the journal's greatest moment has no mark
abbrev pub chart : Intersection → List Entry → ℕ → List ℕ
chart i h step =
    let rs = reservations i (fresh h) (now_of h 0) in
    if nat_lt step (now_of h 0) then flat_map (λ row. blank_row i) (range_with_len 0 i.grid.n)
    else flat_map (chart_row i h rs step) (reverse (range_with_len 0 i.grid.n))
