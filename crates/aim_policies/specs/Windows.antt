-- The greens of a round that a window of offsets meets. No public clause cites it: only contracts of private functions.
use Rattle.std.specs.Prelude.{ℕ, ◌+◌, Bool, false, ◌&&◌, ◌||◌, nat_le, nat_lt, List, [], ◌∷◌}
use Rattle.aim_layout.specs.declared.policies.Phase.{Phase}
use Rattle.aim_layout.specs.Policies.{has_lane}

-- whether the lane has a green, in this round or a later one, that some offset of the window is in: the phases begin at the end
abbrev pub is_met : ℕ → ℕ → ℕ → ℕ → List Phase → ℕ → Bool
is_met from to turn end [] lane = false
is_met from to turn end (p ∷ ps) lane =
    ((nat_le (end + p.red) to && nat_lt from (end + p.red + p.green) || nat_le (end + p.red + turn) to) && has_lane p.lanes lane)
    || is_met from to turn (end + p.red + p.green) ps lane
