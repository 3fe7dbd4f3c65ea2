-- What a valid layout says of its parts.
use Rattle.std.proofs.Common.{◌≡◌, ℕ, ◌<◌, ◌≤◌, Bool, not, List, [], ◌∷◌, length, get_or, None, arith, refl, sym, ap}
use Rattle.std.specs.Prelude.{◌==◌, is_some}
use Rattle.std.proofs.lemmas.Bool.{ne_eqb}
use Rattle.std.proofs.lemmas.Option.{slice_get_past, slice_get_read}
use Rattle.aim_messages.specs.declared.messages.Turn.{Turn}
use Rattle.aim_geometry.specs.declared.stations.Station.{Station}
use Rattle.aim_layout.specs.Intersection.{Intersection, Lane, path, path_of}
use Rattle.aim_layout.specs.LaneRooms.{offered}
use Rattle.aim_layout.specs.Valid.{IsSound}

-- the path of a lane that was read
pub path_read : (i : Intersection) (lane : ℕ) (turn : Turn) (l : Lane) → lane < length i.lanes → l ≡ get_or i.lanes lane l → path_of l turn ≡ path i lane turn
path_read i lane turn l h e = rw (slice_get_read i.lanes (length i.lanes) lane l refl h e) refl

pub path_past : (i : Intersection) (lane : ℕ) (turn : Turn) → length i.lanes ≤ lane → path i lane turn ≡ None
path_past i lane turn h = rw (slice_get_past i.lanes lane h) refl

-- a path that is offered has at least two stations
pub stations_some : (i : Intersection) (lane : ℕ) (turn : Turn) (ss : List Station) → IsSound i → offered ss ≡ path i lane turn → 0 < length ss → 1 < length ss
stations_some i lane turn [] v h l = absurd (omega arith)
stations_some i lane turn (s ∷ ss) v h l = (v.paths lane turn (s ∷ ss) (sym h)).some

pub stations_most : (i : Intersection) (lane : ℕ) (turn : Turn) (ss : List Station) → IsSound i → offered ss ≡ path i lane turn → length ss ≤ 4097
stations_most i lane turn [] v h = omega arith
stations_most i lane turn (s ∷ ss) v h = (v.paths lane turn (s ∷ ss) (sym h)).most

-- whether the lane that was read offers the turn
pub offered_test : (i : Intersection) (lane : ℕ) (turn : Turn) (l : Lane) (ss : List Station) (empty : Bool) → lane < length i.lanes → l ≡ get_or i.lanes lane l →
    offered ss ≡ path_of l turn → empty ≡ (length ss == 0) → not empty ≡ is_some (path i lane turn)
offered_test i lane turn l ss empty h e o is = rw (is, ← path_read i lane turn l h e, ← o) (go ss)
  where
    go : (ss : List Station) → not (length ss == 0) ≡ is_some (offered ss)
    go [] = refl
    go (s ∷ ss) = ap not (ne_eqb (length (s ∷ ss)) 0 (λ e. (omega arith)))
