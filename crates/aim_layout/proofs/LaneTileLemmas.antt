-- The tiles of a lane, as paths are added to a layout.
use Rattle.std.proofs.Common.{◌≡◌, ℕ, ◌<◌, inl, inr, Bool, true, false, ◌||◌, List, [], length, take, ◌+◌, slice_get, get_or, set, replicate, Option, Some, None, arith, refl, sym, ◌∙◌, ap}
use Rattle.std.proofs.lemmas.Bool.{cases_eq}
use Rattle.std.proofs.lemmas.List.{length-set, length-replicate, get_or-set_same, get_or-set_other, get_or-replicate}
use Rattle.std.proofs.lemmas.List.Folds.{list_any_more}
use Rattle.std.proofs.lemmas.Option.{slice_get-get_or}
use Rattle.std.proofs.lemmas.Nat.Bits.{bit_at-zero}
use Rattle.aim_messages.specs.declared.messages.Turn.{Turn}
use Rattle.aim_messages.specs.declared.messages.Turn.TheVariants.{Left, Straight, Right}
use Rattle.aim_geometry.specs.declared.stations.Station.{Station}
use Rattle.aim_geometry.specs.declared.ground.Grid.{Grid}
use Rattle.aim_geometry.specs.Ground.{is_touched}
use Rattle.aim_geometry.specs.Rects.{tile_at}
use Rattle.aim_geometry.specs.Sites.{Site}
use Rattle.aim_geometry.proofs.TouchLemmas.{either, any_touched_inside}
use Rattle.aim_layout.specs.declared.shapes.Shape.{Shape}
use Rattle.aim_layout.specs.Shapes.{stations_of}
use Rattle.aim_layout.specs.Intersection.{Intersection, Lane, path_of, path}
use Rattle.aim_layout.specs.LaneTiles.{is_met, is_on_path, is_on_lane, in_lane_tiles}
use Rattle.aim_layout.specs.LaneRows.{HasTiles}
use Rattle.aim_layout.specs.Building.{with_path, with_move, no_paths, bare}
use Rattle.aim_layout.proofs.Elements.{slice_get-set_same, slice_get-set_other}

-- what is on a path or a lane depends on the grid alone
on_path_same : (i j : Intersection) (o : Option (List Station)) (row col : ℕ) → i.grid ≡ j.grid → is_on_path i o row col ≡ is_on_path j o row col
on_path_same i j None row col e = refl
on_path_same i j (Some ss) row col e = ap (λ g. is_met g ss row col) e

on_lane_same : (i j : Intersection) (o : Option Lane) (row col : ℕ) → i.grid ≡ j.grid → is_on_lane i o row col ≡ is_on_lane j o row col
on_lane_same i j None row col e = refl
on_lane_same i j (Some l) row col e =
    rw (on_path_same i j l.left row col e, on_path_same i j l.straight row col e, on_path_same i j l.right row col e) refl

pub in_lane_same : (i j : Intersection) (lane row col : ℕ) → i.grid ≡ j.grid → i.lanes ≡ j.lanes → in_lane_tiles i lane row col ≡ in_lane_tiles j lane row col
in_lane_same i j lane row col e f =
    on_lane_same i j (slice_get i.lanes lane) row col e ∙ ap (λ ls. is_on_lane j (slice_get ls lane) row col) f

-- the rows stay right while lanes and grid stay
pub HasTiles-same : (i j : Intersection) (tiles : List (List ℕ)) → i.grid ≡ j.grid → i.lanes ≡ j.lanes → HasTiles i tiles → HasTiles j tiles
HasTiles-same i j tiles e f h = record {
  count = h.count ∙ ap length f;
  rows = λ lane l row col r c.
      let m : lane < length i.lanes = omega (arith, ap length f) in
      h.rows lane m row col r c ∙ in_lane_same i j lane row col e f;
}

or_left : (a b c : Bool) → (a || b || c) ≡ ((false || b || c) || a)
or_left true true true = refl
or_left true true false = refl
or_left true false true = refl
or_left true false false = refl
or_left false true true = refl
or_left false true false = refl
or_left false false true = refl
or_left false false false = refl

or_middle : (a b c : Bool) → (a || b || c) ≡ ((a || false || c) || b)
or_middle true true true = refl
or_middle true true false = refl
or_middle true false true = refl
or_middle true false false = refl
or_middle false true true = refl
or_middle false true false = refl
or_middle false false true = refl
or_middle false false false = refl

or_right : (a b c : Bool) → (a || b || c) ≡ ((a || b || false) || c)
or_right true true true = refl
or_right true true false = refl
or_right true false true = refl
or_right true false false = refl
or_right false true true = refl
or_right false true false = refl
or_right false false true = refl
or_right false false false = refl

-- a lane with one path more has the tiles of that path besides its own
on_lane_more : (i : Intersection) (l : Lane) (turn : Turn) (ss : List Station) (row col : ℕ) → path_of l turn ≡ None →
    is_on_lane i (Some (with_path l turn ss)) row col ≡ (is_on_lane i (Some l) row col || is_on_path i (Some ss) row col)
on_lane_more i l Left ss row col h = rw h (or_left (is_on_path i (Some ss) row col) (is_on_path i l.straight row col) (is_on_path i l.right row col))
on_lane_more i l Straight ss row col h = rw h (or_middle (is_on_path i l.left row col) (is_on_path i (Some ss) row col) (is_on_path i l.right row col))
on_lane_more i l Right ss row col h = rw h (or_right (is_on_path i l.left row col) (is_on_path i l.straight row col) (is_on_path i (Some ss) row col))

-- the lane that is there
pub lane_there : (i : Intersection) (lane : ℕ) → lane < length i.lanes → slice_get i.lanes lane ≡ Some (get_or i.lanes lane no_paths)
lane_there i lane h = slice_get-get_or i.lanes lane no_paths h

pub path_there : (i : Intersection) (lane : ℕ) (turn : Turn) → lane < length i.lanes → path i lane turn ≡ path_of (get_or i.lanes lane no_paths) turn
path_there i lane turn h = rw (lane_there i lane h) refl

moved_lane : (i : Intersection) (lane : ℕ) (turn : Turn) (s : Shape) (row col : ℕ) → lane < length i.lanes → path i lane turn ≡ None →
    in_lane_tiles (with_move i lane turn s) lane row col ≡ (in_lane_tiles i lane row col || is_met i.grid (stations_of s) row col)
moved_lane i lane turn s row col h none =
    let l = get_or i.lanes lane no_paths in
    let j = with_move i lane turn s in
    let free : path_of l turn ≡ None = sym (path_there i lane turn h) ∙ none in
    let old : in_lane_tiles i lane row col ≡ is_on_lane i (Some l) row col = ap (λ o. is_on_lane i o row col) (lane_there i lane h) in
    let new : in_lane_tiles j lane row col ≡ is_on_lane j (Some (with_path l turn (stations_of s))) row col =
    ap (λ o. is_on_lane j o row col) (slice_get-set_same i.lanes lane (with_path l turn (stations_of s)) h) in
    new ∙ on_lane_same j i (Some (with_path l turn (stations_of s))) row col refl ∙ on_lane_more i l turn (stations_of s) row col free ∙ ap (λ b. b || is_on_path i (Some (stations_of s)) row col) (sym old)

other_lane : (i : Intersection) (lane k : ℕ) (turn : Turn) (s : Shape) (row col : ℕ) → (k ≡ lane → ⊥) → in_lane_tiles (with_move i lane turn s) k row col ≡ in_lane_tiles i k row col
other_lane i lane k turn s row col n =
    let j = with_move i lane turn s in
    let l = with_path (get_or i.lanes lane no_paths) turn (stations_of s) in
    ap (λ o. is_on_lane j o row col) (slice_get-set_other i.lanes lane k l n) ∙ on_lane_same j i (slice_get i.lanes k) row col refl

-- the rows after a move
pub HasTiles-move : (i : Intersection) (lane : ℕ) (turn : Turn) (s : Shape) (tiles : List (List ℕ)) (rows : List ℕ) → lane < length i.lanes → path i lane turn ≡ None → HasTiles i tiles →
    ((row col : ℕ) → row < 64 → col < 64 → tile_at rows row col ≡ (tile_at (get_or tiles lane []) row col || is_met i.grid (stations_of s) row col)) → HasTiles (with_move i lane turn s) (set tiles lane rows)
HasTiles-move i lane turn s tiles rows h none t m = record {
  count = length-set tiles lane rows ∙ t.count ∙ sym (length-set i.lanes lane (with_path (get_or i.lanes lane no_paths) turn (stations_of s)));
  rows = λ k l row col r c.
      let there : k < length i.lanes = omega (arith, length-set i.lanes lane (with_path (get_or i.lanes lane no_paths) turn (stations_of s))) in
      elim (cases_eq k lane) [
        | inl e ↦ (let room : lane < length tiles = omega (arith, t.count) in
            let new : get_or (set tiles lane rows) lane [] ≡ rows = get_or-set_same tiles lane rows [] room in
            let was = t.rows lane h row col r c in
            rw (e, new, moved_lane i lane turn s row col h none, ← was) (m row col r c))
        | inr n ↦ rw (get_or-set_other tiles lane k rows [] n, other_lane i lane k turn s row col n) (t.rows k there row col r c)
      ];
}

-- no lane of a bare layout has a tile
pub HasTiles-bare : (s : Site) (lanes version : ℕ) → HasTiles (bare s lanes version) (replicate lanes (replicate 64 0))
HasTiles-bare s lanes version =
    let blank : List ℕ = replicate 64 0 in record {
      count = length-replicate lanes blank ∙ sym (length-replicate lanes no_paths);
      rows = λ k l row col r c.
          let m : k < lanes = omega (arith, length-replicate lanes no_paths) in
          let there : slice_get (replicate lanes no_paths) k ≡ Some no_paths = slice_get-get_or (replicate lanes no_paths) k no_paths l ∙ ap Some (get_or-replicate lanes k no_paths no_paths m) in
          let none : in_lane_tiles (bare s lanes version) k row col ≡ false = ap (λ o. is_on_lane (bare s lanes version) o row col) there in
          rw (get_or-replicate lanes k blank [] m, get_or-replicate {A = ℕ} 64 row 0 0 r, bit_at-zero col, none) refl;
    }

path_inside : (i : Intersection) (o : Option (List Station)) (row col : ℕ) → is_on_path i o row col ≡ true → (row < i.grid.n) × (col < i.grid.n)
path_inside i None row col h = absurd (cc)
path_inside i (Some ss) row col h = any_touched_inside i.grid i.grid.half ss row col h

lane_inside : (i : Intersection) (o : Option Lane) (row col : ℕ) → is_on_lane i o row col ≡ true → (row < i.grid.n) × (col < i.grid.n)
lane_inside i None row col h = absurd (cc)
lane_inside i (Some l) row col h = elim (either (is_on_path i l.left row col || is_on_path i l.straight row col) (is_on_path i l.right row col) h) [
  | inl e ↦ elim (either (is_on_path i l.left row col) (is_on_path i l.straight row col) e) [
    | inl f ↦ path_inside i l.left row col f
    | inr f ↦ path_inside i l.straight row col f
  ]
  | inr e ↦ path_inside i l.right row col e
]

-- a tile of a lane is a tile of the grid
pub tile_inside : (i : Intersection) (lane row col : ℕ) → in_lane_tiles i lane row col ≡ true → (row < i.grid.n) × (col < i.grid.n)
tile_inside i lane row col h = lane_inside i (slice_get i.lanes lane) row col h

-- tiles that had been set or meet one of the first stations, and those that meet the next one too
pub met_by_one_more : (g : Grid) (ss : List Station) (i : ℕ) (d : Station) (row col : ℕ) (had was now is_in : Bool) → i < length ss
    → was ≡ (had || is_met g (take i ss) row col) → now ≡ (was || is_in) → is_in ≡ is_touched g g.half (get_or ss i d) row col
    → now ≡ (had || is_met g (take (i + 1) ss) row col)
met_by_one_more g ss i d row col had was now is_in there w n t =
    rw (n, w, t, list_any_more (λ s. is_touched g g.half s row col) ss i d there) (regrouped had (is_met g (take i ss) row col) (is_touched g g.half (get_or ss i d) row col))
  where
    regrouped : (a b c : Bool) → ((a || b) || c) ≡ (a || (b || c))
    regrouped true b c = refl
    regrouped false b c = refl
