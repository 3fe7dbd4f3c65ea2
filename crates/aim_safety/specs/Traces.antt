-- The tiles under a vehicle in each step of its crossing, as rows of bits. No public clause cites this.
use Rattle.std.specs.Prelude.{◌≡◌, ℕ, ◌-◌, ◌<◌, Bool, false, List, [], ◌∷◌, ◌++◌, length, slice_index_or}
use Rattle.aim_messages.specs.declared.messages.Params.{Params}
use Rattle.aim_geometry.specs.Rects.{tile_at}
use Rattle.aim_layout.specs.Intersection.{Intersection}
use Rattle.aim_rules.specs.Footprint.{in_footprint}
use Rattle.aim_geometry.specs.Cells.{Cell}
use Rattle.aim_safety.specs.declared.traces.Trace.{Trace}

-- the masks of one more step stand behind those of the steps before it, unless memory was wanting
pub record IsTraced (old : Trace) (masks : List ℕ) (new : Trace) : Type 0 where
  pub whole : new.is_cut ≡ false → old.is_cut ≡ false
  pub more : new.is_cut ≡ false → new.steps.items ≡ old.steps.items ++ masks ∷ []

-- whether the masks of the cell's step show its tile, where the first masks are of that first step
abbrev pub is_traced : List (List ℕ) → ℕ → Cell → Bool
is_traced steps first c = tile_at (slice_index_or steps (c.step - first) []) c.row c.col

-- these are the masks of the row, step by step
abbrev pub AreOfRow : List (List ℕ) → ℕ → List ℕ → Type 0
AreOfRow steps row masks = (k : ℕ) → k < length steps → slice_index_or masks k 0 ≡ slice_index_or (slice_index_or steps k []) row 0

-- no masks show the tile
abbrev pub IsNeverShown : List (List ℕ) → ℕ → ℕ → Type 0
IsNeverShown steps row col = (k : ℕ) → k < length steps → tile_at (slice_index_or steps k []) row col ≡ false

-- the masks show the tiles of so many crossing steps
pub record AreFootprints (i : Intersection) (p : Params) (fast : Bool) (n : ℕ) (steps : List (List ℕ)) : Type 0 where
  pub all : length steps ≡ n
  pub tiles : (k row col : ℕ) → k < n → row < 64 → col < 64 →
      tile_at (slice_index_or steps k []) row col ≡ in_footprint i p fast 0 k row col
