-- The list of the vehicles that have called. No public clause cites this.
use Rattle.std.specs.Prelude.{◌≡◌, ℕ, ◌<◌, ◌≤◌, Bool, true, false, ◌==◌, List, length, Option, Some, None, is_some, count_by, slice_index_or}
use Rattle.std.specs.List.{list_any}
use Rattle.aim_messages.specs.declared.entries.TheConstants.{LATEST_MOMENT}

-- the list has each vehicle that is marked once, no other, and all whose call stands
pub record IsListed (calls : List (Option (ℕ × ℕ))) (callers : List ℕ) (marked : List Bool) : Type 0 where
  pub long : length marked ≡ length calls
  pub count : length callers ≡ count_by (λ b. b) marked
  pub below : (k d : ℕ) → k < length callers → slice_index_or callers k d < length calls
  pub all : (v : ℕ) → v < length calls → slice_index_or marked v false ≡ true → list_any (λ w. w == v) callers ≡ true
  pub calling : (v : ℕ) → v < length calls → is_some (slice_index_or calls v None) ≡ true → slice_index_or marked v false ≡ true
  pub range : (v lane arrive : ℕ) → v < length calls → slice_index_or calls v None ≡ Some (lane, arrive) → (lane < 16) × (arrive ≤ LATEST_MOMENT)
