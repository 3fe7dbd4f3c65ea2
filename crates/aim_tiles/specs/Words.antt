-- Words of bits, side by side.
use Rattle.std.specs.Prelude.{◌≡◌, ◌≢◌, ℕ, List, slice_index, bit_and}

-- the two words at this place share no bit
abbrev pub AreApart : List ℕ → List ℕ → ℕ → Type 0
AreApart left right k = bit_and (slice_index left k) (slice_index right k) ≡ 0

-- they share one
abbrev pub Meet : List ℕ → List ℕ → ℕ → Type 0
Meet left right k = bit_and (slice_index left k) (slice_index right k) ≢ 0
