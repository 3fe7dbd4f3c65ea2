-- One step more of a visitor.
use Rattle.std.proofs.Common.{ℕ, zero, suc, ◌+◌, ◌<◌, List, refl, add-one, arith}
use Rattle.aim_footprint.specs.declared.visits.RowRange.{RowRange}
use Rattle.aim_footprint.specs.Visits.{Visited}

pub visited_none : {V : Type 0} (visits : V → ℕ → RowRange → List ℕ → V → Type 0) (shows : ℕ → RowRange → List ℕ → Type 0) (x : V) → Visited visits shows 0 x x
unfolding Visited
visited_none visits shows x = refl

pub visited_more : {V : Type 0} (visits : V → ℕ → RowRange → List ℕ → V → Type 0) (shows : ℕ → RowRange → List ℕ → Type 0) (k : ℕ) (old mid new : V) (rows : RowRange) (masks : List ℕ) →
    Visited visits shows k old mid → shows k rows masks → visits mid k rows masks new → Visited visits shows (k + 1) old new
unfolding Visited
visited_more visits shows k old mid new rows masks a b c = rw (add-one k) (mid, rows, masks, a, b, c)

-- what each step's masks show may be said in other words
pub visited_as : {V : Type 0} (visits : V → ℕ → RowRange → List ℕ → V → Type 0) (shows means : ℕ → RowRange → List ℕ → Type 0) (n : ℕ) (old new : V) →
    ((k : ℕ) (rows : RowRange) (masks : List ℕ) → k < n → shows k rows masks → means k rows masks) → Visited visits shows n old new → Visited visits means n old new
unfolding Visited
visited_as visits shows means zero old new same v = v
visited_as visits shows means (suc n) old new same v =
    (v.0, v.1, v.2, visited_as visits shows means n old v.0 (λ k rows masks l s. same k rows masks (omega arith) s) v.3, same n v.1 v.2 (omega arith) v.4, v.5)
