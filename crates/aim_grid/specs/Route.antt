-- The logs of one vehicle over its legs, in the order of the legs.
use Rattle.std.specs.Prelude.{◌≡◌, ℕ, ◌<◌, List, [], ◌∷◌, Some}
use Rattle.aim_driver.specs.declared.logs.LogItem.{LogItem}
use Rattle.aim_driver.specs.Logs.{item_step}
use Rattle.aim_grid.specs.Acked.{acked}

-- a fact of the step of each item of a log
abbrev pub EachStep : (ℕ → Type 0) → List LogItem → Type 0
EachStep P [] = Unit {0}
EachStep P (x ∷ xs) = P (item_step x) × EachStep P xs

-- Where something stands in the log, the leg before got the Ack that answers its DONE, at a step below all of the log.
abbrev pub IsBehind : List LogItem → List LogItem → Type 0
IsBehind before [] = Unit {0}
IsBehind before (x ∷ xs) = (s : ℕ) × (acked before ≡ Some s) × EachStep (λ t. s < t) (x ∷ xs)

-- each log but the first stands behind the one before
abbrev pub IsRoute : List (List LogItem) → Type 0
IsRoute [] = Unit {0}
IsRoute (l ∷ []) = Unit {0}
IsRoute (l ∷ m ∷ ls) = IsBehind l m × IsRoute (m ∷ ls)
