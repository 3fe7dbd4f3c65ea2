-- Changes as a timeline stores them. No public clause cites this.
use Rattle.std.specs.Prelude.{◌≡◌, ℕ, true, false, List, nat_le}
use Rattle.std.specs.List.Sorted.{IsPartitionPoint}
use Rattle.aim_rules.specs.Timeline.{InForce}
use Rattle.aim_policies.specs.declared.timelines.Change.{Change}

abbrev pub change_of : Change → InForce
change_of c = record { policy = c.policy; from = c.from }

-- so many changes begin at the step or before it, and all others after it
abbrev pub IsPoint : List Change → ℕ → ℕ → Type 0
IsPoint changes step count = IsPartitionPoint (λ c. nat_le c.from step ≡ true) (λ c. nat_le c.from step ≡ false) changes count
