-- How a vehicle moves in its crossing, step by step.
use Rattle.std.specs.Prelude.{ℕ, zero, suc, ◌+◌, ◌-◌, ◌*◌, ◌/◌, Bool, nat_le, ◌==◌, Option, Some, None, min, if◌then◌else◌}
use Rattle.aim_messages.specs.declared.messages.Params.{Params}
use Rattle.aim_geometry.specs.Bounded.{ceil_div}

-- what the speed gains in a step: in the fast trial the vehicle accelerates, in the steady one it does not
abbrev pub gain : Params → Bool → ℕ
gain p fast = if fast then p.accel else 0

-- the least j with greatest ≤ speed + a * j
abbrev pub top_step : ℕ → ℕ → ℕ → Option ℕ
top_step speed a greatest =
    if nat_le greatest speed then Some 0 else if a == 0 then None else Some (ceil_div (greatest - speed) a)

-- the way in k steps at a speed that gains a in each step
abbrev pub ramp : ℕ → ℕ → ℕ → ℕ
ramp speed a k = speed * k + a * (k * (k - 1) / 2)

-- the way in k steps, with no gain from step q on
abbrev pub way : ℕ → ℕ → ℕ → Option ℕ → ℕ → ℕ
way speed a greatest None k = ramp speed a k
way speed a greatest (Some q) k = ramp speed a (min k q) + greatest * (k - q)

-- where the front is at the beginning of crossing step k
abbrev pub front : Params → Bool → ℕ → ℕ
front p fast k = way p.speed (gain p fast) p.max_speed (top_step p.speed (gain p fast) p.max_speed) k

-- the sum of a function's values at the numbers below n
abbrev pub sum_below : ℕ → (ℕ → ℕ) → ℕ
sum_below zero f = 0
sum_below (suc n) f = sum_below n f + f n

-- the speed in crossing step k
abbrev pub speed_in : Params → Bool → ℕ → ℕ
speed_in p fast k = min (p.speed + gain p fast * k) p.max_speed
