-- How many words a command has.
use Rattle.std.proofs.Common.{◌≡◌, ◌≤◌, ℕ, List, [], ◌∷◌, length, map, None, refl, arith}
use Rattle.aim.specs.Commands.{command_of}

-- five words or more are no command
pub too_many : {X : Type 0} (f : X → List ℕ) (ws : List X) → 5 ≤ length ws → None ≡ command_of (map f ws)
too_many f [] more = absurd (omega (arith, more))
too_many f (a ∷ []) more = absurd (omega (arith, more))
too_many f (a ∷ b ∷ []) more = absurd (omega (arith, more))
too_many f (a ∷ b ∷ c ∷ []) more = absurd (omega (arith, more))
too_many f (a ∷ b ∷ c ∷ d ∷ []) more = absurd (omega (arith, more))
too_many f (a ∷ b ∷ c ∷ d ∷ e ∷ ws) more = refl
