-- When a driver and its links do nothing.
use Rattle.std.specs.Prelude.{◌≡◌, ℕ, ◌<◌, ◌≤◌, None}
use Rattle.aim_messages.specs.declared.messages.Message.{Message}
use Rattle.aim_messages.specs.declared.replies.Reply.{Reply}
use Rattle.aim_driver.specs.Models.{DriverModel, enters, acts}
use Rattle.aim_driver.specs.Links.{LinkModel, delivered}

-- at the step nothing comes on either link, and the driver neither enters nor sends
pub record IsStill (d : DriverModel) (up : LinkModel Message) (down : LinkModel (ℕ × Reply)) (step : ℕ) : Type 0 where
  pub above : delivered up step ≡ None
  pub below : delivered down step ≡ None
  pub free : enters d.plan d.log step ≡ None
  pub calm : acts d.plan d.log step ≡ None

-- so it is at each step from `first` on and below `last`
abbrev pub AreStill : DriverModel → LinkModel Message → LinkModel (ℕ × Reply) → ℕ → ℕ → Type 0
AreStill d up down first last = (step : ℕ) → first ≤ step → step < last → IsStill d up down step
