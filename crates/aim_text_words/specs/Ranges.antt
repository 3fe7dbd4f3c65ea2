-- Which values the types of messages have: a field of 32 bits is below 2 ^ 32, and so on.
use Rattle.std.specs.Prelude.{ℕ, ◌<◌, ◌^◌}
use Rattle.aim_messages.specs.declared.messages.Params.{Params}
use Rattle.aim_messages.specs.declared.messages.Body.{Body}
use Rattle.aim_messages.specs.declared.messages.Body.TheVariants as body
use Rattle.aim_messages.specs.declared.messages.Message.{Message}

abbrev pub Is32 : ℕ → Type 0
Is32 n = n < 2 ^ 32

abbrev pub Is8 : ℕ → Type 0
Is8 n = n < 2 ^ 8

pub record AreParams (p : Params) : Type 0 where
  pub lane : Is8 p.lane
  pub arrive : Is32 p.arrive
  pub latest : Is32 p.latest
  pub speed : Is32 p.speed
  pub max_speed : Is32 p.max_speed
  pub accel : Is32 p.accel
  pub len : Is32 p.length
  pub width : Is32 p.width

abbrev pub IsBody : Body → Type 0
IsBody (body.Request p) = AreParams p
IsBody (body.Change id p) = Is32 id × AreParams p
IsBody (body.Cancel id) = Is32 id
IsBody (body.Done id) = Is32 id

pub record IsMessage (m : Message) : Type 0 where
  pub seq : Is32 m.seq
  pub body : IsBody m.body
