-- What a pool is seen as.
use Rattle.std.specs.Prelude.{ℕ}

-- how many sheets are in, and the room of each
pub record Stock : Type 0 where
  pub count : ℕ
  pub room : ℕ
