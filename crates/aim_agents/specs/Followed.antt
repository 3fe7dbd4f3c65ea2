-- What an agent did since it was new is what a driver follows.
use Rattle.std.specs.Prelude.{◌≡◌, ℕ, List, [], ◌∷◌, ◌++◌, None}
use Rattle.aim_driver.specs.Follows.{Call, follows_from}
use Rattle.aim_agents.specs.Agents.{AgentModel}
use Rattle.aim_agents.specs.Went.{Carry, replies}

-- it has done nothing
pub record IsNew (a : AgentModel) : Type 0 where
  pub calm : a.trouble ≡ None
  pub log : a.driver.log ≡ []
  pub up : (a.up.lag ≡ 0) × (a.up.sent ≡ [])
  pub down : (a.down.lag ≡ 1) × (a.down.sent ≡ [])
  pub mine : a.pass.mine ≡ []

-- Its log and its calls are those that its driver follows over the steps from `first` to `last` - 1, with the fates of its
-- links and the replies of its calls. Its pass's entries carry these calls.
pub record Followed (first last : ℕ) (a b : AgentModel) : Type 0 where
  pub calls : List Call
  pub carried : Carry b.pass.mine calls
  pub follows : follows_from a.driver.plan a.up.fates a.down.fates first last (replies b.pass.mine) ≡ (b.driver.log, calls)

-- It came to a journal without room: what its driver follows is this log, and one call more, which got no reply.
pub record Halted (first last : ℕ) (a b : AgentModel) : Type 0 where
  pub calls : List Call
  pub extra : Call
  pub carried : Carry b.pass.mine calls
  pub follows : follows_from a.driver.plan a.up.fates a.down.fates first last (replies b.pass.mine) ≡ (b.driver.log, calls ++ extra ∷ [])
