-- What holds between two calls of a caller. No public clause cites this file.
use Rattle.std.specs.Prelude.{◌≡◌, ℕ, ◌<◌, ◌≤◌, List, [], ◌∷◌, ◌++◌, length, min, Option, None, Some, vec_capacity}
use Rattle.aim_shards_command.specs.declared.lines.ShardLine.{ShardLine}
use Rattle.aim_shards_command.specs.declared.lines.ShardLine.TheVariants as line
use Rattle.aim_shards_command.specs.declared.script.ClaimAsk.{ClaimAsk}
use Rattle.aim_shards_command.specs.declared.script.ClaimAsk.TheVariants as ask
use Rattle.aim_shards.specs.declared.claims.ClaimEntry.{ClaimEntry}
use Rattle.aim_shards.specs.Models.{IsPassOf, ShardsModel}
use Rattle.aim_shards_command.specs.declared.callers.Caller.{Caller}
use Rattle.aim_shards_command.specs.Following.{act_of, tickets_of}

-- the caller's pass is of the shards, and it remembers the tickets of its calls
pub record Works (s : ShardsModel) (c : Caller) : Type 0 where
  pub own : IsPassOf s c.pass
  pub calls : s.calls ≡ 1024
  pub tickets : c.tickets.items ≡ tickets_of c.pass.mine
  pub room : 1024 ≤ vec_capacity c.tickets

-- the set or the call that is asked for is there
abbrev pub IsThere : ℕ → List ClaimEntry → ClaimAsk → Type 0
IsThere sets mine (ask.Claim set) = set < sets
IsThere sets mine (ask.Free call) = call < length mine

-- the caller may make the call
pub record Can (sets : ℕ) (mine : List ClaimEntry) (a : ClaimAsk) : Type 0 where
  pub few : length mine < 1024
  pub there : IsThere sets mine a

-- one entry was made, which does what was asked for
pub record Made (a : ClaimAsk) (old new : List ClaimEntry) : Type 0 where
  pub entry : ClaimEntry
  pub is : new ≡ old ++ entry ∷ []
  pub does : entry.act ≡ act_of old a

-- what was asked for was done, if something was
abbrev pub Steps : Option ClaimAsk → List ClaimEntry → List ClaimEntry → Type 0
Steps None old new = new ≡ old
Steps (Some a) old new = Made a old new

-- the byte that stands for the caller of which a line asks something
abbrev pub mark_in : ShardLine → ℕ
mark_in (line.Claim caller set) = min caller 255
mark_in (line.Free caller call) = min caller 255
mark_in _ = 255
