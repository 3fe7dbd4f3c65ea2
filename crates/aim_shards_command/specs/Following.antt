-- Entries that do what was asked for.
use Rattle.std.specs.Prelude.{◌≡◌, ℕ, List, [], ◌∷◌, ◌++◌, map, slice_index}
use Rattle.aim_shards_command.specs.declared.script.ClaimAsk.{ClaimAsk}
use Rattle.aim_shards_command.specs.declared.script.ClaimAsk.TheVariants as ask
use Rattle.aim_shards.specs.declared.claims.ClaimAct.{ClaimAct}
use Rattle.aim_shards.specs.declared.claims.ClaimAct.TheVariants as act
use Rattle.aim_shards.specs.declared.claims.ClaimEntry.{ClaimEntry}

abbrev pub tickets_of : List ClaimEntry → List ℕ
tickets_of es = map (λ e. e.ticket) es

-- what is asked for, behind these entries of the caller: a freeing frees the ticket of the entry of that number
abbrev pub act_of : List ClaimEntry → ClaimAsk → ClaimAct
act_of earlier (ask.Claim set) = act.Claim set
act_of earlier (ask.Free call) = act.Free (slice_index (tickets_of earlier) call)

-- the entries, behind these earlier ones, do just what was asked for
abbrev pub FollowsFrom : List ClaimEntry → List ClaimAsk → List ClaimEntry → Type 0
FollowsFrom earlier [] [] = Unit {0}
FollowsFrom earlier [] (e ∷ es) = ⊥
FollowsFrom earlier (a ∷ asks) [] = ⊥
FollowsFrom earlier (a ∷ asks) (e ∷ es) = (e.act ≡ act_of earlier a) × FollowsFrom (earlier ++ e ∷ []) asks es

abbrev pub Follows : List ClaimAsk → List ClaimEntry → Type 0
Follows asks es = FollowsFrom [] asks es
