-- Which histories a text tells.
use Rattle.std.specs.Prelude.{List, All}
use Rattle.aim_text_words.specs.Ranges.{Is32}
use Rattle.aim_shards.specs.declared.claims.ClaimAct.{ClaimAct}
use Rattle.aim_shards.specs.declared.claims.ClaimAct.TheVariants as act
use Rattle.aim_shards.specs.declared.claims.ClaimEntry.{ClaimEntry}

-- what the types say of an act
abbrev pub IsAct : ClaimAct → Type 0
IsAct (act.Claim set) = Is32 set
IsAct (act.Free ticket) = Is32 ticket

-- and of an entry
pub record IsTold (e : ClaimEntry) : Type 0 where
  pub ticket : Is32 e.ticket
  pub caller : Is32 e.caller
  pub does : IsAct e.act

-- all entries have the values of their types
abbrev pub AreTold : List ClaimEntry → Type 0
AreTold log = All IsTold log
