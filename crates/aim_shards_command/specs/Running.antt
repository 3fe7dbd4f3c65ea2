-- What a run of a script gives.
use Rattle.std.specs.Prelude.{◌≡◌, ℕ, ◌<◌, ◌≤◌, List, [], map}
use Rattle.aim_sheets.specs.Sheets.{Spans}
use Rattle.aim_shards.specs.declared.claims.ClaimEntry.{ClaimEntry}
use Rattle.aim_shards.specs.Claims.{entries_of}
use Rattle.aim_shards.specs.Fitting.{AreSheets}
use Rattle.aim_shards.specs.History.{IsHistory}
use Rattle.aim_shards.specs.Models.{IsPassOf, PassModel, ShardsModel, count_up, new_pass}
use Rattle.aim_shards.specs.declared.opening.OpenedShards.{OpenedShards}
use Rattle.aim_shards.specs.declared.rectangles.Rectangle.{Rectangle}
use Rattle.aim_shards_command.specs.declared.lines.ShardLine.{ShardLine}
use Rattle.aim_shards_command.specs.declared.script.ClaimTerms.{ClaimTerms}
use Rattle.aim_shards_command.specs.Said.{asked_of, sets_of, terms_of}
use Rattle.aim_shards_command.specs.declared.callers.Caller.{Caller}
use Rattle.aim_shards_command.specs.Calling.{Works}
use Rattle.aim_shards_command.specs.Following.{Follows}

-- One legal claim history, with the tickets 0, 1, 2 and so on, in which each caller's acts are those that the script asks
-- for, in their order, and which has no others. The sets are those of the script.
pub record IsRun (lines : List ShardLine) (log : List ClaimEntry) : Type 0 where
  pub sets : List Spans
  pub are : let t = terms_of lines in AreSheets t.n t.horizon (sets_of lines) sets
  pub history : IsHistory sets log
  pub acts : (c : ℕ) → (let t = terms_of lines in c < t.callers) → Follows (asked_of c lines) (entries_of c log)
  pub others : (c : ℕ) → (let t = terms_of lines in t.callers ≤ c) → entries_of c log ≡ []

-- the sheets are those of the rectangles, on the grid and within the steps of the terms
abbrev pub AreSheetsOf : ClaimTerms → List Rectangle → List Spans → Type 0
AreSheetsOf t rectangles sheets = AreSheets t.n t.horizon rectangles sheets

-- the shards are over the script's sets, with a new pass for each caller, in the order of their numbers
pub record IsOpened (lines : List ShardLine) (o : OpenedShards) : Type 0 where
  pub sheets : AreSheetsOf (terms_of lines) (sets_of lines) o.shards.sets
  pub size : let t = terms_of lines in o.shards.size ≡ t.n
  pub numbers : let t = terms_of lines in o.shards.numbers ≡ count_up t.callers
  pub calls : o.shards.calls ≡ 1024
  pub passes : let t = terms_of lines in o.passes.items ≡ map (new_pass o.shards) (count_up t.callers)

-- a pass that is new
pub record IsNew (s : ShardsModel) (p : PassModel) : Type 0 where
  pub own : IsPassOf s p
  pub calls : s.calls ≡ 1024
  pub none : p.mine ≡ []

-- a caller that has made no call
pub record IsReady (s : ShardsModel) (c : Caller) : Type 0 where
  pub works : Works s c
  pub none : c.pass.mine ≡ []

-- a caller that has made its calls
pub record HasCalled (s : ShardsModel) (lines : List ShardLine) (c : Caller) : Type 0 where
  pub works : Works s c
  pub follows : Follows (asked_of c.pass.number lines) c.pass.mine

-- a pass with all calls of its caller
pub record HasDone (s : ShardsModel) (lines : List ShardLine) (p : PassModel) : Type 0 where
  pub own : IsPassOf s p
  pub follows : Follows (asked_of p.number lines) p.mine
