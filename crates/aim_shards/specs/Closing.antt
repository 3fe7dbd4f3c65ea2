-- What closing gives.
use Rattle.std.specs.Prelude.{◌≡◌, ℕ, List, [], map, length, All, Option, Some}
use mathlib.Core.Option.{some}
use lib.ListN.{get_elem?}
use Rattle.atomic_table.specs.Table.{Me}
use Rattle.aim_shards.specs.declared.claims.ClaimEntry.{ClaimEntry}
use Rattle.aim_shards.specs.declared.quarter.Quarter.{Quarter}
use Rattle.aim_shards.specs.declared.view.ShardView.{ShardView}
use Rattle.aim_shards.specs.Sums.{total, is}
use Rattle.aim_shards.specs.Sets.{Quarters}
use Rattle.aim_shards.specs.Claims.{of_quadrant, entries_of, IsLegal}
use Rattle.aim_shards.specs.History.{IsHistory}
use Rattle.aim_shards.specs.Models.{PassModel, ShardsModel}
use Rattle.aim_shards.specs.Ruled.{keeping}

-- the seat that has taken in these passes
pub record Gathers (ps : List PassModel) (m : Me (Option Quarter) ShardView) : Type 0 where
  pub is : m ≡ (keeping m.0.terms (map (λ p. (p.number, p.mine)) ps), [])

-- the passes' entries are those of the history
pub record AreMade (numbers : List ℕ) (ps : List PassModel) (log : List ClaimEntry) : Type 0 where
  -- each pass has its caller's entries, in order
  pub passes : All (λ p. entries_of p.number log ≡ p.mine) ps
  -- no other number has one
  pub others : (n : ℕ) → total (is n) numbers ≡ 0 → entries_of n log ≡ []
  pub count : length log ≡ total (λ p. length p.mine) ps
  -- the passes have just the numbers, each once
  pub places : (h : ℕ → ℕ) → total (λ p. h p.number) ps ≡ total h numbers

-- the four lists have just the history's entries that touch their quadrants, in order
pub record AreOf (quarters : List Quarters) (log first second third fourth : List ClaimEntry) : Type 0 where
  pub first_is : first ≡ of_quadrant quarters 0 log
  pub second_is : second ≡ of_quadrant quarters 1 log
  pub third_is : third ≡ of_quadrant quarters 2 log
  pub fourth_is : fourth ≡ of_quadrant quarters 3 log

-- the quadrant's value in its slot, with these entries
pub record LiesAt (q : ℕ) (xs : List (Option Quarter)) (l : List ClaimEntry) : Type 0 where
  pub value : Quarter
  pub there : get_elem? xs q ≡ some (Some value)
  pub entries : value.entries.items ≡ l

-- the turns have ended
pub record Ends (quarters : List Quarters) (numbers : List ℕ) (ps : List PassModel) (log first second third fourth : List ClaimEntry) : Type 0 where
  pub lawful : IsLegal quarters log
  pub made : AreMade numbers ps log
  pub lists : AreOf quarters log first second third fourth

-- one legal claim history, of which the passes have the callers' entries, and the four lists those of the quadrants
pub record Closes (s : ShardsModel) (ps : List PassModel) (log first second third fourth : List ClaimEntry) : Type 0 where
  pub history : IsHistory s.sets log
  pub made : AreMade s.numbers ps log
  pub lists : AreOf s.quarters log first second third fourth
