-- What the steps of one call tell. No public clause cites this file.
use Rattle.std.specs.Prelude.{◌≡◌, ℕ, ◌<◌, List, [], ◌∷◌, ◌++◌, map, length, Option, Some, None, vec_capacity}
use Rattle.atomic_table.specs.Table.{Me, rest}
use Rattle.aim_shards.specs.declared.claims.ClaimEntry.{ClaimEntry}
use Rattle.aim_shards.specs.declared.quarter.Quarter.{Quarter}
use Rattle.aim_shards.specs.declared.quarter.QuadrantPlan.{QuadrantPlan}
use Rattle.aim_shards.specs.declared.view.QuadrantTurn.{QuadrantTurn}
use Rattle.aim_shards.specs.declared.view.ShardView.{ShardView}
use Rattle.aim_tiles.specs.Cells.{has_cell}
use Rattle.aim_tiles.specs.Sheets.{AreTiles, AreAhead}
use Rattle.aim_sheets.specs.declared.spans.Span.{Span}
use Rattle.aim_geometry.specs.Cells.{Cell}
use Rattle.aim_sheets.specs.Spans.{in_spans}
use Rattle.aim_shards.specs.declared.view.Terms.{Terms}
use Rattle.aim_shards.specs.Sets.{Quarters}
use Rattle.aim_shards.specs.Claims.{changed, Changes}
use Rattle.aim_shards.specs.Ruled.{turn, working, Suits}

-- what is carried are the turns' slots, whose values stand for the turns' lists
abbrev pub Carries : Terms → List QuadrantTurn → List (ℕ × Option Quarter) → Type 0
Carries terms [] carried = carried ≡ []
Carries terms (t ∷ ts) carried = (k : Quarter) × (cs : List (ℕ × Option Quarter)) × (carried ≡ (t.quadrant, Some k) ∷ cs) × Suits terms t.quadrant t.seen k × Carries terms ts cs

-- what is carried are the turns' slots, whose values still lack the entry, which changes the set's cells
abbrev pub Lacks : Terms → Quarters → ClaimEntry → List QuadrantTurn → List (ℕ × Option Quarter) → Type 0
Lacks terms set e [] carried = carried ≡ []
Lacks terms set e (t ∷ ts) carried = (k : Quarter) × (cs : List (ℕ × Option Quarter)) × (carried ≡ (t.quadrant, Some k) ∷ cs) × ((seen : List ClaimEntry) × Suits terms t.quadrant seen k × (t.seen ≡ seen ++ e ∷ []) × (length seen < terms.room) × Changes terms.sets set t.quadrant seen e) × Lacks terms set e ts cs

-- the seat of the caller n, at rest
pub record Rests (n : ℕ) (m : Me (Option Quarter) ShardView) : Type 0 where
  pub is : m ≡ (working m.0.terms n [] m.0.mine, [])

-- the seat of the caller n has the turns of just these quadrants
pub record Works (n : ℕ) (terms : Terms) (mine : List ClaimEntry) (quadrants : List ℕ) (m : Me (Option Quarter) ShardView) : Type 0 where
  pub is : m.0 ≡ working terms n m.0.held mine
  pub turns : map (λ t. t.quadrant) m.0.held ≡ quadrants
  pub carries : Carries terms m.0.held m.1

-- the seat of the caller n has the turns of just these quadrants, whose values lack the entry
pub record Gives (n : ℕ) (terms : Terms) (mine : List ClaimEntry) (set : Quarters) (e : ClaimEntry) (quadrants : List ℕ) (m : Me (Option Quarter) ShardView) : Type 0 where
  pub is : m.0 ≡ working terms n m.0.held mine
  pub turns : map (λ t. t.quadrant) m.0.held ≡ quadrants
  pub lacks : Lacks terms set e m.0.held m.1

-- the turn of the quadrant q came
pub record TurnCame (q : ℕ) (m m' : Me (Option Quarter) ShardView) : Type 0 where
  pub value : Quarter
  pub ticket : ℕ
  pub seen : List ClaimEntry
  pub suits : Suits m.0.terms q seen value
  pub after : m' ≡ (record { terms = m.0.terms; number = m.0.number; waiting = []; held = turn q ticket seen ∷ m.0.held; mine = m.0.mine; others = m.0.others }, (q, Some value) ∷ m.1)

-- the slot in hand is the quadrant's
pub record InHand (q : ℕ) (m : Me (Option Quarter) ShardView) : Type 0 where
  pub value : Quarter
  pub others : List (ℕ × Option Quarter)
  pub is : m.1 ≡ (q, Some value) ∷ others

-- the value was taken out of the slot in hand
pub record TakesOut (q : ℕ) (k : Quarter) (m m' : Me (Option Quarter) ShardView) : Type 0 where
  pub was : m.1 ≡ (q, Some k) ∷ rest m.1
  pub after : m' ≡ (m.0, (q, None) ∷ rest m.1)

-- the slot in hand is empty
pub record IsEmptied (q : ℕ) (m : Me (Option Quarter) ShardView) : Type 0 where
  pub is : m.1 ≡ (q, None) ∷ rest m.1

-- the value was put into the slot in hand
pub record PutsIn (q : ℕ) (k : Quarter) (m m' : Me (Option Quarter) ShardView) : Type 0 where
  pub after : m' ≡ (m.0, (q, Some k) ∷ rest m.1)

-- the slot in hand is the quadrant's, and the value has room for one entry more and for the spans' cells
pub record HasRoom (q : ℕ) (spans : List Span) (m : Me (Option Quarter) ShardView) : Type 0 where
  pub value : Quarter
  pub others : List (ℕ × Option Quarter)
  pub is : m.1 ≡ (q, Some value) ∷ others
  pub room : length value.entries.items < vec_capacity value.entries
  pub tiles : AreTiles value.table.size spans
  pub ahead : AreAhead value.table.current value.table.horizon spans

-- the value in hand has the plan, and is else as it was
pub record Announces (q : ℕ) (plan : QuadrantPlan) (m m' : Me (Option Quarter) ShardView) : Type 0 where
  pub old : Quarter
  pub new : Quarter
  pub was : m.1 ≡ (q, Some old) ∷ rest m.1
  pub after : m' ≡ (m.0, (q, Some new) ∷ rest m.1)
  pub plan_is : new.plan ≡ plan
  pub same : new.entries ≡ old.entries
  pub table : new.table ≡ old.table

-- the value in hand has one entry more, and the spans' cells are changed as it says
pub record Notes (q : ℕ) (spans : List Span) (e : ClaimEntry) (m m' : Me (Option Quarter) ShardView) : Type 0 where
  pub old : Quarter
  pub new : Quarter
  pub was : m.1 ≡ (q, Some old) ∷ rest m.1
  pub after : m' ≡ (m.0, (q, Some new) ∷ rest m.1)
  pub more : new.entries.items ≡ old.entries.items ++ e ∷ []
  pub wide : vec_capacity new.entries ≡ vec_capacity old.entries
  pub cells : (cell : Cell) → has_cell new.table cell ≡ changed e.act e.yes (has_cell old.table cell) (in_spans spans cell)
  pub rest_is : new.table ≡ record old.table { cells = new.table.cells }

-- the first, where there is one
abbrev pub head_or : List ℕ → ℕ → ℕ
head_or [] d = d
head_or (q ∷ qs) d = q

abbrev pub entry : ℕ → ℕ → QuadrantPlan → ClaimEntry
entry ticket n plan = record { ticket = ticket; caller = n; act = plan.act; yes = plan.yes }
