-- The sheets of a chain. No public clause cites it: only the models of `Pool` and `Sheet`.
use Rattle.std.specs.Prelude.{ℕ, ◌+◌, ◌≡◌, [], Option, None, Some, Box}
use Rattle.std.specs.declared.alloc.Global.{Global}
use Rattle.aim_sheets.specs.Sheets.{Spans}
use Rattle.aim_sheets.specs.declared.sheets.Node.{Node, Node', Held-Node-next, None', Some'}

abbrev pub slots_of : Node → Spans
slots_of (Node' slots next) = slots

-- how many sheets there are from this one on
abbrev mutual
  pub node_count : Node → ℕ
  node_count (Node' slots next) = chain_count next + 1

  pub chain_count : Held-Node-next → ℕ
  chain_count None' = 0
  chain_count (Some' p node) = node_count node

-- each sheet has this room and no span
abbrev mutual
  pub IsEmptyNode : ℕ → Node → Type 0
  IsEmptyNode room (Node' slots next) = (slots ≡ record { spans = []; room = room }) × IsEmptyChain room next

  pub IsEmptyChain : ℕ → Held-Node-next → Type 0
  IsEmptyChain room None' = Unit {0}
  IsEmptyChain room (Some' p node) = IsEmptyNode room node

-- the number of sheets of a chain that may have none
abbrev pub head_count : Option (Box Node Global) → ℕ
head_count None = 0
head_count (Some first) = node_count first.value

-- a chain that may have none: each of its sheets has this room and no span
abbrev pub IsEmptyHead : ℕ → Option (Box Node Global) → Type 0
IsEmptyHead room None = Unit {0}
IsEmptyHead room (Some first) = IsEmptyNode room first.value
