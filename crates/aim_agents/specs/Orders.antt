-- The orders of a drive.
use Rattle.std.specs.Prelude.{◌≡◌, ℕ, ◌<◌, ◌≤◌, List, length, map, slice_index_or, Option, Some, None, Result}
use Rattle.aim_messages.specs.declared.entries.Act.TheVariants as act
use Rattle.aim_messages.specs.declared.entries.Act.{Act}
use Rattle.aim_messages.specs.declared.entries.Entry.{Entry}
use Rattle.aim_messages.specs.declared.entries.TheConstants.{OPERATOR}
use Rattle.aim_messages.specs.declared.replies.Reply.{Reply}
use Rattle.aim_layout.specs.Intersection.{Intersection}
use Rattle.aim_rules.specs.Legal.{IsOfLayout}
use Rattle.aim_driver.specs.declared.orders.Ordered.{Ordered}
use Rattle.aim_agents.specs.Full.{Full}
use Rattle.aim_turnstile.specs.Models.{IsSamePass}
use Rattle.aim_agents.specs.Seen.{IsServed}
use Rattle.aim_agents.specs.BookSetting.{BookSetting}
use Rattle.aim_agents.specs.Agents.{AgentModel, AgentPass}
use Rattle.aim_agents.specs.Rounds.{Rounds}
use Rattle.aim_agents.specs.Driven.{Driven}

-- They are of the layout, at steps below the last one, and their moments don't fall.
pub record AreOrders (i : Intersection) (vehicles until : ℕ) (orders : List Ordered) : Type 0 where
  pub below : (k : ℕ) (d : Ordered) → k < length orders → (slice_index_or orders k d).moment < until
  pub rising : (j k : ℕ) (d : Ordered) → j < k → k < length orders → (slice_index_or orders j d).moment ≤ (slice_index_or orders k d).moment
  pub known : (k : ℕ) (d : Ordered) → k < length orders → IsOfLayout i vehicles OPERATOR (act.Order (slice_index_or orders k d).order)

abbrev pub order_at : ℕ → Act → Option Ordered
order_at moment (act.Order o) = Some (record { moment = moment; order = o })
order_at moment (act.Message m) = None

-- the order that an entry carries, if it carries one
abbrev pub order_of : Entry → Option Ordered
order_of e = order_at e.moment e.act

-- the entries carry just these orders
abbrev pub CarryOrders : List Entry → List Ordered → Type 0
CarryOrders es orders = map order_of es ≡ map (λ x. Some x) orders

-- An order found the journal full, after some steps.
pub record FoundFull (s : BookSetting) (until size : ℕ) (op : AgentPass) (xs ys : List AgentModel) (orders : ℕ) : Type 0 where
  pub step : ℕ
  pub before : AgentPass
  pub driven : Driven s step size before xs ys
  pub full : length op.seen ≡ s.room
  pub few : length op.mine < orders

-- the step lies before all orders from that place on, and below the last step
pub record IsReached (step place until : ℕ) (orders : List Ordered) : Type 0 where
  pub below : step ≤ until
  pub ahead : (k : ℕ) (d : Ordered) → place ≤ k → k < length orders → step ≤ (slice_index_or orders k d).moment

-- The agents took their turns of the steps from `step` on and below the order's moment, and then the operator gave the
-- order, with this result. No public clause cites it.
pub record Given (s : BookSetting) (step : ℕ) (order : Ordered) (size : ℕ) (result : Result Reply Full) (op op' : AgentPass) (xs ys : List AgentModel) : Type 0 where
  pub mid : AgentPass
  pub rounds : Rounds s step order.moment size op mid xs ys
  pub same : IsSamePass mid op'
  pub served : IsServed s order.moment (act.Order order.order) result mid op'

-- All orders were given, the last of them at this step, or none. No public clause cites it.
pub record AllGiven (s : BookSetting) (step size : ℕ) (op : AgentPass) (xs ys : List AgentModel) (orders : List Ordered) : Type 0 where
  pub driven : Driven s step size op xs ys
  pub carried : CarryOrders op.mine orders
  pub below : (until : ℕ) → AreOrders s.layout s.vehicles until orders → step ≤ until
