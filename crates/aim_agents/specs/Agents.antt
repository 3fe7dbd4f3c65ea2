-- What contracts see of an agent.
use Rattle.std.specs.Prelude.{◌≡◌, ℕ, ◌+◌, ◌<◌, length, Option, Some, None, IsSomeAnd}
use Rattle.aim_messages.specs.declared.entries.Entry.{Entry}
use Rattle.aim_messages.specs.declared.messages.Message.{Message}
use Rattle.aim_messages.specs.declared.replies.Reply.{Reply}
use Rattle.aim_sheets.specs.Pools.{Stock}
use Rattle.aim_manager.specs.Sheets.{sheets_kept}
use Rattle.aim_driver.specs.Models.{DriverModel}
use Rattle.aim_driver.specs.Links.{LinkModel}
use Rattle.aim_driver.specs.Turns.{State, state}
use Rattle.aim_turnstile.specs.History.{entries_of}
use Rattle.aim_turnstile.specs.Models.{PassModel, FrontModel, TurnstileModel, IsPassOf}
use Rattle.aim_manager.specs.Seen.{caller_of}
use Rattle.aim_manager.specs.declared.keeper.BookSetting.{BookSetting}
use Rattle.aim_agents.specs.Rests.{IsStill, AreStill}
use Rattle.aim_agents.specs.declared.agents.Trouble.{Trouble}
use Rattle.aim_agents.specs.declared.agents.Trouble.TheVariants as trouble

abbrev pub AgentPass : Type 0
AgentPass = PassModel BookSetting Entry

abbrev pub AgentFront : Type 0
AgentFront = FrontModel BookSetting Entry

-- a driver, the links on which its messages go up and the replies come down, its pass, the sheets that aren't in use, and
-- why it does nothing more, if it doesn't
pub record AgentModel : Type 0 where
  pub driver : DriverModel
  pub up : LinkModel Message
  pub down : LinkModel (ℕ × Reply)
  pub pass : AgentPass
  pub pool : Stock
  pub trouble : Option Trouble

-- its log and its links
abbrev pub state_of : AgentModel → State
state_of a = state a.driver.log a.up a.down

-- a front of the pass
abbrev pub front_of : AgentPass → AgentFront
front_of p = record { table = p.table; setting = p.setting; seen = p.seen }

-- the pass's own entries are all entries of its number that it has seen
abbrev pub IsWhole : AgentPass → Type 0
IsWhole p = entries_of caller_of p.number p.seen ≡ p.mine

-- the pass has seen as many entries as there is room for
abbrev pub IsFull : AgentPass → Type 0
IsFull p = IsSomeAnd p.setting (λ s. length p.seen ≡ s.room)

-- of three sheets those are in the pool that aren't kept for the pass's number
abbrev pub HasSheets : AgentPass → Stock → Type 0
HasSheets p stock = stock.count + sheets_kept p.number p.mine ≡ 3

-- what holds of every agent, which is still from the step `first` on and below `last`
pub record Stands (d : DriverModel) (up : LinkModel Message) (down : LinkModel (ℕ × Reply)) (p : AgentPass) (stock : Stock) (why : Option Trouble) (first last : ℕ) : Type 0 where
  pub whole : IsWhole p
  pub sheets : HasSheets p stock
  pub full : why ≡ Some trouble.Full → IsFull p
  pub still : AreStill d up down first last

-- its turn at the step does nothing: it is in trouble, or nothing is to be done
abbrev pub Idles : AgentModel → ℕ → Type 0
Idles a step = a.trouble ≡ None → IsStill a.driver a.up a.down step

-- an agent of this manager: its pass is a vehicle's, and its sheets have the room that the layout wants
pub record IsAgentOf (t : TurnstileModel BookSetting) (a : AgentModel) : Type 0 where
  pub pass : IsPassOf t a.pass
  pub vehicle : a.pass.number < t.setting.vehicles
  pub room : a.pool.room ≡ t.setting.layout.grid.spans
