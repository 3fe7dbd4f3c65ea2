-- Journals without room, and agents that stay a manager's.
use Rattle.std.proofs.Common.{◌≡◌, ℕ, length, Option, Some, None, sym, ◌∙◌, subst, arith}
use Rattle.std.specs.Prelude.{IsSomeAnd}
use Rattle.aim_messages.specs.declared.messages.Message.{Message}
use Rattle.aim_messages.specs.declared.replies.Reply.{Reply}
use Rattle.aim_sheets.specs.Pools.{Stock}
use Rattle.aim_driver.specs.Models.{DriverModel}
use Rattle.aim_driver.specs.Links.{LinkModel}
use Rattle.aim_turnstile.specs.Models.{IsSamePass, TurnstileModel}
use Rattle.aim_manager.specs.declared.keeper.BookSetting.{BookSetting}
use Rattle.aim_agents.specs.Agents.{AgentPass, AgentModel, IsWhole, IsFull, HasSheets, Stands, IsAgentOf}
use Rattle.aim_agents.specs.declared.agents.Trouble.{Trouble}
use Rattle.aim_agents.specs.declared.agents.Trouble.TheVariants as trouble
use Rattle.aim_agents.specs.Went.{Went}
use Rattle.aim_driver.proofs.SmallFacts.{none_some}

pub full_is : (s : BookSetting) (p : AgentPass) → p.setting ≡ Some s → length p.seen ≡ s.room → IsFull p
full_is s p set is = subst (λ o. IsSomeAnd o (λ x. length p.seen ≡ x.room)) (sym set) is

-- what holds of an agent without trouble of which it isn't known that it rests
pub stands_awake : (d : DriverModel) (up : LinkModel Message) (down : LinkModel (ℕ × Reply)) (p : AgentPass) (stock : Stock) (why : Option Trouble)
    → IsWhole p → HasSheets p stock → why ≡ None → Stands d up down p stock why 0 0
stands_awake d up down p stock why whole sheets calm = record {
  whole = whole;
  sheets = sheets;
  full = λ is. none_some trouble.Full (sym calm ∙ is);
  still = λ step lo hi. absurd (omega arith);
}

-- an agent of a manager stays one
pub agent_of : (t : TurnstileModel BookSetting) (a b : AgentModel) → IsSamePass a.pass b.pass → b.pool.room ≡ a.pool.room → IsAgentOf t a → IsAgentOf t b
agent_of t a b same room of = record {
  pass = record { table = same.table ∙ of.pass.table; setting = same.setting ∙ of.pass.setting };
  vehicle = let is : b.pass.number ≡ a.pass.number = same.number in let l = of.vehicle in omega arith;
  room = room ∙ of.room;
}

pub agent_went : (t : TurnstileModel BookSetting) (s : BookSetting) (first last : ℕ) (a b : AgentModel) → Went s first last a b → IsAgentOf t a → IsAgentOf t b
agent_went t s first last a b w of = agent_of t a b w.goes.same w.goes.room of
