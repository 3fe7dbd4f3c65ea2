-- What the parts of a turn do. No public clause cites it.
use Rattle.std.specs.Prelude.{◌≡◌, ℕ, ◌≤◌, List, [], ◌∷◌, ◌++◌, Result, Err, MatchResult, OnOk}
use Rattle.aim_messages.specs.declared.entries.Act.TheVariants as act
use Rattle.aim_messages.specs.declared.entries.Entry.{Entry}
use Rattle.aim_messages.specs.declared.messages.Message.{Message}
use Rattle.aim_messages.specs.declared.replies.Reply.{Reply}
use Rattle.aim_driver.specs.Models.{step_of}
use Rattle.aim_driver.specs.Links.{LinkModel, sent_on}
use Rattle.aim_driver.specs.Follows.{Call, Course, running, halted}
use Rattle.aim_turnstile.specs.Models.{IsSamePass}
use Rattle.aim_manager.specs.Seen.{Extends, FindsFull}
use Rattle.aim_manager.specs.declared.keeper.BookSetting.{BookSetting}
use Rattle.aim_agents.specs.declared.agents.Trouble.{Trouble}
use Rattle.aim_agents.specs.declared.agents.Trouble.TheVariants as trouble
use Rattle.aim_agents.specs.Agents.{AgentModel, IsWhole, IsFull, state_of}
use Rattle.aim_agents.specs.Places.{IsCallSince}
use Rattle.aim_agents.specs.Went.{Extended, Carry, replies}

-- the link after the reply to a message came, where it was sent on
abbrev pub sent_down : LinkModel (ℕ × Reply) → ℕ → Message → Reply → LinkModel (ℕ × Reply)
sent_down down step m r = sent_on down step (m.seq, r)

-- a call got its reply, which went down
pub record Answered (s : BookSetting) (step : ℕ) (m : Message) (a b : AgentModel) : Type 0 where
  pub reply : Reply
  pub extends : Extends s step (act.Message m) reply a.pass b.pass
  pub down : b.down ≡ sent_down a.down step m reply

-- a call got a reply that didn't go down, or it found the journal full
abbrev pub Failed : BookSetting → ℕ → Message → AgentModel → AgentModel → Trouble → Type 0
Failed s step m a b trouble.NoMemory = (reply : Reply) × Extends s step (act.Message m) reply a.pass b.pass
Failed s step m a b trouble.Full = FindsFull s a.pass b.pass × (b.down ≡ a.down)

-- a call of the message, which had come on the up link before
pub record Called (s : BookSetting) (step : ℕ) (m : Message) (result : Result (Unit {0}) Trouble) (a b : AgentModel) : Type 0 where
  pub same : IsSamePass a.pass b.pass
  pub driver : b.driver ≡ a.driver
  pub up : b.up ≡ a.up
  pub room : b.pool.room ≡ a.pool.room
  pub why : b.trouble ≡ a.trouble
  pub was : IsWhole a.pass
  pub whole : IsWhole b.pass
  pub did : MatchResult result (λ _. Answered s step m a b) (Failed s step m a b)

-- What a part of a turn did, where f is what the rules say of it. The trouble of the agent stays: it is told by the result.
pub record Tried (s : BookSetting) (f : Course → Course) (step : ℕ) (result : Result (Unit {0}) Trouble) (a b : AgentModel) : Type 0 where
  pub same : IsSamePass a.pass b.pass
  pub plan : b.driver.plan ≡ a.driver.plan
  pub room : b.pool.room ≡ a.pool.room
  pub why : b.trouble ≡ a.trouble
  pub was : IsWhole a.pass
  pub whole : IsWhole b.pass
  pub made : List Entry
  pub asked : List Call
  pub carried : Carry made asked
  pub calls : Extended s a.pass made b.pass
  pub times : (k : ℕ) (e : Entry) → IsCallSince a b k e → e.moment ≡ step
  pub late : step_of b.driver.log ≤ step
  pub course : OnOk result ((before : List Call) (more : List Reply) →
      f (running (state_of a) before (replies made ++ more)) ≡ running (state_of b) (before ++ asked) more)
  pub halts : result ≡ Err trouble.Full → IsFull b.pass × ((before : List Call) →
      (extra : Call) × (f (running (state_of a) before (replies made)) ≡ halted (state_of b) (before ++ (asked ++ extra ∷ []))))
