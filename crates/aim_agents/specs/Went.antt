-- What agents do, from one state to a later one.
use Rattle.std.specs.Prelude.{◌≡◌, ℕ, ◌+◌, ◌<◌, ◌≤◌, List, [], ◌∷◌, ◌++◌, map, Some, None}
use Rattle.aim_messages.specs.declared.entries.Entry.{Entry}
use Rattle.aim_messages.specs.declared.messages.Message.{Message}
use Rattle.aim_messages.specs.declared.replies.Reply.{Reply}
use Rattle.aim_sheets.specs.Pools.{Stock}
use Rattle.aim_driver.specs.Models.{DriverModel, step_of}
use Rattle.aim_driver.specs.Links.{LinkModel}
use Rattle.aim_driver.specs.Follows.{Call, Course, running, halted, turns}
use Rattle.aim_driver.specs.Fits.{call_of, reply_of}
use Rattle.aim_turnstile.specs.History.{Begins}
use Rattle.aim_turnstile.specs.Models.{IsSamePass}
use Rattle.aim_manager.specs.Seen.{Extends, Meets}
use Rattle.aim_manager.specs.declared.keeper.BookSetting.{BookSetting}
use Rattle.aim_agents.specs.declared.agents.Trouble.TheVariants as trouble
use Rattle.aim_agents.specs.Agents.{AgentPass, AgentFront, AgentModel, IsWhole, state_of}
use Rattle.aim_agents.specs.Places.{IsCallSince}

-- more was seen, and no call was made
pub record Sees (p q : AgentPass) : Type 0 where
  pub same : IsSamePass p q
  pub begins : Begins p.seen q.seen
  pub mine : q.mine ≡ p.mine

-- the call whose entry is e extended the pass
pub record ExtendsBy (s : BookSetting) (e : Entry) (p q : AgentPass) : Type 0 where
  pub same : IsSamePass p q
  pub caller : e.caller ≡ p.number
  pub extends : Extends s e.moment e.act e.reply p q

-- Calls and meetings led from the one pass to the other, and these are the calls' entries, in order. Each of them extended
-- the pass.
abbrev pub Extended : BookSetting → AgentPass → List Entry → AgentPass → Type 0
Extended s p [] q = Sees p q
Extended s p (e ∷ es) q = (m : AgentPass) × ExtendsBy s e p m × Extended s m es q

abbrev pub replies : List Entry → List Reply
replies es = map reply_of es

-- the entries carry just these calls
abbrev pub Carry : List Entry → List Call → Type 0
Carry es calls = map call_of es ≡ map (λ x. Some x) calls

-- an agent that has done nothing
abbrev pub new_agent : DriverModel → LinkModel Message → LinkModel (ℕ × Reply) → AgentPass → Stock → AgentModel
new_agent driver up down pass pool = record { driver = driver; up = up; down = down; pass = pass; pool = pool; trouble = None }

-- What an agent did, where f is what the rules say of it.
-- Its calls have moments from `first` on and below `last`, and each of them extended its pass. Where it is without
-- trouble its course is the one that f gives for the replies of these calls, whatever was called before and is replied
-- behind. Where it came to a journal without room, f gives this course and one call more. An agent that was in trouble
-- did nothing, and its pass met fronts at most.
pub record Goes (s : BookSetting) (f : Course → Course) (first last : ℕ) (a b : AgentModel) : Type 0 where
  pub same : IsSamePass a.pass b.pass
  pub plan : b.driver.plan ≡ a.driver.plan
  pub room : b.pool.room ≡ a.pool.room
  pub whole : IsWhole a.pass → IsWhole b.pass
  pub made : List Entry
  pub asked : List Call
  pub carried : Carry made asked
  pub calls : Extended s a.pass made b.pass
  pub times : (k : ℕ) (e : Entry) → IsCallSince a b k e → (first ≤ e.moment) × (e.moment < last)
  pub calm : b.trouble ≡ None → a.trouble ≡ None
  pub course : b.trouble ≡ None → (before : List Call) (more : List Reply) →
      f (running (state_of a) before (replies made ++ more)) ≡ running (state_of b) (before ++ asked) more
  pub halts : a.trouble ≡ None → b.trouble ≡ Some trouble.Full → (before : List Call) →
      (extra : Call) × (f (running (state_of a) before (replies made)) ≡ halted (state_of b) (before ++ (asked ++ extra ∷ [])))
  pub idle : (a.trouble ≡ None → ⊥) → (b ≡ record a { pass = b.pass }) × (made ≡ []) × (asked ≡ [])

-- What an agent did in its turns of the steps from `first` on and below `last`, and in any meetings.
pub record Went (s : BookSetting) (first last : ℕ) (a b : AgentModel) : Type 0 where
  pub count : ℕ
  pub steps : first + count ≡ last
  pub goes : Goes s (turns a.driver.plan first count) first last a b
  pub late : step_of a.driver.log ≤ first → step_of b.driver.log ≤ last

-- the agent's pass met a front, and all else stayed
pub record Met (s : BookSetting) (a : AgentModel) (front : AgentFront) (b : AgentModel) : Type 0 where
  pub same : IsSamePass a.pass b.pass
  pub rest : b ≡ record a { pass = b.pass }
  pub was : IsWhole a.pass
  pub meets : Meets s a.pass front b.pass
