use Rattle.std.proofs.Common.{◌≡◌, ◌≤◌, ℕ, List}
use Rattle.aim_driver.specs.declared.plans.DrivePlan.{DrivePlan}
use Rattle.aim_messages.specs.declared.replies.Reply.{Reply}
use Rattle.aim_driver.specs.declared.logs.LogItem.{LogItem}
use Rattle.aim_driver.specs.Links.{LinkModel, under_way}
use Rattle.aim_driver.specs.Models.{step_of}
use Rattle.aim_driver.proofs.HearLemmas.{Hearing}
use Rattle.aim_driver.proofs.turns.hear.Given as goal

pub record Going (plan plan' : DrivePlan) (last step : ℕ) (log : List LogItem) (down : LinkModel (ℕ × Reply)) (log' : List LogItem) (down' : LinkModel (ℕ × Reply)) : Type 0 where
  pub same : plan' ≡ plan
  pub early : last ≤ step
  pub hearing : Hearing step log down log' down'

abbrev pub invariant-loop-seq : goal.invariant-loop-seq
invariant-loop-seq l = Going l.initial.driver.plan l.driver.plan (step_of l.driver.log) l.step l.initial.driver.log l.initial.down l.driver.log l.down

abbrev pub decreases-loop-seq : goal.decreases-loop-seq
decreases-loop-seq l = under_way l.down
