-- A part of a turn in which no call is made, step by step.
use Rattle.std.proofs.Common.{◌≡◌, ℕ, List, Option, ap}
use Rattle.aim_messages.specs.declared.messages.Message.{Message}
use Rattle.aim_messages.specs.declared.replies.Reply.{Reply}
use Rattle.aim_driver.specs.declared.plans.DrivePlan.{DrivePlan}
use Rattle.aim_driver.specs.declared.logs.LogItem.{LogItem}
use Rattle.aim_driver.specs.Models.{acts, enters, with_sent, with_entered}
use Rattle.aim_driver.specs.Turns.{State, state, hears_all, entering, acting, begun, sent_up}
use Rattle.aim_driver.specs.Links.{LinkModel}

-- It hears, enters and acts, and room is made before each of the last two.
pub begins : (plan plan1 plan2 : DrivePlan) (step : ℕ) (first : State) (heard log1 entered log2 acted : List LogItem) (m : Option Message)
    (up up1 : LinkModel Message) (down : LinkModel (ℕ × Reply))
    → plan1 ≡ plan → plan2 ≡ plan
    → state heard up down ≡ hears_all step first
    → log1 ≡ heard → entered ≡ with_entered log1 step (enters plan1 log1 step)
    → log2 ≡ entered → m ≡ acts plan2 log2 step → acted ≡ with_sent log2 step (acts plan2 log2 step)
    → up1 ≡ sent_up up step m
    → state acted up1 down ≡ begun plan step first
begins plan plan1 plan2 step first heard log1 entered log2 acted m up up1 down p1 p2 hears l1 enters_is l2 m_is acted_is up_is =
    rw (up_is, m_is, acted_is, l2, enters_is, l1, p1, p2) (ap (λ s. acting plan step (entering plan step s)) hears)
