-- The part of an agent's turn in which it makes no call: it hears the replies that come, enters and acts.
use Rattle.std.specs.Prelude.{ℕ, zero, suc, List, [], ◌∷◌, ◌++◌, Option, Some, None}
use Rattle.aim_messages.specs.declared.messages.Message.{Message}
use Rattle.aim_messages.specs.declared.replies.Reply.{Reply}
use Rattle.aim_driver.specs.declared.plans.DrivePlan.{DrivePlan}
use Rattle.aim_driver.specs.declared.logs.LogItem.{LogItem}
use Rattle.aim_driver.specs.declared.logs.LogItem.TheVariants as item
use Rattle.aim_driver.specs.Models.{enters, acts, with_entered, with_sent}
use Rattle.aim_driver.specs.Links.{LinkModel, under_way, sent_on, delivered, after_delivery}

-- a driver's log, the link on which its messages go up, and the one on which pairs of a number and a reply come down
pub record State : Type 0 where
  pub log : List LogItem
  pub up : LinkModel Message
  pub down : LinkModel (ℕ × Reply)

abbrev pub state : List LogItem → LinkModel Message → LinkModel (ℕ × Reply) → State
state log up down = record { log = log; up = up; down = down }

abbrev pub heard : ℕ → State → Option (ℕ × Reply) → State
heard step s None = s
heard step s (Some (seq, r)) = record s { log = s.log ++ item.Got step seq r ∷ []; down = after_delivery s.down step }

-- after so many tries to hear one
abbrev pub hears : ℕ → ℕ → State → State
hears step zero s = s
hears step (suc n) s = let d = hears step n s in heard step d (delivered d.down step)

-- after all that come at the step, which are no more than are under way
abbrev pub hears_all : ℕ → State → State
hears_all step s = hears step (under_way s.down) s

abbrev pub entering : DrivePlan → ℕ → State → State
entering plan step s = record s { log = with_entered s.log step (enters plan s.log step) }

abbrev pub sent_up : LinkModel Message → ℕ → Option Message → LinkModel Message
sent_up up step None = up
sent_up up step (Some m) = sent_on up step m

abbrev pub sending : ℕ → State → Option Message → State
sending step s m = record s { log = with_sent s.log step m; up = sent_up s.up step m }

abbrev pub acting : DrivePlan → ℕ → State → State
acting plan step s = sending step s (acts plan s.log step)

-- it hears, enters if it does, and acts; a message goes up
abbrev pub begun : DrivePlan → ℕ → State → State
begun plan step s = acting plan step (entering plan step (hears_all step s))
