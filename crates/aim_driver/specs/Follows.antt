-- What a driver does with its links over some steps, as a function of its plan, the fates and the replies of its calls.
use Rattle.std.specs.Prelude.{ℕ, zero, suc, ◌+◌, ◌-◌, Bool, true, false, List, [], ◌∷◌, ◌++◌, Option, Some, None, if◌then◌else◌}
use Rattle.aim_messages.specs.declared.messages.Message.{Message}
use Rattle.aim_messages.specs.declared.replies.Reply.{Reply}
use Rattle.aim_driver.specs.declared.plans.DrivePlan.{DrivePlan}
use Rattle.aim_driver.specs.declared.logs.LogItem.{LogItem}
use Rattle.aim_driver.specs.declared.links.Fate.{Fate}
use Rattle.aim_driver.specs.Turns.{State, begun}
use Rattle.aim_driver.specs.Links.{under_way, new_link, sent_on, delivered, after_delivery}

-- a call of the manager
pub record Call : Type 0 where
  pub moment : ℕ
  pub message : Message

-- a driver on its way: its log and links, the calls made, the replies left, and whether it goes on
pub record Course : Type 0 where
  pub state : State
  pub calls : List Call
  pub left : List Reply
  pub goes_on : Bool

-- a course that goes on
abbrev pub running : State → List Call → List Reply → Course
running s calls left = record { state = s; calls = calls; left = left; goes_on = true }

-- one that has halted
abbrev pub halted : State → List Call → Course
halted s calls = record { state = s; calls = calls; left = []; goes_on = false }

abbrev pub call : ℕ → Message → Call
call step m = record { moment = step; message = m }

-- the message was taken from the up link
abbrev pub taken : ℕ → State → State
taken step s = record s { up = after_delivery s.up step }

-- and the pair of its number and its reply goes down
abbrev pub answered : ℕ → State → Message → Reply → State
answered step s m r = record s { up = after_delivery s.up step; down = sent_on s.down step (m.seq, r) }

-- It makes a call. Where no reply is left it goes no further.
abbrev pub called : ℕ → Course → Message → List Reply → Course
called step c m [] = halted (taken step c.state) (c.calls ++ call step m ∷ [])
called step c m (r ∷ rs) = running (answered step c.state m r) (c.calls ++ call step m ∷ []) rs

abbrev pub calls_with : ℕ → Course → Option Message → Course
calls_with step c None = c
calls_with step c (Some m) = called step c m c.left

-- a call of the message that comes on the up link, if one does
abbrev pub one_call : ℕ → Course → Course
one_call step c = if c.goes_on then calls_with step c (delivered c.state.up step) else c

-- after so many tries to make one
abbrev pub some_calls : ℕ → ℕ → Course → Course
some_calls step zero c = c
some_calls step (suc n) c = one_call step (some_calls step n c)

-- after a call of each message that comes, which are no more than are under way
abbrev pub calling : ℕ → Course → Course
calling step c = some_calls step (under_way c.state.up) c

-- one turn of an agent
abbrev pub turn : DrivePlan → ℕ → Course → Course
turn plan step c = if c.goes_on then calling step (record c { state = begun plan step c.state }) else c

-- so many turns, one a step, from the step `first` on
abbrev pub turns : DrivePlan → ℕ → ℕ → Course → Course
turns plan first zero c = c
turns plan first (suc n) c = turn plan (first + n) (turns plan first n c)

-- nothing was done, and nothing was sent on either link
abbrev pub fresh : List Fate → List Fate → State
fresh up down = record { log = []; up = new_link 0 up; down = new_link 1 down }

-- the course over the steps from `first` to `until` - 1
abbrev pub course : DrivePlan → List Fate → List Fate → ℕ → ℕ → List Reply → Course
course plan up down first until replies = turns plan first (until - first) (running (fresh up down) [] replies)

-- the log and the calls over the steps from `first` to `until` - 1
abbrev pub follows_from : DrivePlan → List Fate → List Fate → ℕ → ℕ → List Reply → List LogItem × List Call
follows_from plan up down first until replies = let c = course plan up down first until replies in (c.state.log, c.calls)

-- the log and the calls over the steps from 0 to `until` - 1
abbrev pub follows : DrivePlan → List Fate → List Fate → ℕ → List Reply → List LogItem × List Call
follows plan up down until replies = follows_from plan up down 0 until replies
