-- What a message says to its sender.
use Rattle.std.specs.Prelude.{ℕ, Bool, true, false, Option, Some, None, is_some}
use Rattle.aim_messages.specs.declared.messages.Message.{Message}
use Rattle.aim_messages.specs.declared.messages.Body.{Body}
use Rattle.aim_messages.specs.declared.messages.Body.TheVariants as body

abbrev pub changed_by : Body → Option ℕ
changed_by (body.Request p) = None
changed_by (body.Change id p) = Some id
changed_by (body.Cancel id) = None
changed_by (body.Done id) = None

-- what the message would change, if it is a CHANGE-REQUEST
abbrev pub changed : Option Message → Option ℕ
changed None = None
changed (Some m) = changed_by m.body

-- CANCEL, DONE and CHANGE-REQUEST end what was active
abbrev pub active_sent : Body → Option ℕ → Option ℕ
active_sent (body.Request p) active = active
active_sent (body.Change id p) active = None
active_sent (body.Cancel id) active = None
active_sent (body.Done id) active = None

abbrev pub is_done : Body → Bool
is_done (body.Request p) = false
is_done (body.Change id p) = false
is_done (body.Cancel id) = false
is_done (body.Done id) = true

abbrev pub is_cancel : Body → Bool
is_cancel (body.Request p) = false
is_cancel (body.Change id p) = false
is_cancel (body.Cancel id) = true
is_cancel (body.Done id) = false

abbrev pub is_change : Body → Bool
is_change b = is_some (changed_by b)
