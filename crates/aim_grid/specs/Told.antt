-- What is kept of a log to tell whether its driver is through. No public clause cites this file.
use Rattle.std.specs.Prelude.{ℕ, List, Some, None, fold, if◌then◌else◌}
use Rattle.aim_messages.specs.declared.messages.Message.{Message}
use Rattle.aim_messages.specs.declared.replies.Reply.{Reply}
use Rattle.aim_driver.specs.declared.logs.LogItem.{LogItem}
use Rattle.aim_driver.specs.declared.logs.LogItem.TheVariants as item
use Rattle.aim_driver.specs.Logs.{is_above, latest, answer, counts_with}
use Rattle.aim_grid.specs.declared.acks.Told.{Told}
use Rattle.aim_grid.specs.Acked.{answered_at}

abbrev pub told : List LogItem → Told
told past = record { latest = latest past; answer = answer past; at = answered_at past }

-- after a message was sent
abbrev pub told_sent : Told → Message → Told
told_sent t m = if is_above m.seq t.latest then (record { latest = Some m; answer = None; at = None }) else t

-- after a reply was got
abbrev pub told_got : Told → ℕ → ℕ → Reply → Told
told_got t step seq r = if counts_with t.latest t.answer seq then (record { latest = t.latest; answer = Some r; at = Some step }) else t

abbrev pub told_by : Told → LogItem → Told
told_by t (item.Sent step m) = told_sent t m
told_by t (item.Got step seq r) = told_got t step seq r
told_by t (item.Entered step id) = t

abbrev pub nothing : Told
nothing = record { latest = None; answer = None; at = None }

abbrev pub told_all : List LogItem → Told
told_all log = fold told_by nothing log
