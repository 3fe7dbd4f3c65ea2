-- Sessions whose manager belongs to no ledger.
use Rattle.std.specs.Prelude.{List, Result, Ok, Err}
use Rattle.aim_messages.specs.declared.script.Line.{Line}
use Rattle.aim_book.specs.Idle.{joined as desk_joined}
use Rattle.aim_script.specs.declared.settings.Setting.{Setting}
use Rattle.aim_line_session.specs.declared.idle.IdleProgress.{IdleProgress}
use Rattle.aim_line_session.specs.declared.idle.IdleServer.{IdleServer}
use Rattle.aim_line_session.specs.declared.progress.Progress.{Progress}
use Rattle.aim_line_session.specs.declared.progress.Unopened.{Unopened}
use Rattle.aim_line_session.specs.declared.servers.DeskServer.{DeskServer}
use Rattle.aim_line_session.specs.Sessions.{Opens}

-- the manager of the same parts, in a ledger
abbrev pub server_joined : {L : Type 0} → IdleServer → DeskServer L
server_joined s = record { layout = s.layout; vehicles = s.vehicles; entries = s.entries; orders = s.orders; desk = desk_joined s.desk; shapes = s.shapes; pool = s.pool }

-- the session of the same parts, in a ledger
abbrev pub joined : {L : Type 0} → IdleProgress → Progress L
joined p = record { version = p.version; names = p.names; server = server_joined p.server; ended = p.ended }

-- what was opened, in a ledger that nothing counts
abbrev pub opened_in_none : Result IdleProgress Unopened → Result (Progress (Unit {0})) Unopened
opened_in_none (Ok p) = Ok (joined p)
opened_in_none (Err why) = Err why

-- what opening a session for these lines comes to
abbrev pub IdleOpens : List Line → Setting → Result IdleProgress Unopened → Type 0
IdleOpens before s r = Opens {L = Unit {0}} before s (opened_in_none r)
