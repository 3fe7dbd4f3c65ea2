-- What a message's number says, after the vehicle's last message.
use Rattle.std.specs.Prelude.{Bool, true, false, nat_lt, Option, Some, None, if◌then◌else◌}
use Rattle.aim_messages.specs.declared.messages.Message.{Message}
use Rattle.aim_messages.specs.Same.{same_message}
use Rattle.aim_sessions.specs.declared.sessions.Exchange.{Exchange}
use Rattle.aim_sessions.specs.declared.sessions.Look.{Look}
use Rattle.aim_sessions.specs.declared.sessions.Look.TheVariants as look

abbrev pub look_of : Option Exchange → Message → Look
look_of None m = look.Fresh
look_of (Some last) m =
    if nat_lt last.message.seq m.seq then look.Fresh
    else if nat_lt m.seq last.message.seq then look.Stale last.message.seq
    else if same_message m last.message then look.Repeat last.reply
    else look.Reused

abbrev pub is_fresh_look : Look → Bool
is_fresh_look look.Fresh = true
is_fresh_look (look.Repeat reply) = false
is_fresh_look (look.Stale last) = false
is_fresh_look look.Reused = false
