-- What a message's number says, by the tests on it.
use Rattle.std.proofs.Common.{◌≡◌, ◌<◌, ◌≤◌, true, false, Some, lt-ltb, le-ltb, refl, arith}
use Rattle.aim_messages.specs.declared.messages.Message.{Message}
use Rattle.aim_messages.specs.Same.{same_message}
use Rattle.aim_sessions.specs.declared.sessions.Exchange.{Exchange}
use Rattle.aim_sessions.specs.declared.sessions.Look.TheVariants as look
use Rattle.aim_sessions.specs.Looks.{look_of}

module _ (last : Exchange) (m : Message) where
  -- the message's number is above the last one's
  pub look_above : last.message.seq < m.seq → look_of (Some last) m ≡ look.Fresh
  look_above above = rw (lt-ltb last.message.seq m.seq above) refl

  -- the message's number is below the last one's
  pub look_below : m.seq < last.message.seq → look_of (Some last) m ≡ look.Stale last.message.seq
  look_below below = rw (le-ltb last.message.seq m.seq (omega arith), lt-ltb m.seq last.message.seq below) refl

  module _ (not_above : m.seq ≤ last.message.seq) (not_below : last.message.seq ≤ m.seq) where
    -- it is the last message
    pub look_again : true ≡ same_message m last.message → look_of (Some last) m ≡ look.Repeat last.reply
    look_again same = rw (le-ltb last.message.seq m.seq not_above, le-ltb m.seq last.message.seq not_below, ← same) refl

    -- it is another one
    pub look_other : false ≡ same_message m last.message → look_of (Some last) m ≡ look.Reused
    look_other same = rw (le-ltb last.message.seq m.seq not_above, le-ltb m.seq last.message.seq not_below, ← same) refl
