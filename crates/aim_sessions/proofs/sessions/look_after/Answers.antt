use Rattle.std.proofs.Common.{sym}
use Rattle.aim_sessions.proofs.Looking.{look_above, look_below, look_again, look_other}
use Rattle.aim_sessions.proofs.sessions.look_after.Goals as goal

pub returns-then-last-message : goal.returns-then-last-message
returns-then-last-message c = sym (look_above c.args.last.now c.args.message.now c.if-last-message.true)

pub returns-then-message-last : goal.returns-then-message-last
returns-then-message-last c = sym (look_below c.args.last.now c.args.message.now c.if-message-last.true)

pub returns-then-is_same : goal.returns-then-is_same
returns-then-is_same c = sym (look_again c.args.last.now c.args.message.now c.if-last-message.false c.if-message-last.false c.if-is_same.ensures)

pub returns : goal.returns
returns c = sym (look_other c.args.last.now c.args.message.now c.if-last-message.false c.if-message-last.false c.if-is_same.ensures)
