use Rattle.aim_messages.proofs.SameLemmas.{same_message-is}
use Rattle.aim_messages.proofs.laws.same_messages_are_equal.Goals as goal

pub returns : goal.returns
returns c = same_message-is
