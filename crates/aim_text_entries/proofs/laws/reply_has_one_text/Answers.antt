use Rattle.aim_text_entries.proofs.EntryAgain.{reply_alone}
use Rattle.aim_text_entries.proofs.laws.reply_has_one_text.Goals as goal

pub returns : goal.returns
returns c = reply_alone
