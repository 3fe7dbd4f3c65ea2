use Rattle.aim_text_entries.proofs.EntryAgain.{entry_alone}
use Rattle.aim_text_entries.proofs.laws.entry_has_one_text.Goals as goal

pub returns : goal.returns
returns c = entry_alone
